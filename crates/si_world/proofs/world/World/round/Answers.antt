use Rattle.std.proofs.Common.{◌≡◌, ◌+◌, ◌<◌, ◌≤◌, arith, ◌∙◌, true, if◌then◌else◌}
use Rattle.si_world.proofs.Serving.{gives_none, gives_wider, round_more, round_ends, none_moved, some_given}
use Rattle.si_world.proofs.Resting.{Rests, rests_none, rests_more}
use Rattle.si_world.proofs.world.World.round.Goals.{then-moved, else-moved}
use Rattle.si_world.proofs.world.World.round.Goals as goal

pub loop-i-init : goal.loop-i-init
loop-i-init c = record {
  gives = λ t h. gives_wider t c.args.self.now c.args.self.now 0 t (t + 0) (gives_none t c.args.self.now (omega arith)) (omega arith);
  within = omega arith;
  stints = omega arith;
  some = λ h. omega arith;
  rests = λ _ _. rests_none c.args.self.now;
}

pub loop-i-preserved : goal.loop-i-preserved
loop-i-preserved c =
    let h = c.loop-i.invariant in
    let small : c.loop-i.i ≤ 63 = (let a = c.created.ensures.few in let b = c.loop-i-test.true in omega arith) in
    let e : c.if-moved.moved ≡ (if c.loop-i.moved then true else c.stint-more.result.1) = elim c.if-moved.branch [
      | then-moved w ↦ rw (w.if-moved.true) (w.moved-is ∙ w.if-moved.true)
      | else-moved w ↦ rw (w.if-moved.false) w.moved-is
    ] in
    record {
      gives = λ t l. round_more t c.loop-i.i c.loop-i.moved c.stint-more.result.1 c.if-moved.moved c.args.self.now c.loop-i.self c.stint-more.new.self c.loop-i.given c.stint-more.result.0 e small l (h.gives t l) c.stint-more.ensures.gives;
      within = let a = c.stint-more.ensures.within in let b = h.within in omega arith;
      stints = omega arith;
      some = λ _ p. some_given c.loop-i.given c.stint-more.result.0 c.args.left p h.within c.stint-more.ensures.some;
      rests = λ n lt.
          let two = none_moved c.loop-i.moved c.stint-more.result.1 c.if-moved.moved e n in
          let before : Rests c.args.self.now c.loop-i.i c.loop-i.self = h.rests two.0 (omega arith) in
          let some : 0 < c.stint-more.result.0 = c.stint-more.ensures.some (let a = lt in omega arith) in
          rests_more c.args.self.now c.loop-i.self c.stint-more.new.self c.loop-i.i before (let a = c.created.ensures.value in let b = c.loop-i-test.true in omega arith) (c.stint-more.ensures.idle two.1 some);
    }

pub returns-clause-gives : goal.returns-clause-gives
returns-clause-gives c = λ t l. round_ends t c.loop-i.i c.loop-i.moved c.args.self.now c.loop-i.self c.loop-i.given c.loop-i.invariant.stints (c.loop-i.invariant.gives t l)
