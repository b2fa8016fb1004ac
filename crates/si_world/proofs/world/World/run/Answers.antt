use Rattle.std.proofs.Common.{arith, take, get_or}
use Rattle.std.proofs.lemmas.List.{take_more}
use Rattle.si_world.proofs.Coring.{Ran-more, core_more}
use Rattle.si_world.proofs.world.World.run.Goals as goal

pub loop-turn-preserved : goal.loop-turn-preserved
loop-turn-preserved c =
    let xs = c.args.turns.now in
    let i = c.loop-turn.turn-index in
    let t = take_more xs i 0 c.loop-turn-test.true in
    let h = c.loop-turn.invariant in
    record {
      ran = rw (t, c.in-Ok.ensures.items) (Ran-more c.args.self.now (take i xs) c.loop-turn.marks.items c.loop-turn.self (get_or xs i 0) c.turn-mark.result c.turn-mark.new.self h.ran c.turn-mark.ensures.turned);
      room = let a = h.room in let b = c.push.ensures.capacity in omega arith;
      count = let a = h.count in let b = c.in-Ok.ensures.len in omega arith;
      core = λ n. rw (t, c.in-Ok.ensures.items) (core_more c.args.self.now c.loop-turn.self c.turn-mark.new.self (take i xs) c.loop-turn.marks.items (get_or xs i 0) c.turn-mark.result c.facts.ensures.world c.turn-mark.ensures.turned h.core n);
    }
