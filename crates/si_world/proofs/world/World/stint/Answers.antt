use Rattle.std.proofs.Common.{arith, refl, sym, ◌∙◌, ◌+◌}
use Rattle.si_world.proofs.Serving.{gives_none, stint_moves, stint_ends, stint_stops, stint_goes_on, stint_starves}
use Rattle.si_world.proofs.world.World.stint.Goals as goal

pub loop-given-init : goal.loop-given-init
loop-given-init c = record {
  gives = λ t h. gives_none t c.args.self.now (omega arith);
  within = omega arith;
  first = λ _. refl;
  same = λ _. refl;
  some = λ e. cc;
}

pub loop-given-preserved : goal.loop-given-preserved
loop-given-preserved c = record {
  gives = λ t h. stint_goes_on t c.args.self.now c.turn-mark.new.self c.some_lines-lines.new.self (c.loop-given.given + 1) c.some_lines-lines.result.0 c.some_lines-lines.result.1 c.if-starved.false
      (stint_moves t c.loop-given.moved c.args.i c.turn-mark.result c.args.self.now c.loop-given.self c.turn-mark.new.self c.loop-given.given h (c.loop-given.invariant.gives t h) (sym c.is_move.ensures ∙ c.if-not-is_move.false) c.turn-mark.ensures.turned)
      c.some_lines-lines.ensures.gives;
  within = let a = c.loop-given-test.true in let b = c.some_lines-lines.ensures.within in omega arith;
  first = λ e. cc;
  same = λ e. cc;
  some = λ _. omega arith;
}

pub returns-then-starved-clause-gives : goal.returns-then-starved-clause-gives
returns-then-starved-clause-gives c =
    λ t h. stint_starves t c.args.self.now c.turn-mark.new.self c.some_lines-lines.new.self (c.loop-given.given + 1) c.some_lines-lines.result.0 c.some_lines-lines.result.1 c.if-starved.true
    (stint_moves t c.loop-given.moved c.args.i c.turn-mark.result c.args.self.now c.loop-given.self c.turn-mark.new.self c.loop-given.given h (c.loop-given.invariant.gives t h) (sym c.is_move.ensures ∙ c.if-not-is_move.false) c.turn-mark.ensures.turned)
    c.some_lines-lines.ensures.gives

pub returns-then-not-is_move-clause-gives : goal.returns-then-not-is_move-clause-gives
returns-then-not-is_move-clause-gives c =
    λ t h. stint_ends t c.loop-given.moved c.args.i c.turn-mark.result c.args.self.now c.loop-given.self c.turn-mark.new.self c.loop-given.given h (c.loop-given.invariant.gives t h) (sym c.is_move.ensures ∙ c.if-not-is_move.true) c.turn-mark.ensures.turned

pub returns-clause-gives : goal.returns-clause-gives
returns-clause-gives c = λ t h. stint_stops t c.loop-given.moved c.args.self.now c.loop-given.self c.loop-given.given (c.loop-given.invariant.gives t h)
