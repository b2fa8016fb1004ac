use Rattle.std.proofs.Common.{Ok, arith, sym, ap, ◌∙◌}
use Rattle.si_arena.specs.Memory.{value_of}
use Rattle.si_arena.proofs.Sizes.{lies_at}
use Rattle.si_ops.proofs.Equal.{any_next, any_found, any_refused, any_end}
use Rattle.si_ops.proofs.membership.is_any_of.Goals as goal

pub are_equal-requires-clause-y : goal.are_equal-requires-clause-y
are_equal-requires-clause-y c = lies_at c.args.arena.now c.args.items.now c.loop-i.i _ _ c.index-items-i.is c.loop-i-test.true c.requires.items

pub loop-i-preserved : goal.loop-i-preserved
loop-i-preserved c = λ w e.
    let m = c.args.arena.now in
    any_next m c.args.items.now (value_of m c.args.item) c.loop-i.i _ w c.loop-i-test.true c.index-items-i.is (c.in-Ok-false.ensures w e ∙ ap Ok c.in-Ok-false.field-0-test) ∙ c.loop-i.invariant w e

pub returns-in-Ok-true : goal.returns-in-Ok-true
returns-in-Ok-true c = λ w e.
    let m = c.args.arena.now in
    sym (c.loop-i.invariant w e)
    ∙ any_found m c.args.items.now (value_of m c.args.item) c.loop-i.i _ w c.loop-i-test.true c.index-items-i.is (c.in-Ok-true.ensures w e ∙ ap Ok c.in-Ok-true.field-0-test)

pub returns-in-Err : goal.returns-in-Err
returns-in-Err c = λ w e.
    let m = c.args.arena.now in
    sym (c.loop-i.invariant w e)
    ∙ any_refused m c.args.items.now (value_of m c.args.item) c.loop-i.i _ w c.loop-i-test.true c.index-items-i.is c.in-Err.refusal (c.in-Err.ensures w e)

pub returns : goal.returns
returns c = λ w e.
    let m = c.args.arena.now in
    sym (c.loop-i.invariant w e) ∙ any_end m c.args.items.now (value_of m c.args.item) c.loop-i.i w (omega arith)
