use Rattle.std.proofs.Common.{true, sym, ◌∙◌}
use Rattle.si_scope.proofs.Declared.{none_taken, next_distinct, next_taken, all_taken}
use Rattle.si_scope.proofs.seen.Seen.new.Goals as goal

pub loop-parameter-init : goal.loop-parameter-init
loop-parameter-init c = none_taken c.args.parameters.now c.new-used.result c.new-locals.result c.new-used.ensures c.new-locals.ensures

pub returns-then-is_some-clause-scope : goal.returns-then-is_some-clause-scope
returns-then-is_some-clause-scope c = λ _.
    next_distinct c.args.parameters.now c.loop-parameter.parameter-index c.parameter-item.result c.as_str-name.result.now c.position.result true c.loop-parameter.used c.loop-parameter.locals c.loop-parameter-test.true (sym c.parameter-item.is) c.as_str-name.ensures.value
    c.position.ensures (sym c.is_some.ensures ∙ c.if-is_some.true) c.loop-parameter.invariant

pub loop-parameter-preserved : goal.loop-parameter-preserved
loop-parameter-preserved c =
    next_taken c.args.parameters.now c.loop-parameter.parameter-index c.parameter-item.result c.as_str-name.result.now c.position.result c.loop-parameter.used c.loop-parameter.locals c.slot_of.new.self c.slot_of-in-loop-parameter.new.self
    c.loop-parameter-test.true (sym c.parameter-item.is) c.as_str-name.ensures.value c.position.ensures (sym c.is_some.ensures ∙ c.if-is_some.false) c.in_ok-slot_of.ensures.names c.in_ok-slot_of-2.ensures.names c.loop-parameter.invariant

pub returns-clause-used : goal.returns-clause-used
returns-clause-used c = (all_taken c.args.parameters.now c.loop-parameter.parameter-index c.loop-parameter.used c.loop-parameter.locals c.loop-parameter-test.false c.loop-parameter.invariant).0

pub returns-clause-locals : goal.returns-clause-locals
returns-clause-locals c = c.loop-parameter.invariant.same ∙ (all_taken c.args.parameters.now c.loop-parameter.parameter-index c.loop-parameter.used c.loop-parameter.locals c.loop-parameter-test.false c.loop-parameter.invariant).0

pub returns-clause-distinct : goal.returns-clause-distinct
returns-clause-distinct c = (all_taken c.args.parameters.now c.loop-parameter.parameter-index c.loop-parameter.used c.loop-parameter.locals c.loop-parameter-test.false c.loop-parameter.invariant).1
