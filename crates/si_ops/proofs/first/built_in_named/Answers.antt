use Rattle.si_ops.proofs.Named.{other_built_in, found_built_in}
use Rattle.si_ops.proofs.first.built_in_named.Goals as goal

pub loop-function-preserved : goal.loop-function-preserved
loop-function-preserved c = other_built_in _ _ _ _ _ _ _ c.loop-function-test.true c.loop-function.invariant c.built_in_name.ensures c.is_spelled.ensures c.if-is_spelled.false

pub returns-then-is_spelled : goal.returns-then-is_spelled
returns-then-is_spelled c = found_built_in _ _ _ _ _ _ _ c.loop-function-test.true c.loop-function.invariant c.built_in_name.ensures c.is_spelled.ensures c.if-is_spelled.true
