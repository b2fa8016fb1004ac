use Rattle.si_ops.proofs.Named.{passed_over, found_kind}
use Rattle.si_methods.proofs.values.kind_named.Goals as goal

pub loop-kind-preserved : goal.loop-kind-preserved
loop-kind-preserved c = passed_over _ _ _ _ _ _ _ c.loop-kind-test.true c.loop-kind.invariant c.name.ensures c.is_spelled.ensures c.if-is_spelled.false

pub returns-then-is_spelled : goal.returns-then-is_spelled
returns-then-is_spelled c = found_kind _ _ _ _ _ _ _ c.loop-kind-test.true c.loop-kind.invariant c.name.ensures c.is_spelled.ensures c.if-is_spelled.true
