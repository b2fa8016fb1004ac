use Rattle.si_methods.proofs.Naming.{other_method, found_method}
use Rattle.si_methods.proofs.method.among.Goals as goal

pub loop-method-preserved : goal.loop-method-preserved
loop-method-preserved c = other_method _ _ _ _ _ _ _ c.loop-method-test.true c.loop-method.invariant c.name.ensures c.is_same.ensures c.if-is_same.false

pub returns-then-is_same : goal.returns-then-is_same
returns-then-is_same c = found_method _ _ _ _ _ _ _ c.loop-method-test.true c.loop-method.invariant c.name.ensures c.is_same.ensures c.if-is_same.true
