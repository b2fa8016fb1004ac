use Rattle.si_semantics.proofs.WorkedScope.{worked_scope}
use Rattle.si_semantics.proofs.laws.worked_scope.Goals as goal

pub returns : goal.returns
returns c = worked_scope
