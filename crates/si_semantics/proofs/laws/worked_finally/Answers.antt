use Rattle.si_semantics.proofs.WorkedFinally.{worked}
use Rattle.si_semantics.proofs.laws.worked_finally.Goals as goal

pub returns : goal.returns
returns c = worked
