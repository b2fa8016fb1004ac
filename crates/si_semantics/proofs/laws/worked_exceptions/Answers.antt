use Rattle.si_semantics.proofs.WorkedExceptions.{worked}
use Rattle.si_semantics.proofs.laws.worked_exceptions.Goals as goal

pub returns : goal.returns
returns c = worked
