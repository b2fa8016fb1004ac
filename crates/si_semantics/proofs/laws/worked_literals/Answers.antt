use Rattle.si_semantics.proofs.WorkedLiterals.{worked}
use Rattle.si_semantics.proofs.laws.worked_literals.Goals as goal

pub returns : goal.returns
returns c = worked
