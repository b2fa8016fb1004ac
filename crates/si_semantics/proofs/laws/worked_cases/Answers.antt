use Rattle.si_semantics.proofs.Worked.{worked}
use Rattle.si_semantics.proofs.laws.worked_cases.Goals as goal

pub returns : goal.returns
returns c = worked
