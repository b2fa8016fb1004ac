use Rattle.si_history.proofs.Worked.{worked}
use Rattle.si_history.proofs.cases.worked_history.Goals as goal

pub returns : goal.returns
returns c = worked
