use Rattle.si_schedule.proofs.Worked.{worked}
use Rattle.si_schedule.proofs.laws.worked_cases.Goals as goal

pub returns : goal.returns
returns c = worked
