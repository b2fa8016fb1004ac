use Rattle.si_schedule.proofs.Unique.{one_bad_line}
use Rattle.si_schedule.proofs.laws.one_bad_line.Goals as goal

pub returns : goal.returns
returns c = one_bad_line
