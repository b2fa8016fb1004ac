use Rattle.si_schedule.proofs.Unique.{one_text}
use Rattle.si_schedule.proofs.laws.one_text.Goals as goal

pub returns : goal.returns
returns c = one_text
