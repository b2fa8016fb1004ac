use Rattle.si_slots.proofs.Tables.{knows_more}
use Rattle.si_slots.proofs.laws.knows_more.Goals as goal

pub returns : goal.returns
returns c = knows_more
