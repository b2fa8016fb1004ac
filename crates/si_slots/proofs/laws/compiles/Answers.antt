use Rattle.si_slots.proofs.Tables.{compiles}
use Rattle.si_slots.proofs.laws.compiles.Goals as goal

pub returns : goal.returns
returns c = compiles
