use Rattle.si_slots.proofs.Life.{lives}
use Rattle.si_slots.proofs.laws.lives.Goals as goal

pub returns : goal.returns
returns c = lives
