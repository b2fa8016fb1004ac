use Rattle.si_reading.proofs.Trees.{reads_right}
use Rattle.si_reading.proofs.laws.reads_right.Goals as goal

pub returns : goal.returns
returns c = reads_right
