use Rattle.si_reading.proofs.Trees.{reads_only}
use Rattle.si_reading.proofs.laws.reads_only.Goals as goal

pub returns : goal.returns
returns c = reads_only
