use Rattle.si_reading.proofs.Trees.{texts_read_right}
use Rattle.si_reading.proofs.laws.texts_read_right.Goals as goal

pub returns : goal.returns
returns c = texts_read_right
