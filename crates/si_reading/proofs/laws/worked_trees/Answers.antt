use Rattle.si_reading.proofs.Worked.{worked_trees}
use Rattle.si_reading.proofs.laws.worked_trees.Goals as goal

pub returns : goal.returns
returns c = worked_trees
