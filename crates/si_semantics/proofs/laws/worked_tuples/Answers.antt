use Rattle.si_semantics.proofs.WorkedTuples.{worked}
use Rattle.si_semantics.proofs.laws.worked_tuples.Goals as goal

pub returns : goal.returns
returns c = worked
