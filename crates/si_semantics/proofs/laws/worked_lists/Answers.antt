use Rattle.si_semantics.proofs.WorkedLists.{worked}
use Rattle.si_semantics.proofs.laws.worked_lists.Goals as goal

pub returns : goal.returns
returns c = worked
