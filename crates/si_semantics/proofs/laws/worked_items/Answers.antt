use Rattle.si_semantics.proofs.WorkedItems.{worked}
use Rattle.si_semantics.proofs.laws.worked_items.Goals as goal

pub returns : goal.returns
returns c = worked
