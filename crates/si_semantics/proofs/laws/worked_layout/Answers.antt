use Rattle.si_semantics.proofs.WorkedLayout.{worked_layout}
use Rattle.si_semantics.proofs.laws.worked_layout.Goals as goal

pub returns : goal.returns
returns c = worked_layout
