use Rattle.si_semantics.proofs.WorkedAttributes.{worked}
use Rattle.si_semantics.proofs.laws.worked_attributes.Goals as goal

pub returns : goal.returns
returns c = worked
