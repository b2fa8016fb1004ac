use Rattle.si_semantics.proofs.WorkedTargets.{worked}
use Rattle.si_semantics.proofs.laws.worked_targets.Goals as goal

pub returns : goal.returns
returns c = worked
