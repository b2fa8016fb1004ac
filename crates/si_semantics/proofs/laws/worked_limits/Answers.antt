use Rattle.si_semantics.proofs.WorkedLimits.{worked_limits}
use Rattle.si_semantics.proofs.laws.worked_limits.Goals as goal

pub returns : goal.returns
returns c = worked_limits
