use Rattle.si_semantics.proofs.WorkedShared.{worked_shared}
use Rattle.si_semantics.proofs.laws.worked_shared.Goals as goal

pub returns : goal.returns
returns c = worked_shared
