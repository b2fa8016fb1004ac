use Rattle.si_semantics.proofs.WorkedBytes.{worked}
use Rattle.si_semantics.proofs.laws.worked_bytes.Goals as goal

pub returns : goal.returns
returns c = worked
