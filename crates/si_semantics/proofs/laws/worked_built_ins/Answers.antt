use Rattle.si_semantics.proofs.WorkedBuiltIns.{worked}
use Rattle.si_semantics.proofs.laws.worked_built_ins.Goals as goal

pub returns : goal.returns
returns c = worked
