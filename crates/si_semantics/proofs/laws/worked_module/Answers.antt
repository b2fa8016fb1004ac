use Rattle.si_semantics.proofs.WorkedModule.{worked}
use Rattle.si_semantics.proofs.laws.worked_module.Goals as goal

pub returns : goal.returns
returns c = worked
