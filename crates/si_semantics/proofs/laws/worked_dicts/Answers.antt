use Rattle.si_semantics.proofs.WorkedDicts.{worked}
use Rattle.si_semantics.proofs.laws.worked_dicts.Goals as goal

pub returns : goal.returns
returns c = worked
