use Rattle.si_semantics.proofs.WorkedFunctions.{worked_functions}
use Rattle.si_semantics.proofs.laws.worked_functions.Goals as goal

pub returns : goal.returns
returns c = worked_functions
