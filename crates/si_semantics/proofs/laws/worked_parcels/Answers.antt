use Rattle.si_semantics.proofs.WorkedParcels.{worked}
use Rattle.si_semantics.proofs.laws.worked_parcels.Goals as goal

pub returns : goal.returns
returns c = worked
