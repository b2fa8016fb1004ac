use Rattle.si_semantics.proofs.KindsAbove.{kinds_above}
use Rattle.si_semantics.proofs.laws.kinds_above.Goals as goal

pub returns : goal.returns
returns c = kinds_above
