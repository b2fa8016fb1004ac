use Rattle.si_share.proofs.Parts.{value_back, parcel_back}
use Rattle.si_share.proofs.laws.one_parcel.Goals as goal

pub returns : goal.returns
returns c = λ v p. (value_back v p, parcel_back p v)
