-- Values that fit into parcels.
use Rattle.std.specs.Prelude.{◌≡◌, Some}
use Rattle.si_semantics.specs.Value.{Value}
use Rattle.si_semantics.specs.Parcels.{Tree, IsParcel}
use Rattle.si_semantics.specs.Shareable.{parcel_of}

-- a value has a parcel within the limits
abbrev pub Fits : Value → Type 0
Fits v = (p : Tree) × (parcel_of v ≡ Some p) × IsParcel p
