-- What is proved of copies.
use Rattle.std.specs.Prelude.{◌≡◌, ◌↔◌, is_some, true, Some, Ok}
use Rattle.si_semantics.specs.Value.{Value}
use Rattle.si_semantics.specs.Parcels.{Tree}
use Rattle.si_semantics.specs.Shareable.{parcel_of, value_of_parcel}
use Rattle.si_arena.specs.declared.value.Ref.{Ref}
use Rattle.si_arena.specs.Memory.{Memory, value_of}
use Rattle.si_share.specs.Copies.{CopiesOut, CopiesIn}

-- the definitions agree: a value is that of its parcel, and a parcel is that of its value
abbrev pub OneParcel : Type 0
OneParcel = (v : Value) (p : Tree) → (parcel_of v ≡ Some p) ↔ (value_of_parcel p ≡ Some v)

-- what was copied out of one arena and into another denotes there what it denoted
abbrev pub CopiedIsEqual : Type 0
CopiedIsEqual =
    (from old new : Memory) (r s : Ref) (p : Tree)
    → CopiesOut (value_of from r) (Ok p) → CopiesIn p old new (Ok s) → value_of new s ≡ value_of from r

-- each parcel has a value
abbrev pub EachHasValue : Type 0
EachHasValue = (p : Tree) → is_some (value_of_parcel p) ≡ true
