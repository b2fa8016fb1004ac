-- What it is to copy a value out of an arena, and a parcel into one.
use Rattle.std.specs.Prelude.{◌≡◌, ◌<◌, length, Some, None, Result, Ok, Err}
use Rattle.si_semantics.specs.Value.{Value}
use Rattle.si_semantics.specs.Parcels as tree
use Rattle.si_semantics.specs.Parcels.{Tree, Leaf, Group, IsParcel}
use Rattle.si_semantics.specs.Shareable.{parcel_of, value_of_parcel}
use Rattle.si_arena.specs.declared.value.Ref.{Ref}
use Rattle.si_arena.specs.Memory.{Memory, Extends, Placed}
use Rattle.si_arena.specs.Short.{FitsShort}
use Rattle.si_share.specs.declared.fault.ShareFault.{ShareFault}
use Rattle.si_share.specs.declared.fault.ShareFault.TheVariants as share
use Rattle.std.specs.declared.alloc.AllocError.{AllocError}

-- a parcel takes memory of its own: a str, bytes and a tuple
abbrev pub TakesMemory : Tree → Type 0
TakesMemory (Leaf (tree.Str s)) = Unit {0}
TakesMemory (Leaf (tree.Bytes bs)) = Unit {0}
TakesMemory (Group shape trees) = Unit {0}
TakesMemory _ = ⊥

-- the parcel of a value, within the limits of parcels. It is refused where the value has none, else where its parcel is
-- past the limits, else only where it takes memory
abbrev pub CopiesOut : Value → Result Tree ShareFault → Type 0
CopiesOut v (Ok p) = (parcel_of v ≡ Some p) × IsParcel p
CopiesOut v (Err share.NotShareable) = parcel_of v ≡ None
CopiesOut v (Err share.TooLarge) = (p : Tree) × (parcel_of v ≡ Some p) × ¬ IsParcel p
CopiesOut v (Err share.NoMemory) = (p : Tree) × (parcel_of v ≡ Some p) × IsParcel p × TakesMemory p

-- the value of a parcel takes memory of its arena: a str, or bytes, that are not in the value itself, and a tuple
abbrev pub NeedsRoom : Tree → Type 0
NeedsRoom (Leaf (tree.Str s)) = ¬ FitsShort s
NeedsRoom (Leaf (tree.Bytes bs)) = 11 < length bs
NeedsRoom (Group shape trees) = Unit {0}
NeedsRoom _ = ⊥

-- what a parcel leaves in an arena that refused memory for it: of an atom nothing; of a tuple perhaps some of its items,
-- which are no value of anything that was there: all that lay in the arena lies there and denotes what it did, and no
-- object was changed or made
abbrev pub Leaves : Tree → Memory → Memory → Type 0
Leaves (Leaf a) old new = new ≡ old
Leaves (Group shape trees) old new = Extends old new × (new.store ≡ old.store)

-- the value of a parcel is placed in an arena. Memory is refused only where it takes memory of the arena
abbrev pub CopiesIn : Tree → Memory → Memory → Result Ref AllocError → Type 0
CopiesIn p old new (Ok r) = (v : Value) × (value_of_parcel p ≡ Some v) × Placed old v r new
CopiesIn p old new (Err refused) = NeedsRoom p × Leaves p old new
