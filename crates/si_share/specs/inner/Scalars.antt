-- None, truths and ints: values whose parcels are read off them, wherever they lie.
use Rattle.std.specs.Prelude.{[], Option, Some, None}
use Rattle.si_semantics.specs.Parcels as tree
use Rattle.si_semantics.specs.Parcels.{Tree, Leaf}
use Rattle.si_arena.specs.declared.value.Ref.{Ref}
use Rattle.si_arena.specs.declared.value.Ref.TheVariants as value

-- the parcel of one
abbrev pub scalar_parcel : Ref → Option Tree
scalar_parcel value.None = Some (Leaf tree.Nothing)
scalar_parcel (value.Truth at b) = Some (Leaf (tree.Truth b))
scalar_parcel (value.Int n) = Some (Leaf (tree.Int n))
scalar_parcel _ = None

-- and the one of a parcel
abbrev pub scalar_value : Tree → Option Ref
scalar_value (Leaf tree.Nothing) = Some value.None
scalar_value (Leaf (tree.Truth b)) = Some (value.Truth [] b)
scalar_value (Leaf (tree.Int n)) = Some (value.Int n)
scalar_value _ = None
