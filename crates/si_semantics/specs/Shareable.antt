-- Which values are shareable, and as which parcels they are sent (PEP 734, "Shareable Objects"): None, the two truths, ints,
-- strs, bytes, queues and tuples of shareable items.
use Rattle.std.specs.Prelude.{Bool, Option, Some, None, is_some, option_map, if◌then◌else◌}
use Rattle.si_semantics.specs.Value as value
use Rattle.si_semantics.specs.Value.{Value, Values, NoValues, MoreValues}
use Rattle.si_semantics.specs.Parcels as tree
use Rattle.si_semantics.specs.Parcels.{Tree, Trees, NoTrees, MoreTrees, Leaf, Group, is_parcel}

-- the first of trees and those after it, where there are both
abbrev pub more_trees : Option Tree → Option Trees → Option Trees
more_trees (Some t) (Some ts) = Some (MoreTrees t ts)
more_trees _ _ = None

abbrev mutual
  -- the parcel of a value; a value that is not shareable has none
  pub parcel_of : Value → Option Tree
  parcel_of value.Nothing = Some (Leaf tree.Nothing)
  parcel_of (value.Truth b) = Some (Leaf (tree.Truth b))
  parcel_of (value.Int n) = Some (Leaf (tree.Int n))
  parcel_of (value.Str s) = Some (Leaf (tree.Str s))
  parcel_of (value.Bytes bs) = Some (Leaf (tree.Bytes bs))
  parcel_of (value.Provided b) = None
  parcel_of (value.Function name number) = None
  parcel_of (value.Range start stop step) = None
  parcel_of (value.Tuple items) = option_map (Group tree.Tuple) (parcels_of items)
  parcel_of (value.Class kind) = None
  parcel_of (value.Module m) = None
  parcel_of (value.Queue q m) = Some (Leaf (tree.Queue q m))
  parcel_of (value.Interpreter i) = None
  parcel_of (value.Exec i) = None
  parcel_of (value.Address x) = None

  -- those of values in a row, where each has one
  pub parcels_of : Values → Option Trees
  parcels_of NoValues = Some NoTrees
  parcels_of (MoreValues v vs) = more_trees (parcel_of v) (parcels_of vs)

-- a value is shareable: it has a parcel
abbrev pub is_shareable : Value → Bool
is_shareable v = is_some (parcel_of v)

-- a tree that is within the limits of parcels
abbrev pub within_limits : Option Tree → Option Tree
within_limits (Some t) = if is_parcel t then Some t else None
within_limits None = None

-- the parcel as which a value is sent: the one that it has, where it is within the limits of parcels
abbrev pub sent_as : Value → Option Tree
sent_as v = within_limits (parcel_of v)

-- the first of values and those after it, where there are both
abbrev pub more_values : Option Value → Option Values → Option Values
more_values (Some v) (Some vs) = Some (MoreValues v vs)
more_values _ _ = None

abbrev mutual
  -- the value of a parcel
  pub value_of_parcel : Tree → Option Value
  value_of_parcel (Leaf tree.Nothing) = Some value.Nothing
  value_of_parcel (Leaf (tree.Truth b)) = Some (value.Truth b)
  value_of_parcel (Leaf (tree.Int n)) = Some (value.Int n)
  value_of_parcel (Leaf (tree.Str s)) = Some (value.Str s)
  value_of_parcel (Leaf (tree.Bytes bs)) = Some (value.Bytes bs)
  value_of_parcel (Leaf (tree.Queue q m)) = Some (value.Queue q m)
  value_of_parcel (Group tree.Tuple trees) = option_map value.Tuple (values_of_parcels trees)

  -- those of parcels in a row, where each is one of a script
  pub values_of_parcels : Trees → Option Values
  values_of_parcels NoTrees = Some NoValues
  values_of_parcels (MoreTrees t ts) = more_values (value_of_parcel t) (values_of_parcels ts)
