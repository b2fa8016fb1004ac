-- The tree for which a parcel stands.
use Rattle.std.specs.Prelude.{◌≡◌}
use Rattle.si_semantics.specs.Parcels as tree
use Rattle.si_semantics.specs.Parcels.{Tree, tuple_of, size_of, levels_of, IsParcel}
use Rattle.si_parcel.specs.declared.parcel.Node.{Node}
use Rattle.si_parcel.specs.declared.parcel.Node.TheVariants as node
use Rattle.si_parcel.specs.declared.parcel.Parcel.TheInside.{Inside}

-- the items of a tuple are seen as trees
abbrev pub tree_of_node : Node → Tree
tree_of_node node.Nothing = tree.Leaf tree.Nothing
tree_of_node (node.Truth b) = tree.Leaf (tree.Truth b)
tree_of_node (node.Int n) = tree.Leaf (tree.Int n)
tree_of_node (node.Str s) = tree.Leaf (tree.Str s)
tree_of_node (node.Bytes bs) = tree.Leaf (tree.Bytes bs)
tree_of_node (node.Queue id maxsize) = tree.Leaf (tree.Queue id maxsize)
tree_of_node (node.Tuple levels size items) = tuple_of items.value.items

-- the size and the levels of a tuple are kept beside its items
abbrev pub IsMeasured : Node → Type 0
IsMeasured (node.Tuple levels size items) = (size ≡ size_of (tuple_of items.value.items)) × (levels ≡ levels_of (tuple_of items.value.items))
IsMeasured _ = Unit {0}

-- and the tree is within the limits
pub record IsKept (a : Inside) : Type 0 where
  pub measured : IsMeasured a.node
  pub small : IsParcel (tree_of_node a.node)
