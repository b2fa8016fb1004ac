-- The tree of which the top is seen.
use Rattle.si_semantics.specs.Parcels.{Tree, Leaf, tuple_of}
use Rattle.si_parcel.specs.Atoms.{atom_of}
use Rattle.si_parcel.specs.declared.top.Top.{Top}
use Rattle.si_parcel.specs.declared.top.Top.TheVariants as top

abbrev pub tree_of_top : Top → Tree
tree_of_top (top.Atom a) = Leaf (atom_of a)
tree_of_top (top.Tuple items) = tuple_of items.now
