-- A device of the proof that calls within each other end: an item is smaller than its tuple.
use Rattle.std.specs.Prelude.{◌+◌, ◌≤◌, max, List, [], ◌∷◌}
use Rattle.std.proofs.Common.{arith}
use denote.Param.Weighed.{most}
use Rattle.si_semantics.specs.Parcels.{Tree, trees_of, size_of, sizes_of}
use Rattle.si_parcel.specs.declared.parcel.Node.{Node}
use Rattle.si_parcel.specs.declared.parcel.Node.TheVariants.{Nothing, Truth, Int, Str, Bytes, Queue, Tuple}
use Rattle.si_parcel.specs.declared.parcel.Parcel.TheDeep.{deep-Node}
use Rattle.si_parcel.specs.Views.{tree_of_node}

pub most_le-sizes : (ts : List Tree) → most (λ t. size_of t + 1) ts ≤ sizes_of (trees_of ts) + 1
most_le-sizes [] = omega arith
most_le-sizes (t ∷ ts) = omega (arith, most_le-sizes ts)

pub depth_le-size : (n : Node) → max (deep-Node n) 0 ≤ size_of (tree_of_node n)
depth_le-size Nothing = omega arith
depth_le-size (Truth b) = omega arith
depth_le-size (Int n) = omega arith
depth_le-size (Str s) = omega arith
depth_le-size (Bytes bs) = omega arith
depth_le-size (Queue id maxsize) = omega arith
depth_le-size (Tuple levels size items) = omega (arith, most_le-sizes items.value.items)
