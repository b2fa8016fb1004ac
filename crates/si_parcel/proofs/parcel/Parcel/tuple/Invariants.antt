use Rattle.std.proofs.Common.{◌≡◌, ◌+◌, ◌≤◌, max, drop}
use Rattle.si_parcel.proofs.Trees.{sizes, deepest, longest}
use Rattle.si_parcel.proofs.parcel.Parcel.tuple.Given as goal

abbrev pub invariant-items : goal.invariant-items
invariant-items l =
    (l.size + sizes (drop l.item-index l.item-items) ≡ 1 + sizes l.item-items) × (max l.levels (deepest (drop l.item-index l.item-items)) ≡ deepest l.item-items)
    × (longest l.item-items ≤ max 1048576 (longest (drop l.item-index l.item-items))) × (l.size ≤ 65536) × (l.levels ≤ 200)
