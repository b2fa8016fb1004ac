-- with the parcels of those that are left the parcels are those of all
use Rattle.std.proofs.Common.{◌≡◌, ◌++◌, drop, Some, List}
use Rattle.si_semantics.specs.Value.{values_of}
use Rattle.si_semantics.specs.Tuples.{count_of}
use Rattle.si_semantics.specs.Parcels.{Tree, trees_of}
use Rattle.si_semantics.specs.Shareable.{parcels_of}
use Rattle.si_arena.specs.Memory.{value_of, all_of}
use Rattle.si_share.proofs.outward.+parcel_out.Given as goal

abbrev pub decreases-parcel_out : goal.decreases-parcel_out
decreases-parcel_out l = count_of (value_of l.arena.now l.value)

abbrev pub invariant-items : goal.invariant-items
invariant-items l =
    (us : List Tree) × (parcels_of (values_of (drop l.item-index (all_of l.arena l.items))) ≡ Some (trees_of us))
    × (parcels_of (values_of (all_of l.arena l.items)) ≡ Some (trees_of (l.parcels.items ++ us)))
