-- the longest is the longest so far or among those that are left
use Rattle.std.proofs.Common.{◌≡◌, drop, max}
use Rattle.std.specs.Prelude.{option_map}
use Rattle.si_semantics.specs.Value.{values_of}
use Rattle.si_semantics.specs.Tuples.{count_of}
use Rattle.si_semantics.specs.Parcels.{longest_among}
use Rattle.si_semantics.specs.Shareable.{parcels_of}
use Rattle.si_arena.specs.Memory.{value_of, all_of}
use Rattle.si_share.proofs.outward.+longest.Given as goal

abbrev pub decreases-longest : goal.decreases-longest
decreases-longest l = count_of (value_of l.arena.now l.value)

abbrev pub invariant-items : goal.invariant-items
invariant-items l =
    option_map (max l.most) (option_map longest_among (parcels_of (values_of (drop l.item-index (all_of l.arena l.items)))))
    ≡ option_map longest_among (parcels_of (values_of (all_of l.arena l.items)))
