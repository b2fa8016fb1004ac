-- with the values of those that are left, the values so far are those of all; the arena goes on
use Rattle.std.proofs.Common.{◌≡◌, ◌++◌, ◌+◌, ◌*◌, drop, Some, List}
use Rattle.si_semantics.specs.Value.{Value, values_of}
use Rattle.si_semantics.specs.Parcels.{size_of, sizes_of, trees_of}
use Rattle.si_semantics.specs.Shareable.{values_of_parcels}
use Rattle.si_arena.specs.Memory.{all_of, AllLie, Extends}
use Rattle.si_share.proofs.inward.+value_in.Given as goal

abbrev pub decreases-value_in : goal.decreases-value_in
decreases-value_in l = 2 * size_of l.parcel.now

abbrev pub decreases-tuple_in : goal.decreases-tuple_in
decreases-tuple_in l = 2 * sizes_of (trees_of l.items.now) + 1

abbrev pub invariant-tuple_in-items : goal.invariant-tuple_in-items
invariant-tuple_in-items l = record {
  values : (vs : List Value) × (values_of_parcels (trees_of (drop l.item-index l.items)) ≡ Some (values_of vs)) × (values_of_parcels (trees_of l.items) ≡ Some (values_of (all_of l.arena l.values.items ++ vs)));
  lie : AllLie l.arena l.values.items;
  extends : Extends l.initial.arena l.arena;
  store : l.arena.store ≡ l.initial.arena.store;
}
