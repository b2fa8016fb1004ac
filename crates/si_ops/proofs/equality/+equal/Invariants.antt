-- how deep tuples, lists and dicts may be, three times, as each level has three functions; and whether the rest is equal says
-- whether all are
use Rattle.std.proofs.Common.{◌≡◌, ◌+◌, ◌*◌, ◌-◌, drop}
use Rattle.si_semantics.specs.World.{World}
use Rattle.si_semantics.specs.Operations.{each_equal, each_found, equal_within}
use Rattle.si_arena.specs.Memory.{all_of, pairs_of, dict_at}
use Rattle.si_ops.proofs.equality.+equal.Given as goal

abbrev pub decreases-are_equal_within : goal.decreases-are_equal_within
decreases-are_equal_within l = 3 * l.depth + 2

abbrev pub decreases-are_objects_equal : goal.decreases-are_objects_equal
decreases-are_objects_equal l = 3 * l.depth + 1

abbrev pub decreases-are_items_equal : goal.decreases-are_items_equal
decreases-are_items_equal l = 3 * l.depth

abbrev pub decreases-are_pairs_equal : goal.decreases-are_pairs_equal
decreases-are_pairs_equal l = 3 * l.depth

abbrev pub invariant-are_items_equal-loop-i : goal.invariant-are_items_equal-loop-i
invariant-are_items_equal-loop-i l =
    (w : World) → w.store ≡ l.arena.store → each_equal (λ a b. equal_within (l.fn.depth - 1) a b w) (all_of l.arena (drop l.i l.xs)) (all_of l.arena (drop l.i l.ys)) ≡ each_equal (λ a b. equal_within (l.fn.depth - 1) a b w) (all_of l.arena l.xs) (all_of l.arena l.ys)

abbrev pub invariant-are_pairs_equal-loop-i : goal.invariant-are_pairs_equal-loop-i
invariant-are_pairs_equal-loop-i l =
    (w : World) → w.store ≡ l.arena.store → each_found (λ a b. equal_within (l.fn.depth - 1) a b w) (drop l.i (pairs_of l.arena l.pairs)) (dict_at l.arena l.other) ≡ each_found (λ a b. equal_within (l.fn.depth - 1) a b w) (pairs_of l.arena l.pairs) (dict_at l.arena l.other)
