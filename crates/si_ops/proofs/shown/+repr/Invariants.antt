-- how many levels of tuples and objects may be written
use Rattle.std.proofs.Common.{◌+◌, ◌*◌, drop}
use Rattle.si_semantics.specs.Text.{repr_of, rest_by, pair_by}
use Rattle.si_arena.specs.Memory.{all_of, pairs_of}
use Rattle.si_ops.specs.inner.Written.{addresses_of}
use Rattle.si_ops.proofs.Puts.{Leads}
use Rattle.si_ops.proofs.shown.+repr.Given as goal

abbrev pub decreases-put_repr : goal.decreases-put_repr
decreases-put_repr l = 8 * l.depth

abbrev pub decreases-put_pair : goal.decreases-put_pair
decreases-put_pair l = 8 * l.depth + 1

abbrev pub decreases-put_others : goal.decreases-put_others
decreases-put_others l = 8 * l.depth + 2

abbrev pub decreases-put_other_pairs : goal.decreases-put_other_pairs
decreases-put_other_pairs l = 8 * l.depth + 2

abbrev pub decreases-put_items : goal.decreases-put_items
decreases-put_items l = 8 * l.depth + 3

abbrev pub decreases-put_pairs : goal.decreases-put_pairs
decreases-put_pairs l = 8 * l.depth + 3

abbrev pub decreases-put_row : goal.decreases-put_row
decreases-put_row l = 8 * l.depth + 4

abbrev pub decreases-put_list : goal.decreases-put_list
decreases-put_list l = 8 * l.depth + 5

abbrev pub decreases-put_dict : goal.decreases-put_dict
decreases-put_dict l = 8 * l.depth + 5

abbrev pub decreases-put_plain : goal.decreases-put_plain
decreases-put_plain l = 8 * l.depth + 5

abbrev pub decreases-put_object : goal.decreases-put_object
decreases-put_object l = 8 * l.depth + 6

-- what is put after the values so far and the rest, is after all
abbrev pub invariant-put_others-loop-item : goal.invariant-put_others-loop-item
invariant-put_others-loop-item l =
    Leads (rest_by (repr_of l.depth l.arena.store (addresses_of l.inside)) (all_of l.arena (drop l.item-index l.items))) (rest_by (repr_of l.depth l.arena.store (addresses_of l.inside)) (all_of l.arena l.items)) l.start l.out l.initial.out

abbrev pub invariant-put_other_pairs-loop-i : goal.invariant-put_other_pairs-loop-i
invariant-put_other_pairs-loop-i l =
    Leads (rest_by (pair_by (repr_of l.depth l.arena.store (addresses_of l.inside))) (drop l.i (pairs_of l.arena l.pairs))) (rest_by (pair_by (repr_of l.depth l.arena.store (addresses_of l.inside))) (drop 1 (pairs_of l.arena l.pairs))) l.start l.out l.initial.out
