-- what was counted and what is left are all
use Rattle.std.proofs.Common.{◌≡◌, ◌≤◌, ◌+◌, max, drop}
use Rattle.si_semantics.specs.Value.{values_of}
use Rattle.si_semantics.specs.Tuples.{counts_of, deepest_of}
use Rattle.si_arena.specs.Memory.{all_of}
use Rattle.si_arena.proofs.arena.Arena.size_of_all.Given as goal

abbrev pub invariant-loop-i : goal.invariant-loop-i
invariant-loop-i l = record {
  count : l.values + counts_of (values_of (drop l.i (all_of l.self l.items))) ≡ 1 + counts_of (values_of (all_of l.self l.items));
  levels : max l.levels (deepest_of (values_of (drop l.i (all_of l.self l.items)))) ≡ deepest_of (values_of (all_of l.self l.items));
  within : l.values ≤ 65536;
}
