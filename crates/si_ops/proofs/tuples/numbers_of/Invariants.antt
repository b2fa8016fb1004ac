-- the integers so far, and the rest
use Rattle.std.proofs.Common.{◌≡◌, ◌++◌}
use Rattle.si_semantics.specs.Tuples.{integers_in}
use Rattle.si_semantics.specs.Operations.{range_items}
use Rattle.si_arena.specs.Memory.{Memory, all_of, AllLie}
use Rattle.si_ops.proofs.Gathered.{left_of}
use Rattle.si_ops.proofs.tuples.numbers_of.Given as goal

abbrev pub invariant-loop-i : goal.invariant-loop-i
invariant-loop-i l = record {
  all : (m : Memory) → all_of m l.all.items ++ left_of l.steps.start l.steps.stop l.steps.step l.i ≡ integers_in (range_items l.steps.start l.steps.stop l.steps.step);
  lie : (m : Memory) → AllLie m l.all.items;
}
