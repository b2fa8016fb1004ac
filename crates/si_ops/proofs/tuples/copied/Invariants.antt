-- so many copies so far
use Rattle.std.proofs.Common.{◌≡◌}
use Rattle.si_semantics.specs.Tuples.{copies}
use Rattle.si_arena.specs.Memory.{Memory, all_of, AllLie}
use Rattle.si_ops.proofs.tuples.copied.Given as goal

abbrev pub invariant-loop-turn : goal.invariant-loop-turn
invariant-loop-turn l = record {
  all : (m : Memory) → all_of m l.all.items ≡ copies l._turn (all_of m l.items);
  lie : (m : Memory) → AllLie m l.items → AllLie m l.all.items;
}
