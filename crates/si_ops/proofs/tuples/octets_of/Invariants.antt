-- the integers so far, and the rest
use Rattle.std.proofs.Common.{◌≡◌, ◌++◌, drop}
use Rattle.si_semantics.specs.Tuples.{numbers_in}
use Rattle.si_arena.specs.Memory.{Memory, all_of, AllLie}
use Rattle.si_ops.proofs.tuples.octets_of.Given as goal

abbrev pub invariant-loop-i : goal.invariant-loop-i
invariant-loop-i l = record {
  all : (m : Memory) → all_of m l.all.items ++ numbers_in (drop l.i l.bytes) ≡ numbers_in l.bytes;
  lie : (m : Memory) → AllLie m l.all.items;
}
