-- the least so far, and those that follow
use Rattle.std.proofs.Common.{◌≡◌, drop}
use Rattle.si_semantics.specs.World.{World}
use Rattle.si_semantics.specs.Operations as operations
use Rattle.si_arena.specs.Memory.{value_of, all_of, Lies}
use Rattle.si_ops.proofs.provided.least.Given as goal

abbrev pub invariant-loop-value : goal.invariant-loop-value
invariant-loop-value l = record {
  lies : Lies l.arena l.least;
  rest : (w : World) → w.store ≡ l.arena.store → operations.least (value_of l.arena l.fn.first) (all_of l.arena l.others) w ≡ operations.least (value_of l.arena l.least) (all_of l.arena (drop l.value-index l.others)) w;
}
