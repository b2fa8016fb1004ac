-- the greatest so far, and those that follow
use Rattle.std.proofs.Common.{◌≡◌, drop}
use Rattle.si_semantics.specs.World.{World}
use Rattle.si_semantics.specs.Operations as operations
use Rattle.si_arena.specs.Memory.{value_of, all_of, Lies}
use Rattle.si_ops.proofs.provided.greatest.Given as goal

abbrev pub invariant-loop-value : goal.invariant-loop-value
invariant-loop-value l = record {
  lies : Lies l.arena l.greatest;
  rest : (w : World) → w.store ≡ l.arena.store → operations.greatest (value_of l.arena l.fn.first) (all_of l.arena l.others) w ≡ operations.greatest (value_of l.arena l.greatest) (all_of l.arena (drop l.value-index l.others)) w;
}
