-- whether one of the rest is equal says whether one of all is
use Rattle.std.proofs.Common.{◌≡◌, drop}
use Rattle.si_semantics.specs.World.{World}
use Rattle.si_semantics.specs.Operations.{is_any_of}
use Rattle.si_arena.specs.Memory.{value_of, all_of}
use Rattle.si_ops.proofs.membership.is_any_of.Given as goal

abbrev pub invariant-loop-i : goal.invariant-loop-i
invariant-loop-i l =
    (w : World) → w.store ≡ l.arena.store → is_any_of (all_of l.arena (drop l.i l.items)) (value_of l.arena l.item) w ≡ is_any_of (all_of l.arena l.items) (value_of l.arena l.item) w
