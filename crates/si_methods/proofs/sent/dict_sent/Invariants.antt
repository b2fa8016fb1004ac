-- the pairs so far are sent
use Rattle.std.proofs.Common.{◌≡◌, Ok, take}
use Rattle.si_semantics.specs.Attributes.{parcels_by_name}
use Rattle.si_arena.specs.Memory.{pairs_of}
use Rattle.si_methods.proofs.sent.dict_sent.Given as goal

abbrev pub invariant-loop-i : goal.invariant-loop-i
invariant-loop-i l = parcels_by_name (take l.i (pairs_of l.arena l.dict)) ≡ Ok l.pairs.items
