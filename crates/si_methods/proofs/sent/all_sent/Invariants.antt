-- the values so far are sent
use Rattle.std.proofs.Common.{◌≡◌, Ok, take}
use Rattle.si_semantics.specs.Attributes.{paired, as_pairs, parcels_by_name}
use Rattle.si_arena.specs.Memory.{all_of}
use Rattle.si_methods.proofs.sent.all_sent.Given as goal

abbrev pub invariant-loop-i : goal.invariant-loop-i
invariant-loop-i l = parcels_by_name (take l.i (as_pairs (paired l.names (all_of l.arena l.values)))) ≡ Ok l.pairs.items
