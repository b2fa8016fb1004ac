use Rattle.std.proofs.Common.{◌≡◌, map, take}
use Rattle.std.specs.Prelude.{string_bytes}
use Rattle.si_slots.proofs.frame.Frame.of.Given as goal

-- the names so far
abbrev pub invariant-loop-slot : goal.invariant-loop-slot
invariant-loop-slot l = map string_bytes l.copies.items ≡ take l.slot l.names
