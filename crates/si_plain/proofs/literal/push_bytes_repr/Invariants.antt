-- what the bytes so far are written as, after what stood there with `b` and the quote
use Rattle.std.proofs.Common.{◌≡◌, ◌++◌, flat_map, take}
use Rattle.si_plain.specs.Repr.{escaped_byte}
use Rattle.si_plain.proofs.literal.push_bytes_repr.Given as goal

abbrev pub invariant-loop-b : goal.invariant-loop-b
invariant-loop-b l = l.out ≡ l.initial.out ++ flat_map (escaped_byte l.quote) (take l.b-index l.bytes)
