-- what the characters so far are written as, after what stood there with the quote
use Rattle.std.proofs.Common.{◌≡◌, ◌++◌, flat_map}
use Rattle.si_plain.specs.Repr.{escaped}
use Rattle.si_plain.proofs.literal.push_repr.Given as goal

abbrev pub invariant-loop-c : goal.invariant-loop-c
invariant-loop-c l = l.out ≡ l.initial.out ++ flat_map (escaped l.quote) l.yielded
