-- so many copies so far
use Rattle.std.proofs.Common.{◌≡◌}
use Rattle.si_semantics.specs.Operations.{times}
use Rattle.si_emit.proofs.folding.copies.Given as goal

abbrev pub invariant-loop-i : goal.invariant-loop-i
invariant-loop-i l = l.made ≡ times l.i l.text
