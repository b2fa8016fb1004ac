-- the white space reaches to here
use Rattle.std.proofs.Common.{◌≡◌, drop}
use Rattle.si_semantics.specs.Numerals.{after_space}
use Rattle.si_arena.specs.Texts.{characters_in}
use Rattle.si_ops.proofs.numerals.end_of_space.Given as goal

abbrev pub invariant-loop-i : goal.invariant-loop-i
invariant-loop-i l = after_space (drop l.start (characters_in l.text)) ≡ after_space (drop l.i (characters_in l.text))
