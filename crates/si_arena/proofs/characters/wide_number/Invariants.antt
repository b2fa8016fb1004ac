-- the number of the characters so far, and of those that are left
use Rattle.std.proofs.Common.{◌≡◌, drop}
use Rattle.si_arena.specs.inner.Words.{number_from, number_of}
use Rattle.si_arena.proofs.characters.wide_number.Given as goal

abbrev pub invariant-loop-c : goal.invariant-loop-c
invariant-loop-c l = number_from l.number (drop l.c-index l.characters) ≡ number_of l.characters
