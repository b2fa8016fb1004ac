-- the characters so far
use Rattle.std.proofs.Common.{◌≡◌, take}
use Rattle.si_arena.specs.Short.{short_text}
use Rattle.si_arena.proofs.short.Short.from_wide.Given as goal

abbrev pub invariant-loop-c : goal.invariant-loop-c
invariant-loop-c l = short_text l.short ≡ take l.c-index l.characters
