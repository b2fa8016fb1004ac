-- the characters so far stand after those that were there
use Rattle.std.proofs.Common.{◌≡◌, ◌++◌, take}
use Rattle.si_arena.specs.Short.{short_text}
use Rattle.si_arena.proofs.short.Short.append.Given as goal

abbrev pub invariant-loop-c : goal.invariant-loop-c
invariant-loop-c l = short_text l.self ≡ short_text l.initial.self ++ take l.c-index l.characters
