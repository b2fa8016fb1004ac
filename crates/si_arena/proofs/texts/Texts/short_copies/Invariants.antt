-- the copies so far
use Rattle.std.proofs.Common.{◌≡◌}
use Rattle.si_semantics.specs.Operations.{times}
use Rattle.si_arena.specs.Short.{short_text}
use Rattle.si_arena.specs.Texts.{text_of}
use Rattle.si_arena.proofs.texts.Texts.short_copies.Given as goal

abbrev pub invariant-loop-i : goal.invariant-loop-i
invariant-loop-i l = short_text l.all ≡ times l.i (text_of l.self l.text)
