use Rattle.std.proofs.Common.{◌≡◌, drop}
use Rattle.si_semantics.specs.Parts.{is_part}
use Rattle.si_arena.specs.Texts.{characters_in}
use Rattle.si_ops.proofs.membership.is_part.Given as goal

abbrev pub invariant-loop-start : goal.invariant-loop-start
invariant-loop-start l = is_part (drop l.start (characters_in l.whole)) (characters_in l.part) ≡ is_part (characters_in l.whole) (characters_in l.part)
