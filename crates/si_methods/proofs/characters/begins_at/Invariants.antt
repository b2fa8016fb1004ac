-- so far the part is as the text from the start on
use Rattle.std.proofs.Common.{◌≡◌, ◌+◌, drop}
use Rattle.si_semantics.specs.Parts.{begins_with}
use Rattle.si_arena.specs.Texts.{characters_in}
use Rattle.si_methods.proofs.characters.begins_at.Given as goal

abbrev pub invariant-loop-i : goal.invariant-loop-i
invariant-loop-i l =
    begins_with (drop (l.start + l.i) (characters_in l.whole)) (drop l.i (characters_in l.part)) ≡ begins_with (drop l.start (characters_in l.whole)) (characters_in l.part)
