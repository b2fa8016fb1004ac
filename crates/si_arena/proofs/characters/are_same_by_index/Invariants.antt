use Rattle.std.proofs.Common.{◌≡◌, drop}
use Rattle.si_semantics.specs.Text.{same_text}
use Rattle.si_arena.specs.Texts.{characters_in}
use Rattle.si_arena.proofs.characters.are_same_by_index.Given as goal

abbrev pub invariant-loop-i : goal.invariant-loop-i
invariant-loop-i l = same_text (drop l.i (characters_in l.left)) (drop l.i (characters_in l.right)) ≡ same_text (characters_in l.left) (characters_in l.right)
