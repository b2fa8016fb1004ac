use Rattle.std.proofs.Common.{◌≡◌, drop}
use Rattle.si_semantics.specs.Operations.{is_before}
use Rattle.si_arena.specs.Texts.{characters_in}
use Rattle.si_ops.proofs.characters.is_before.Given as goal

abbrev pub invariant-loop-i : goal.invariant-loop-i
invariant-loop-i l = is_before (drop l.i (characters_in l.left)) (drop l.i (characters_in l.right)) ≡ is_before (characters_in l.left) (characters_in l.right)
