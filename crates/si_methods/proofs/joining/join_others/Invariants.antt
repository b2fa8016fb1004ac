-- the text so far, and those that are left
use Rattle.std.proofs.Common.{◌≡◌, ℕ, List, drop}
use Rattle.si_semantics.specs.Attributes.{joined_after}
use Rattle.si_arena.specs.Texts.{characters_in}
use Rattle.si_methods.specs.Joining.{values_in, characters_gathered, told, ComesTo}
use Rattle.si_methods.proofs.joining.join_others.Given as goal

abbrev pub invariant-loop-i : goal.invariant-loop-i
invariant-loop-i l =
    (done : List ℕ) × ComesTo done (characters_gathered l.gathered) l.count × (told (characters_in l.first) (joined_after (characters_in l.between) (drop 1 (values_in l.arena l.pieces))) ≡ told done (joined_after (characters_in l.between) (drop l.i (values_in l.arena l.pieces))))
