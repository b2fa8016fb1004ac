-- none of the words so far
use Rattle.std.proofs.Common.{ℕ, ◌<◌, slice_get, Some}
use Rattle.std.specs.Prelude.{◌≢◌}
use Rattle.si_arena.specs.Texts.{characters_in}
use Rattle.si_arena.specs.inner.Words.{words_of}
use Rattle.si_arena.proofs.words.Words.search.Given as goal

abbrev pub invariant-loop-i : goal.invariant-loop-i
invariant-loop-i l = (k : ℕ) → k < l.i → slice_get (words_of l.texts l.self) k ≢ Some (characters_in l.characters)
