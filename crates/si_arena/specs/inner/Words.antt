-- The long texts that are keys of dicts, each once.
use Rattle.std.specs.Prelude.{◌≡◌, ◌≢◌, ℕ, ◌+◌, ◌*◌, ◌%◌, ◌^◌, ◌<◌, List, [], ◌∷◌, ◌++◌, map, length, nat_eq, slice_get, Option, Some, None}
use Rattle.std.specs.Map.{lookup}
use Rattle.si_arena.specs.declared.value.Ref.{Ref}
use Rattle.si_arena.specs.Short.{FitsShort}
use Rattle.si_arena.specs.Texts.{Rows, text_of, IsText, TextLies}

-- a number of a text, by which it is looked up: one character after the other
abbrev pub number_from : ℕ → List ℕ → ℕ
number_from n [] = n
number_from n (c ∷ cs) = number_from ((((n * 1000003) % (2 ^ 64)) + c) % (2 ^ 64)) cs

abbrev pub number_of : List ℕ → ℕ
number_of cs = number_from 0 cs

-- the words by their numbers, and the first word of each number of a text
pub record Words : Type 0 where
  pub first : List (ℕ × ℕ)
  pub texts : List Ref

-- their characters
abbrev pub words_of : Rows → Words → List (List ℕ)
words_of rows ws = map (text_of rows) ws.texts

-- texts lie in the rows
abbrev pub TextsLie : Rows → List Ref → Type 0
TextsLie rows [] = Unit {0}
TextsLie rows (r ∷ rs) = (IsText r × TextLies rows r) × TextsLie rows rs

-- words are too long for a `Short`, each is there once, and each is found by its number
pub record AreWords (first : List (ℕ × ℕ)) (us : List (List ℕ)) : Type 0 where
  pub long : (i : ℕ) (t : List ℕ) → slice_get us i ≡ Some t → ¬ FitsShort t
  pub apart : (i j : ℕ) (t : List ℕ) → slice_get us i ≡ Some t → slice_get us j ≡ Some t → i ≡ j
  pub known : (i : ℕ) (t : List ℕ) → slice_get us i ≡ Some t → (k : ℕ) × (lookup (nat_eq (number_of t)) first ≡ Some k)
  pub within : (n k : ℕ) → lookup (nat_eq n) first ≡ Some k → k < length us

-- what holds of the words of every arena
pub record WordsLie (rows : Rows) (ws : Words) : Type 0 where
  pub lie : TextsLie rows ws.texts
  pub are : AreWords ws.first (words_of rows ws)

-- no word has these characters
abbrev pub IsStrange : Rows → Words → List ℕ → Type 0
IsStrange rows ws t = (i : ℕ) → slice_get (words_of rows ws) i ≢ Some t

-- the word that has these characters, where there is one
abbrev pub FindsWord : Rows → Words → List ℕ → Option ℕ → Type 0
FindsWord rows ws t (Some i) = slice_get (words_of rows ws) i ≡ Some t
FindsWord rows ws t None = IsStrange rows ws t

-- there may be more words, after those that were there
pub record Grown (rows : Rows) (old new : Words) : Type 0 where
  pub texts : (more : List Ref) × (new.texts ≡ old.texts ++ more)
  pub lie : WordsLie rows new

-- a text is the next word
pub record IsNext (rows : Rows) (text : Ref) (old new : Words) (word : ℕ) : Type 0 where
  pub number : word ≡ length old.texts
  pub texts : new.texts ≡ old.texts ++ text ∷ []
  pub lie : WordsLie rows new
