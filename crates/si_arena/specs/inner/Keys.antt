-- The keys of dicts as they are looked up.
use Rattle.std.specs.Prelude.{◌≡◌, ℕ, List, [], ◌∷◌, Bool, true, false, Option, Some, None, option_map, nat_eq, bytes_eq, slice_get}
use Rattle.std.specs.Map.{lookup, remove_entry}
use Rattle.std.specs.Ordering.{int_eq}
use Rattle.indexmap.specs.IndexMap.{insert_entry}
use Rattle.si_semantics.specs.Value as pure
use Rattle.si_semantics.specs.Dicts.{key_of, with_pairs}
use Rattle.si_arena.specs.declared.value.Ref.{Ref}
use Rattle.si_arena.specs.declared.value.Ref.TheVariants as value
use Rattle.si_arena.specs.declared.atom.Atom.{Atom}
use Rattle.si_arena.specs.declared.atom.Atom.TheVariants as atom
use Rattle.si_arena.specs.declared.dict.Pair.{Pair}
use Rattle.si_arena.specs.declared.held.Held.{Held}
use Rattle.si_arena.specs.declared.held.Held.TheVariants as held
use Rattle.si_arena.specs.Short.{short_text, FitsShort}
use Rattle.si_arena.specs.Texts.{Rows, text_of, TextLies}
use Rattle.si_arena.specs.inner.Words.{Words, words_of, Grown}
use Rattle.si_arena.specs.Memory.{Memory, value_of, all_of, pairs_of, key_meant, AllLie, PairsLie}

-- two keys are one
abbrev pub one_key : Atom → Atom → Bool
one_key (atom.Int m) (atom.Int n) = int_eq m n
one_key (atom.Short s) (atom.Short t) = bytes_eq (short_text s) (short_text t)
one_key (atom.Word i) (atom.Word j) = nat_eq i j
one_key _ _ = false

-- the pair of a key
abbrev pub found_pair : Atom → List (Atom × Pair) → Option Pair
found_pair k es = lookup (one_key k) es

-- and its value
abbrev pub found : Atom → List (Atom × Pair) → Option Ref
found k es = option_map (λ p. p.value) (found_pair k es)

-- a key has a value: one that is there keeps its place
abbrev pub inserted : Atom → Pair → List (Atom × Pair) → List (Atom × Pair)
inserted k p es = insert_entry one_key es k p

-- a key is taken away
abbrev pub removed : Atom → List (Atom × Pair) → List (Atom × Pair)
removed k es = remove_entry (one_key k) es

-- what an atom means, where these are the words: a text is a word exactly if it is too long for a `Short`
abbrev pub Means : List (List ℕ) → Atom → pure.Key → Type 0
Means us (atom.Int m) (pure.Number n) = m ≡ n
Means us (atom.Short s) (pure.Word t) = (short_text s ≡ t) × FitsShort t
Means us (atom.Word i) (pure.Word t) = slice_get us i ≡ Some t
Means us _ _ = ⊥

-- the atom of a value, where it is a key that a dict may have
abbrev pub FindsAtom : List (List ℕ) → Option pure.Key → Option Atom → Type 0
FindsAtom us (Some k) (Some a) = Means us a k
FindsAtom us (Some k) None = (b : Atom) → Means us b k → ⊥
FindsAtom us None (Some a) = ⊥
FindsAtom us None None = Unit {0}

-- the key that a value is, where it is one
abbrev pub key_in : Rows → Ref → Option pure.Key
key_in rows (value.Int n) = Some (pure.Number n)
key_in rows (value.Short s) = Some (pure.Word (text_of rows (value.Short s)))
key_in rows (value.Narrow count start) = Some (pure.Word (text_of rows (value.Narrow count start)))
key_in rows (value.Wide count start) = Some (pure.Word (text_of rows (value.Wide count start)))
key_in rows _ = None

-- the atom of a value that is to be a key, where it can be one
abbrev pub MeansBy : List (List ℕ) → Option pure.Key → Option Atom → Type 0
MeansBy us (Some k) (Some a) = Means us a k
MeansBy us None None = Unit {0}
MeansBy us _ _ = ⊥

-- a value is to be a key: a text may be a word from now on
pub record TakesAtom (rows : Rows) (old new : Words) (k : Option pure.Key) (a : Option Atom) : Type 0 where
  pub means : MeansBy (words_of rows new) k a
  pub grown : Grown rows old new

-- each entry of a dict is at what its key means
abbrev pub EntriesMean : Memory → List (List ℕ) → List (Atom × Pair) → Type 0
EntriesMean m us [] = Unit {0}
EntriesMean m us (e ∷ es) = Means us e.0 (key_meant (value_of m e.1.key)) × EntriesMean m us es

abbrev pub HeldMeans : Memory → List (List ℕ) → Held → Type 0
HeldMeans m us (held.Dict es) = EntriesMean m us es
HeldMeans m us _ = Unit {0}

abbrev pub KeysMean : Memory → List (List ℕ) → List Held → Type 0
KeysMean m us [] = Unit {0}
KeysMean m us (h ∷ hs) = HeldMeans m us h × KeysMean m us hs

-- ---- a dict of keys and values by turns

-- a pair is added, where its key can be one
abbrev pub AddsPair : Rows → Pair → (old new : Words) → (before after : List (Atom × Pair)) → Bool → Type 0
AddsPair rows p old new es fs true = (a : Atom) × (MeansBy (words_of rows new) (key_in rows p.key) (Some a) × (fs ≡ inserted a p es) × Grown rows old new)
AddsPair rows p old new es fs false = (key_in rows p.key ≡ None) × (fs ≡ es) × Grown rows old new

-- the texts among values lie in the rows
abbrev pub EachTextLies : Rows → List Ref → Type 0
EachTextLies rows [] = Unit {0}
EachTextLies rows (r ∷ rs) = TextLies rows r × EachTextLies rows rs

-- the keys among values are those of the rows
abbrev pub KeysAgree : Memory → Rows → List Ref → Type 0
KeysAgree m rows [] = Unit {0}
KeysAgree m rows (r ∷ rs) = (key_of (value_of m r) ≡ key_in rows r) × KeysAgree m rows rs

-- entries are those that were made of operands, in every memory in which these lie
pub record Entered (m : Memory) (us : List (List ℕ)) (rs : List Ref) (es : List (Atom × Pair)) : Type 0 where
  pub pairs : with_pairs [] (all_of m rs) ≡ Some (pairs_of m es)
  pub lie : PairsLie m es
  pub mean : EntriesMean m us es

-- the dict of operands, or none where a key is none
abbrev pub GathersDict : Rows → List Ref → (old new : Words) → Option (List (Atom × Pair)) → Type 0
GathersDict rows rs old new (Some es) = Grown rows old new × ((m : Memory) → KeysAgree m rows rs → AllLie m rs → Entered m (words_of rows new) rs es)
GathersDict rows rs old new None = Grown rows old new × ((m : Memory) → KeysAgree m rows rs → AllLie m rs → with_pairs [] (all_of m rs) ≡ None)
