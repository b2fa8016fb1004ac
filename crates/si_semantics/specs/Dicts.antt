-- Dicts as pairs in order (Python Language Reference 3.14, 3.2.7.1 and 6.2.7; Standard Library, "Mapping Types").
use Rattle.std.specs.Prelude.{List, [], ◌∷◌, Bool, false, Option, Some, None, map, if◌then◌else◌}
use Rattle.si_semantics.specs.Value.{Value, Int, Str, Key, Number, Word, value_of_key}
use Rattle.si_semantics.specs.Text.{same_text, same_int}

-- the key that a value is: an integer or a str; nothing else is one, and no truth counts as an integer here (this
-- project's own)
abbrev pub key_of : Value → Option Key
key_of (Int i) = Some (Number i)
key_of (Str s) = Some (Word s)
key_of _ = None

-- two keys are one
abbrev pub same_key : Key → Key → Bool
same_key (Number i) (Number j) = same_int i j
same_key (Number i) (Word t) = false
same_key (Word s) (Number j) = false
same_key (Word s) (Word t) = same_text s t

-- the value of a key
abbrev pub value_at : Key → List (Key × Value) → Option Value
value_at k [] = None
value_at k (p ∷ ps) = if same_key k p.0 then Some p.1 else value_at k ps

-- a key has this value: one that was there keeps its place, a new one is the last
abbrev pub with_pair : Key → Value → List (Key × Value) → List (Key × Value)
with_pair k v [] = (k, v) ∷ []
with_pair k v (p ∷ ps) = if same_key k p.0 then (p.0, v) ∷ ps else p ∷ with_pair k v ps

-- without a key and its value
abbrev pub without_key : Key → List (Key × Value) → List (Key × Value)
without_key k [] = []
without_key k (p ∷ ps) = if same_key k p.0 then ps else p ∷ without_key k ps

-- the keys, as values
abbrev pub keys_in : List (Key × Value) → List Value
keys_in ps = map (λ p. value_of_key p.0) ps

-- pairs that are added, in order, to others, of keys and values by turns; None where a key is none
abbrev pub with_pairs : List (Key × Value) → List Value → Option (List (Key × Value))
with_pairs ps [] = Some ps
with_pairs ps (k ∷ []) = Some ps
with_pairs ps (k ∷ v ∷ more) = elim (key_of k) [ None ↦ None | Some key ↦ with_pairs (with_pair key v ps) more ]
