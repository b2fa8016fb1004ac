-- Keys by their atoms, and dicts of keys and values by turns.
use Rattle.std.proofs.Common.{◌≡◌, ℕ, zero, suc, ◌+◌, ◌*◌, ◌/◌, ◌<◌, ◌≤◌, true, List, [], ◌∷◌, map, drop, length, get_or, slice_get, Option, Some, None, IfSome, option_map, ap, refl, sym, subst, ◌∙◌, arith, length-drop}
use Rattle.std.proofs.lemmas.List.{length-map}
use Rattle.std.proofs.lemmas.Option.{none-some}
use Rattle.si_semantics.specs.Value as pure
use Rattle.si_semantics.specs.Dicts.{key_of, with_pair, with_pairs}
use Rattle.si_arena.specs.declared.value.Ref.{Ref}
use Rattle.si_arena.specs.declared.value.Ref.TheVariants as value
use Rattle.si_arena.specs.declared.object.Steps.{Steps}
use Rattle.si_arena.specs.declared.tuples.Tuple.{Tuple}
use Rattle.si_arena.specs.declared.atom.Atom.{Atom}
use Rattle.si_arena.specs.declared.atom.Atom.TheVariants as atom
use Rattle.si_arena.specs.declared.dict.Pair.{Pair}
use Rattle.si_arena.specs.declared.held.Held.{Held}
use Rattle.si_arena.specs.declared.held.Held.TheVariants as held
use Rattle.si_arena.specs.Short.{FitsShort}
use Rattle.si_arena.specs.Texts.{Rows, TextLies}
use Rattle.si_arena.specs.inner.Words.{Words, words_of, AreWords, IsStrange}
use Rattle.si_arena.specs.inner.Keys.{found, Means, MeansBy, FindsAtom, key_in, EntriesMean, HeldMeans, AddsPair, EachTextLies, KeysAgree}
use Rattle.si_arena.specs.inner.Changes.{entries_in}
use Rattle.si_arena.specs.Memory.{Memory, value_of, all_of, range_of, key_meant, IsKey, pairs_of, pairs_of_object, PairsLie, held_of, HeldLies, Lies, AllLie, dict_at, value_by}
use Rattle.si_arena.specs.Arenas.{memory_of, IsArena}
use Rattle.si_arena.proofs.Sizes.{left_step}
use Rattle.si_arena.proofs.Wording.{entries-grown}
use Rattle.si_arena.proofs.Keyed.{found_is, found_lies, strange_value, inserted_is, inserted_mean, inserted_lie}
use Rattle.si_arena.proofs.Growing.{tuple_view}
use Rattle.si_arena.proofs.Changed.{is_key_of}

-- ---- the key that a value is

range_no_key : (ss : List Steps) (p : ℕ) → key_of (get_or (map range_of ss) p pure.Nothing) ≡ None
range_no_key [] p = refl
range_no_key (s ∷ ss) zero = refl
range_no_key (s ∷ ss) (suc p) = range_no_key ss p

-- it is that of the rows, and a text lies in them
key_agrees-own : (rows : Rows) (names : List pure.Text) (ranges : List Steps) (items : List Ref) (ts : List Tuple) (os : List Held) (ws : Words) → IsArena rows names ranges items ts os ws → (r : Ref)
    → Lies (memory_of rows names ranges items ts os) r → (key_of (value_of (memory_of rows names ranges items ts os) r) ≡ key_in rows r) × TextLies rows r
key_agrees-own rows names ranges items ts os ws h value.Unbound l = (refl, tt)
key_agrees-own rows names ranges items ts os ws h value.None l = (refl, tt)
key_agrees-own rows names ranges items ts os ws h (value.Truth at b) l = (refl, tt)
key_agrees-own rows names ranges items ts os ws h (value.Int n) l = (refl, tt)
key_agrees-own rows names ranges items ts os ws h (value.Short s) l = (refl, tt)
key_agrees-own rows names ranges items ts os ws h (value.Narrow n i) l = (refl, l)
key_agrees-own rows names ranges items ts os ws h (value.Wide n i) l = (refl, l)
key_agrees-own rows names ranges items ts os ws h (value.ShortBytes s) l = (refl, tt)
key_agrees-own rows names ranges items ts os ws h (value.Bytes n i) l = (refl, tt)
key_agrees-own rows names ranges items ts os ws h (value.BuiltIn at b) l = (refl, tt)
key_agrees-own rows names ranges items ts os ws h (value.Function n x) l = (refl, tt)
key_agrees-own rows names ranges items ts os ws h (value.Range p) l = (range_no_key ranges p, tt)
key_agrees-own rows names ranges items ts os ws h (value.Tuple p) l = (ap key_of (sym (tuple_view (memory_of rows names ranges items ts os) rows names ranges items ts os ws refl h p l).is), tt)
key_agrees-own rows names ranges items ts os ws h (value.Kind at k) l = (refl, tt)
key_agrees-own rows names ranges items ts os ws h (value.Module at mo) l = (refl, tt)
key_agrees-own rows names ranges items ts os ws h (value.Queue qu qm) l = (refl, tt)
key_agrees-own rows names ranges items ts os ws h (value.Interpreter it) l = (refl, tt)
key_agrees-own rows names ranges items ts os ws h (value.Exec it) l = (refl, tt)
key_agrees-own rows names ranges items ts os ws h (value.Object x) l = (refl, tt)

pub key_agrees : (m : Memory) (rows : Rows) (names : List pure.Text) (ranges : List Steps) (items : List Ref) (ts : List Tuple) (os : List Held) (ws : Words) → memory_of rows names ranges items ts os ≡ m → IsArena rows names ranges items ts os ws
    → (r : Ref) → Lies m r → (key_of (value_of m r) ≡ key_in rows r) × TextLies rows r
key_agrees m rows names ranges items ts os ws e h r = subst (λ n. Lies n r → (key_of (value_of n r) ≡ key_in rows r) × TextLies rows r) e (key_agrees-own rows names ranges items ts os ws h r)

pub keys_agree : (m : Memory) (rows : Rows) (names : List pure.Text) (ranges : List Steps) (items : List Ref) (ts : List Tuple) (os : List Held) (ws : Words) → memory_of rows names ranges items ts os ≡ m → IsArena rows names ranges items ts os ws
    → (rs : List Ref) → AllLie m rs → KeysAgree m rows rs × EachTextLies rows rs
keys_agree m rows names ranges items ts os ws e h [] l = (tt, tt)
keys_agree m rows names ranges items ts os ws e h (r ∷ rs) l =
    let a = key_agrees m rows names ranges items ts os ws e h r l.0 in
    let b = keys_agree m rows names ranges items ts os ws e h rs l.1 in
    ((a.0, b.0), (a.1, b.1))

-- ---- what is looked up

-- the entries of what lies at an address
pub dict_entries : (m : Memory) (x : ℕ) (o : Held) → slice_get m.store x ≡ Some (held_of m o) → dict_at m x ≡ pairs_of m (entries_in o)
dict_entries m x (held.Bare k) e = ap pairs_of_object e
dict_entries m x (held.Made k r) e = ap pairs_of_object e
dict_entries m x (held.Caused c) e = ap pairs_of_object e
dict_entries m x (held.Thread i r) e = ap pairs_of_object e
dict_entries m x (held.Started r) e = ap pairs_of_object e
dict_entries m x (held.List rs) e = ap pairs_of_object e
dict_entries m x (held.Dict es) e = ap pairs_of_object e

pub entries_mean : (m : Memory) (us : List (List ℕ)) (o : Held) → HeldMeans m us o → EntriesMean m us (entries_in o)
entries_mean m us (held.Bare k) h = tt
entries_mean m us (held.Made k r) h = tt
entries_mean m us (held.Caused c) h = tt
entries_mean m us (held.Thread i r) h = tt
entries_mean m us (held.Started r) h = tt
entries_mean m us (held.List rs) h = tt
entries_mean m us (held.Dict es) h = h

pub pairs_lie : (m : Memory) (o : Held) → HeldLies m o → PairsLie m (entries_in o)
pairs_lie m (held.Bare k) h = tt
pairs_lie m (held.Made k r) h = tt
pairs_lie m (held.Caused c) h = tt
pairs_lie m (held.Thread i r) h = tt
pairs_lie m (held.Started r) h = tt
pairs_lie m (held.List rs) h = tt
pairs_lie m (held.Dict es) h = h

pub found_by_lies : (m : Memory) (a : Atom) (es : List (Atom × Pair)) → PairsLie m es → (r : Option Ref) → r ≡ found a es → IfSome r (λ q. Lies m q)
found_by_lies m a es h None e = tt
found_by_lies m a es h (Some q) e = found_lies m a es q h (sym e)

-- what lies somewhere, looked at there
pub looked_at : {A B C : Type 0} (f : A → B) (g : B → C) (o : Option A) → option_map (λ a. g (f a)) o ≡ option_map g (option_map f o)
looked_at f g None = refl
looked_at f g (Some a) = refl

pub if_looked_at : {A B : Type 0} (P : B → Type 0) (f : A → B) (o : Option A) → IfSome (option_map f o) P → IfSome o (λ a. P (f a))
if_looked_at P f None h = tt
if_looked_at P f (Some a) h = h

pub found_by : (m : Memory) {first : List (ℕ × ℕ)} {us : List (List ℕ)} (w : AreWords first us) (k : Option pure.Key) (a : Atom) (es : List (Atom × Pair)) → FindsAtom us k (Some a) → EntriesMean m us es
    → option_map (value_of m) (found a es) ≡ value_by k (pairs_of m es)
found_by m w (Some k) a es f h = found_is m w a k f es h
found_by m w None a es f h = absurd f

pub strange_by : (m : Memory) (us : List (List ℕ)) (k : Option pure.Key) (es : List (Atom × Pair)) → FindsAtom us k None → EntriesMean m us es → None ≡ value_by k (pairs_of m es)
strange_by m us (Some k) es f h = sym (strange_value m us k f es h)
strange_by m us None es f h = refl

pub none_by : (k : Option pure.Key) → None ≡ value_by k []
none_by (Some k) = refl
none_by None = refl

-- an atom means the key that a value is
pub meant_by : (us : List (List ℕ)) (v : pure.Value) (k : Option pure.Key) (a : Atom) → key_of v ≡ k → MeansBy us k (Some a) → IsKey v × Means us a (key_meant v)
meant_by us v (Some k) a e h = let i = is_key_of v k e in (i.0, subst (Means us a) (sym i.1) h)
meant_by us v None a e h = absurd h

pub finds_by : (us : List (List ℕ)) (v : pure.Value) (k : Option pure.Key) (a : Atom) → key_of v ≡ k → FindsAtom us k (Some a) → Means us a (key_meant v)
finds_by us v (Some k) a e h = let i = is_key_of v k e in subst (Means us a) (sym i.1) h
finds_by us v None a e h = absurd h

pub strange_meant : (us : List (List ℕ)) (v : pure.Value) (k : Option pure.Key) → IsKey v → key_of v ≡ k → FindsAtom us k None → (b : Atom) → Means us b (key_meant v) → ⊥
strange_meant us v (Some k) i e h = let j = is_key_of v k e in subst (λ l. (b : Atom) → Means us b l → ⊥) (sym j.1) h
strange_meant us v None i e h = absurd (none-some (key_meant v) (sym e ∙ i))

-- a key has an atom
pub has_atom : (us : List (List ℕ)) (v : pure.Value) (k : Option pure.Key) → IsKey v → key_of v ≡ k → MeansBy us k None → ⊥
has_atom us v (Some k) i e h = h
has_atom us v None i e h = none-some (key_meant v) (sym e ∙ i)

-- a text that is no word and does not fit into a `Short` has no atom
pub text_strange : (rows : Rows) (ws : Words) (t : List ℕ) → ¬ FitsShort t → IsStrange rows ws t → (b : Atom) → Means (words_of rows ws) b (pure.Word t) → ⊥
text_strange rows ws t long strange (atom.Int n) h = h
text_strange rows ws t long strange (atom.Short s) h = long h.1
text_strange rows ws t long strange (atom.Word x) h = strange x h

-- ---- keys and values by turns

pub pair_step : (m : Memory) (rs : List Ref) (i : ℕ) (k v d c : Ref) → k ≡ get_or rs (2 * i) d → v ≡ get_or rs (2 * i + 1) c → i < length rs / 2 → drop (2 * i) (all_of m rs) ≡ value_of m k ∷ (value_of m v ∷ drop (2 * (i + 1)) (all_of m rs))
pair_step m rs i k v d c e f lt =
    let a = left_step m rs (2 * i) k d e (omega (arith, lt)) in
    let b = left_step m rs (2 * i + 1) v c f (omega (arith, lt)) in
    let n : (2 * i + 1) + 1 ≡ 2 * (i + 1) = omega arith in
    a ∙ ap (λ vs. value_of m k ∷ vs) (b ∙ ap (λ j. value_of m v ∷ drop j (all_of m rs)) n)

few_left : (ps : List (pure.Key × pure.Value)) (vs : List pure.Value) → length vs ≤ 1 → with_pairs ps vs ≡ Some ps
few_left ps [] h = refl
few_left ps (k ∷ []) h = refl
few_left ps (k ∷ v ∷ vs) h = absurd (omega (arith, h))

pub at_end : (m : Memory) (rs : List Ref) (i : ℕ) (ps : List (pure.Key × pure.Value)) → length rs / 2 ≤ i → with_pairs ps (drop (2 * i) (all_of m rs)) ≡ Some ps
at_end m rs i ps h = few_left ps (drop (2 * i) (all_of m rs)) (omega (arith, h, length-drop (2 * i) (all_of m rs), length-map rs (value_of m)))

-- what is so where a dict was made of some operands, and others are left
pub record Making (m : Memory) (us : List (List ℕ)) (rs : List Ref) (left : List pure.Value) (es : List (Atom × Pair)) : Type 0 where
  pub pairs : with_pairs [] (all_of m rs) ≡ with_pairs (pairs_of m es) left
  pub lie : PairsLie m es
  pub mean : EntriesMean m us es

-- the next pair, where its key is one
abbrev turn : List (pure.Key × pure.Value) → pure.Value → List pure.Value → Option pure.Key → Option (List (pure.Key × pure.Value))
turn ps v more o = elim o [ None ↦ None | Some key ↦ with_pairs (with_pair key v ps) more ]

by_key : (ps : List (pure.Key × pure.Value)) (k v : pure.Value) (more : List pure.Value) (key : pure.Key) → key_of k ≡ Some key → with_pairs ps (k ∷ v ∷ more) ≡ with_pairs (with_pair key v ps) more
by_key ps k v more key e = ap (turn ps v more) e

pub no_key : (ps : List (pure.Key × pure.Value)) (k v : pure.Value) (more : List pure.Value) → key_of k ≡ None → with_pairs ps (k ∷ v ∷ more) ≡ None
no_key ps k v more e = ap (turn ps v more) e

pub making_more : (m : Memory) (rows : Rows) (old new : Words) (p : Pair) (rs : List Ref) (more : List pure.Value) (es fs : List (Atom × Pair)) → AddsPair rows p old new es fs true → key_of (value_of m p.key) ≡ key_in rows p.key → Lies m p.key → Lies m p.value
    → Making m (words_of rows old) rs (value_of m p.key ∷ value_of m p.value ∷ more) es → Making m (words_of rows new) rs more fs
making_more m rows old new p rs more es fs a e lk lv h =
    let us = words_of rows new in
    let k = key_meant (value_of m p.key) in
    let i = meant_by us (value_of m p.key) (key_in rows p.key) a.0 e a.1.0 in
    let w = a.1.2.lie.are in
    let mean = entries-grown m rows old new es a.1.2 h.mean in
    subst (Making m us rs more) (sym a.1.1) (record {
      pairs = h.pairs ∙ by_key (pairs_of m es) (value_of m p.key) (value_of m p.value) more k i.0 ∙ ap (λ ps. with_pairs ps more) (sym (inserted_is m w a.0 k i.1 p refl es mean));
      lie = inserted_lie m w a.0 k i.1 p (record { key = lk; is_key = i.0; value = lv }) es h.lie;
      mean = inserted_mean m w a.0 k i.1 p refl es mean;
    })

pub agrees_at : (m : Memory) (rows : Rows) (rs : List Ref) (i : ℕ) (r d : Ref) → r ≡ get_or rs i d → i < length rs → KeysAgree m rows rs → key_of (value_of m r) ≡ key_in rows r
agrees_at m rows [] i r d e lt h = absurd (omega arith)
agrees_at m rows (q ∷ rs) zero r d e lt h = subst (λ s. key_of (value_of m s) ≡ key_in rows s) (sym e) h.0
agrees_at m rows (q ∷ rs) (suc i) r d e lt h = agrees_at m rows rs i r d e (omega arith) h.1

pub text_lies_at : (rows : Rows) (rs : List Ref) (i : ℕ) (r d : Ref) → r ≡ get_or rs i d → i < length rs → EachTextLies rows rs → TextLies rows r
text_lies_at rows [] i r d e lt h = absurd (omega arith)
text_lies_at rows (q ∷ rs) zero r d e lt h = subst (TextLies rows) (sym e) h.0
text_lies_at rows (q ∷ rs) (suc i) r d e lt h = text_lies_at rows rs i r d e (omega arith) h.1
