-- An object that is changed: what lay in the arena lies in it, and denotes the same, but the object.
use Rattle.std.proofs.Common.{◌≡◌, ℕ, zero, suc, ◌+◌, ◌<◌, List, [], ◌∷◌, ◌++◌, map, take, drop, length, get_or, slice_get, Option, Some, None, IfSome, option_map, ap, ap₂, refl, sym, subst, ◌∙◌, arith, append-nil}
use Rattle.std.specs.Prelude.{slice_set}
use Rattle.std.proofs.lemmas.List.{length-map, map-set, map-append, map_push}
use Rattle.std.proofs.lemmas.Option.{none-some, slice_get-map, slice_get-get_or, slice_get_within}
use Rattle.si_semantics.specs.Value as pure
use Rattle.si_semantics.specs.Dicts.{key_of, value_at, with_pair, without_key}
use Rattle.si_semantics.specs.Containers as containers
use Rattle.si_arena.specs.declared.value.Ref.{Ref}
use Rattle.si_arena.specs.declared.value.Ref.TheVariants as value
use Rattle.si_arena.specs.declared.object.Steps.{Steps}
use Rattle.si_arena.specs.declared.tuples.Tuple.{Tuple}
use Rattle.si_arena.specs.declared.atom.Atom.{Atom}
use Rattle.si_arena.specs.declared.dict.Pair.{Pair}
use Rattle.si_arena.specs.declared.held.Held.{Held}
use Rattle.si_arena.specs.declared.held.Held.TheVariants as held
use Rattle.si_arena.specs.Texts.{Rows}
use Rattle.si_arena.specs.inner.Words.{Words, words_of, AreWords}
use Rattle.si_arena.specs.inner.Keys.{HeldMeans, EntriesMean, Means, found}
use Rattle.si_arena.specs.inner.Changes.{items_in, entries_in, appended, extended, with_item, without_item, with_entry, without_entry}
use Rattle.si_arena.specs.Memory.{Memory, value_of, all_of, key_meant, IsKey, pairs_of, held_of, Lies, AllLie, HeldLies, PairLies, PairsLie, Extends, IsMade, list_at, dict_at, IsListAt, IsDictAt, with_object, items_of_object, pairs_of_object}
use Rattle.si_arena.specs.Arenas.{grounds_of, memory_of, IsArena}
use Rattle.si_arena.proofs.Lying.{lies-extends}
use Rattle.si_arena.proofs.Wording.{same_some, means_at}
use Rattle.si_arena.proofs.Tables.{value-bare, all-bare}
use Rattle.si_arena.proofs.Growing.{object_at, object_kept, object_changed, length_set}
use Rattle.si_arena.proofs.Keyed.{removed_is, removed_mean, removed_lie, inserted_is, inserted_mean, inserted_lie, strange_rest, found_is, strange_value}

-- ---- what the crates above cite

-- a list, and a dict, that is at an address
pub list_is : (m : Memory) (x : ℕ) (vs : List pure.Value) → slice_get m.store x ≡ Some (pure.Items vs) → IsListAt m x × (list_at m x ≡ vs)
list_is m x vs e = let same : list_at m x ≡ vs = ap items_of_object e in (e ∙ ap (λ us. Some (pure.Items us)) (sym same), same)

pub dict_is : (m : Memory) (x : ℕ) (ps : List (pure.Key × pure.Value)) → slice_get m.store x ≡ Some (pure.Pairs ps) → IsDictAt m x × (dict_at m x ≡ ps)
dict_is m x ps e = let same : dict_at m x ≡ ps = ap pairs_of_object e in (e ∙ ap (λ qs. Some (pure.Pairs qs)) (sym same), same)

set_there : {A : Type 0} (xs : List A) (x : ℕ) (a b : A) → slice_get xs x ≡ Some b → slice_get (slice_set xs x a) x ≡ Some a
set_there [] x a b e = absurd (none-some b e)
set_there (y ∷ xs) zero a b e = refl
set_there (y ∷ xs) (suc x) a b e = set_there xs x a b e

-- a list that is changed is one still, and so is a dict
pub still_list : (old new : Memory) (x : ℕ) (vs : List pure.Value) → IsListAt old x → new ≡ with_object x (pure.Items vs) old → IsListAt new x × (list_at new x ≡ vs)
still_list old new x vs h e =
    list_is new x vs (ap (λ (m : Memory). slice_get m.store x) e ∙ set_there old.store x (pure.Items vs) (pure.Items (list_at old x)) h)

pub still_dict : (old new : Memory) (x : ℕ) (ps : List (pure.Key × pure.Value)) → IsDictAt old x → new ≡ with_object x (pure.Pairs ps) old → IsDictAt new x × (dict_at new x ≡ ps)
still_dict old new x ps h e =
    dict_is new x ps (ap (λ (m : Memory). slice_get m.store x) e ∙ set_there old.store x (pure.Pairs ps) (pure.Pairs (dict_at old x)) h)

-- values denote the same, whatever the objects are
pub value-changed : (m : Memory) (x : ℕ) (o : pure.Object) (r : Ref) → value_of (with_object x o m) r ≡ value_of m r
value-changed m x o r = value-bare (slice_set m.store x o) m r

pub option-changed : (m : Memory) (x : ℕ) (o : pure.Object) (r : Option Ref) → option_map (value_of (with_object x o m)) r ≡ option_map (value_of m) r
option-changed m x o None = refl
option-changed m x o (Some r) = ap (λ v. Some v) (value-changed m x o r)

pub all-changed : (m : Memory) (x : ℕ) (o : pure.Object) (rs : List Ref) → all_of (with_object x o m) rs ≡ all_of m rs
all-changed m x o rs = all-bare (slice_set m.store x o) m rs

pub extends_changed : {old new : Memory} (x : ℕ) (o : pure.Object) → new ≡ with_object x o old → Extends old new
extends_changed {old = old} {new = new} x o e = record {
  lasts = record {
    texts = record {
      narrow = ([], ap (λ (m : Memory). m.texts.narrow) e ∙ sym (append-nil old.texts.narrow));
      wide = ([], ap (λ (m : Memory). m.texts.wide) e ∙ sym (append-nil old.texts.wide));
    };
    names = ([], ap (λ (m : Memory). m.names) e ∙ sym (append-nil old.names));
    ranges = ([], ap (λ (m : Memory). m.ranges) e ∙ sym (append-nil old.ranges));
    tuples = ([], ap (λ (m : Memory). m.tuples) e ∙ sym (append-nil old.tuples));
  };
  objects = omega (arith, ap (λ (m : Memory). length m.store) e, length_set old.store x o);
}

pub option_lies : {old new : Memory} (r : Option Ref) → Extends old new → IfSome r (λ q. Lies old q) → IfSome r (λ q. Lies new q)
option_lies None e h = h
option_lies (Some r) e h = lies-extends r e h

-- a key
pub is_key_of : (v : pure.Value) (k : pure.Key) → key_of v ≡ Some k → IsKey v × (key_meant v ≡ k)
is_key_of (pure.Int i) k e = (refl, same_some (pure.Number i) k e)
is_key_of (pure.Str s) k e = (refl, same_some (pure.Word s) k e)
is_key_of pure.Nothing k e = absurd (none-some k e)
is_key_of (pure.Truth b) k e = absurd (none-some k e)
is_key_of (pure.Bytes bs) k e = absurd (none-some k e)
is_key_of (pure.Provided b) k e = absurd (none-some k e)
is_key_of (pure.Function f n) k e = absurd (none-some k e)
is_key_of (pure.Range a b c) k e = absurd (none-some k e)
is_key_of (pure.Tuple vs) k e = absurd (none-some k e)
is_key_of (pure.Class c) k e = absurd (none-some k e)
is_key_of (pure.Module mo) k e = absurd (none-some k e)
is_key_of (pure.Queue qu qm) k e = absurd (none-some k e)
is_key_of (pure.Interpreter it) k e = absurd (none-some k e)
is_key_of (pure.Exec it) k e = absurd (none-some k e)
is_key_of (pure.Address x) k e = absurd (none-some k e)

-- a key as a value is the value that it was
pub key-value : (v : pure.Value) → IsKey v → pure.value_of_key (key_meant v) ≡ v
key-value (pure.Int i) e = refl
key-value (pure.Str s) e = refl
key-value pure.Nothing e = absurd (none-some (pure.Word []) e)
key-value (pure.Truth b) e = absurd (none-some (pure.Word []) e)
key-value (pure.Bytes bs) e = absurd (none-some (pure.Word []) e)
key-value (pure.Provided b) e = absurd (none-some (pure.Word []) e)
key-value (pure.Function f n) e = absurd (none-some (pure.Word []) e)
key-value (pure.Range a b c) e = absurd (none-some (pure.Word []) e)
key-value (pure.Tuple vs) e = absurd (none-some (pure.Word []) e)
key-value (pure.Class c) e = absurd (none-some (pure.Word []) e)
key-value (pure.Module mo) e = absurd (none-some (pure.Word []) e)
key-value (pure.Queue qu qm) e = absurd (none-some (pure.Word []) e)
key-value (pure.Interpreter it) e = absurd (none-some (pure.Word []) e)
key-value (pure.Exec it) e = absurd (none-some (pure.Word []) e)
key-value (pure.Address x) e = absurd (none-some (pure.Word []) e)

pub length-pairs : (m : Memory) (es : List (Atom × Pair)) → length (pairs_of m es) ≡ length es
length-pairs m [] = refl
length-pairs m (e ∷ es) = ap suc (length-pairs m es)

-- ---- what lies at an address

pub record HeldAt (m : Memory) (us : List (List ℕ)) (os : List Held) (x : ℕ) (o : Held) : Type 0 where
  pub there : x < length os
  pub is : slice_get m.store x ≡ Some (held_of m o)
  pub lies : HeldLies m o
  pub means : HeldMeans m us o

held_of-bare : (s : List pure.Object) (m : Memory) (o : Held) → held_of (record m { store = s }) o ≡ held_of m o
held_of-bare s m (held.Bare k) = refl
held_of-bare s m (held.Made k r) = ap (λ v. pure.Exception k (Some v)) (value-bare s m r)
held_of-bare s m (held.Caused c) = refl
held_of-bare s m (held.Thread i r) = refl
held_of-bare s m (held.Started r) = refl
held_of-bare s m (held.List rs) = ap pure.Items (all-bare s m rs)
held_of-bare s m (held.Dict es) = ap pure.Pairs (pairs-bare es)
  where
    pairs-bare : (es : List (Atom × Pair)) → pairs_of (record m { store = s }) es ≡ pairs_of m es
    pairs-bare [] = refl
    pairs-bare (e ∷ es) = ap₂ (λ p ps. p ∷ ps) (ap₂ (λ k v. (key_meant k, v)) (value-bare s m e.1.key) (value-bare s m e.1.value)) (pairs-bare es)

held_here : (rows : Rows) (names : List pure.Text) (ranges : List Steps) (items : List Ref) (ts : List Tuple) (os : List Held) (ws : Words) → IsArena rows names ranges items ts os ws → (x : ℕ) (o : Held)
    → x < length (memory_of rows names ranges items ts os).store → o ≡ get_or os x o → HeldAt (memory_of rows names ranges items ts os) (words_of rows ws) os x o
held_here rows names ranges items ts os ws h x o lt e =
    let g = grounds_of rows names ranges items ts in
    let f = held_of g in
    let m = memory_of rows names ranges items ts os in
    let there : x < length os = omega (arith, lt, length-map os f) in record {
      there = there;
      is = slice_get-map f os x ∙ ap (option_map f) (slice_get-get_or os x o there ∙ ap (λ q. Some q) (sym e)) ∙ ap (λ q. Some q) (sym (held_of-bare m.store g o));
      lies = object_at m os x o h.objects there e;
      means = means_at m (words_of rows ws) os x o h.keys there e;
    }

pub held_view : (m : Memory) (rows : Rows) (names : List pure.Text) (ranges : List Steps) (items : List Ref) (ts : List Tuple) (os : List Held) (ws : Words) → memory_of rows names ranges items ts os ≡ m → IsArena rows names ranges items ts os ws
    → (x : ℕ) (o : Held) → x < length m.store → o ≡ get_or os x o → HeldAt m (words_of rows ws) os x o
held_view m rows names ranges items ts os ws e h x o lt g = subst (λ n. x < length n.store → HeldAt n (words_of rows ws) os x o) e (λ l. held_here rows names ranges items ts os ws h x o l g) lt

got_same : {A : Type 0} (xs : List A) (x : ℕ) (d : A) → x < length xs → get_or xs x d ≡ get_or xs x (get_or xs x d)
got_same [] x d lt = absurd (omega arith)
got_same (y ∷ xs) zero d lt = refl
got_same (y ∷ xs) (suc x) d lt = got_same xs x d (omega arith)

-- what lies at an address that is not looked at
pub held_there : (m : Memory) (rows : Rows) (names : List pure.Text) (ranges : List Steps) (items : List Ref) (ts : List Tuple) (os : List Held) (ws : Words) → memory_of rows names ranges items ts os ≡ m → IsArena rows names ranges items ts os ws
    → (x : ℕ) → x < length m.store → HeldAt m (words_of rows ws) os x (get_or os x (held.Started 0))
held_there m rows names ranges items ts os ws e h x lt =
    let f = held_of (grounds_of rows names ranges items ts) in
    held_view m rows names ranges items ts os ws e h x (get_or os x (held.Started 0)) lt (got_same os x (held.Started 0) (omega (arith, lt, ap (λ (n : Memory). length n.store) e, length-map os f)))

-- an address with a list, or a dict, is there
pub there_is : (m : Memory) (x : ℕ) (o : pure.Object) → slice_get m.store x ≡ Some o → x < length m.store
there_is m x o e = slice_get_within m.store x o e

-- what lies at an address is changed: so is the object
pub changed_is : (m : Memory) (rows : Rows) (names : List pure.Text) (ranges : List Steps) (items : List Ref) (ts : List Tuple) (os : List Held) → memory_of rows names ranges items ts os ≡ m
    → (x : ℕ) (o : Held) (p : pure.Object) → held_of m o ≡ p → memory_of rows names ranges items ts (slice_set os x o) ≡ with_object x p m
changed_is m rows names ranges items ts os e x o p same =
    let g = grounds_of rows names ranges items ts in
    let n = memory_of rows names ranges items ts os in
    subst (λ k. held_of k o ≡ p → memory_of rows names ranges items ts (slice_set os x o) ≡ with_object x p k) e
    (λ s. ap (λ st. record g { store = st }) (map-set (held_of g) os x o ∙ ap (slice_set n.store x) (sym (held_of-bare n.store g o) ∙ s))) same

-- an object more
pub object_made : (m : Memory) (rows : Rows) (names : List pure.Text) (ranges : List Steps) (items : List Ref) (ts : List Tuple) (os : List Held) → memory_of rows names ranges items ts os ≡ m
    → (o : Held) (p : pure.Object) → held_of m o ≡ p → (n : ℕ) → n ≡ length os → IsMade p m (memory_of rows names ranges items ts (os ++ o ∷ [])) (value.Object n)
object_made m rows names ranges items ts os e o p same n l =
    let g = grounds_of rows names ranges items ts in
    subst (λ k. held_of k o ≡ p → IsMade p k (memory_of rows names ranges items ts (os ++ o ∷ [])) (value.Object n)) e
    (λ s. record {
      address = ap (λ a. value.Object a) (l ∙ sym (length-map os (held_of g)));
      memory = ap (λ st. record g { store = st }) (map_push (held_of g) os o ∙ ap (λ q. map (held_of g) os ++ q ∷ []) (sym (held_of-bare (map (held_of g) os) g o) ∙ s));
    }) same

pub arena_made : (m : Memory) (rows : Rows) (names : List pure.Text) (ranges : List Steps) (items : List Ref) (ts : List Tuple) (os : List Held) (ws : Words) → memory_of rows names ranges items ts os ≡ m → IsArena rows names ranges items ts os ws
    → (o : Held) → HeldLies m o → HeldMeans m (words_of rows ws) o → IsArena rows names ranges items ts (os ++ o ∷ []) ws
arena_made m rows names ranges items ts os ws e h o = subst (λ n. HeldLies n o → HeldMeans n (words_of rows ws) o → IsArena rows names ranges items ts (os ++ o ∷ []) ws) e (object_kept rows names ranges items ts os ws o h)

-- what lies at an address is another: an arena stays one
pub arena_changed : (m : Memory) (rows : Rows) (names : List pure.Text) (ranges : List Steps) (items : List Ref) (ts : List Tuple) (os : List Held) (ws : Words) → memory_of rows names ranges items ts os ≡ m → IsArena rows names ranges items ts os ws
    → (x : ℕ) (o : Held) → HeldLies m o → HeldMeans m (words_of rows ws) o → IsArena rows names ranges items ts (slice_set os x o) ws
arena_changed m rows names ranges items ts os ws e h x o = subst (λ n. HeldLies n o → HeldMeans n (words_of rows ws) o → IsArena rows names ranges items ts (slice_set os x o) ws) e (object_changed rows names ranges items ts os ws x o h)

-- what lies at an address is the object that it is to be
pub record IsChange (m : Memory) (us : List (List ℕ)) (o : Held) (p : pure.Object) : Type 0 where
  pub is : held_of m o ≡ p
  pub lies : HeldLies m o
  pub means : HeldMeans m us o

-- ---- lists

abbrev IsItems : pure.Object → Type 0
IsItems (pure.Items vs) = Unit {0}
IsItems _ = ⊥

-- the items that lie at the address of a list
pub items_are : (m : Memory) (x : ℕ) (o : Held) → IsListAt m x → slice_get m.store x ≡ Some (held_of m o) → (o ≡ held.List (items_in o)) × (all_of m (items_in o) ≡ list_at m x)
items_are m x (held.List rs) h e = (refl, sym (ap items_of_object e))
items_are m x (held.Bare k) h e = absurd (subst IsItems (same_some (pure.Items (list_at m x)) (held_of m (held.Bare k)) (sym h ∙ e)) tt)
items_are m x (held.Made k r) h e = absurd (subst IsItems (same_some (pure.Items (list_at m x)) (held_of m (held.Made k r)) (sym h ∙ e)) tt)
items_are m x (held.Caused c) h e = absurd (subst IsItems (same_some (pure.Items (list_at m x)) (held_of m (held.Caused c)) (sym h ∙ e)) tt)
items_are m x (held.Thread i r) h e = absurd (subst IsItems (same_some (pure.Items (list_at m x)) (held_of m (held.Thread i r)) (sym h ∙ e)) tt)
items_are m x (held.Started r) h e = absurd (subst IsItems (same_some (pure.Items (list_at m x)) (held_of m (held.Started r)) (sym h ∙ e)) tt)
items_are m x (held.Dict es) h e = absurd (subst IsItems (same_some (pure.Items (list_at m x)) (held_of m (held.Dict es)) (sym h ∙ e)) tt)

-- nothing else is a list
pub only_list : (m : Memory) (o : Held) (vs : List pure.Value) → ((rs : List Ref) → o ≡ held.List rs → ⊥) → Some (held_of m o) ≡ Some (pure.Items vs) → ⊥
only_list m (held.List rs) vs h e = h rs refl
only_list m (held.Bare k) vs h e = subst IsItems (sym (same_some (held_of m (held.Bare k)) (pure.Items vs) e)) tt
only_list m (held.Made k r) vs h e = subst IsItems (sym (same_some (held_of m (held.Made k r)) (pure.Items vs) e)) tt
only_list m (held.Caused c) vs h e = subst IsItems (sym (same_some (held_of m (held.Caused c)) (pure.Items vs) e)) tt
only_list m (held.Thread i r) vs h e = subst IsItems (sym (same_some (held_of m (held.Thread i r)) (pure.Items vs) e)) tt
only_list m (held.Started r) vs h e = subst IsItems (sym (same_some (held_of m (held.Started r)) (pure.Items vs) e)) tt
only_list m (held.Dict es) vs h e = subst IsItems (sym (same_some (held_of m (held.Dict es)) (pure.Items vs) e)) tt

all_append : (m : Memory) (rs qs : List Ref) → AllLie m rs → AllLie m qs → AllLie m (rs ++ qs)
all_append m [] qs h k = k
all_append m (r ∷ rs) qs h k = (h.0, all_append m rs qs h.1 k)

all_set : (m : Memory) (rs : List Ref) (k : ℕ) (r : Ref) → AllLie m rs → Lies m r → AllLie m (slice_set rs k r)
all_set m [] k r h l = h
all_set m (q ∷ rs) zero r h l = (l, h.1)
all_set m (q ∷ rs) (suc k) r h l = (h.0, all_set m rs k r h.1 l)

all_take : (m : Memory) (k : ℕ) (rs : List Ref) → AllLie m rs → AllLie m (take k rs)
all_take m zero [] h = tt
all_take m zero (r ∷ rs) h = tt
all_take m (suc k) [] h = tt
all_take m (suc k) (r ∷ rs) h = (h.0, all_take m k rs h.1)

all_drop : (m : Memory) (k : ℕ) (rs : List Ref) → AllLie m rs → AllLie m (drop k rs)
all_drop m zero [] h = h
all_drop m zero (r ∷ rs) h = h
all_drop m (suc k) [] h = h
all_drop m (suc k) (r ∷ rs) h = all_drop m k rs h.1

map-take : {A B : Type 0} (f : A → B) (n : ℕ) (xs : List A) → map f (take n xs) ≡ take n (map f xs)
map-take f zero [] = refl
map-take f zero (x ∷ xs) = refl
map-take f (suc n) [] = refl
map-take f (suc n) (x ∷ xs) = ap (λ ys. f x ∷ ys) (map-take f n xs)

map-drop : {A B : Type 0} (f : A → B) (n : ℕ) (xs : List A) → map f (drop n xs) ≡ drop n (map f xs)
map-drop f zero [] = refl
map-drop f zero (x ∷ xs) = refl
map-drop f (suc n) [] = refl
map-drop f (suc n) (x ∷ xs) = map-drop f n xs

module _ (m : Memory) (us : List (List ℕ)) (x : ℕ) (o : Held) (list : IsListAt m x) (e : slice_get m.store x ≡ Some (held_of m o)) (lies : HeldLies m o) where
  own : AllLie m (items_in o)
  own = subst (HeldLies m) (items_are m x o list e).0 lies

  pub append_change : (r : Ref) → Lies m r → IsChange m us (appended r o) (pure.Items (list_at m x ++ value_of m r ∷ []))
  append_change r l =
      let s = items_are m x o list e in
      subst (λ q. IsChange m us (appended r q) (pure.Items (list_at m x ++ value_of m r ∷ []))) (sym s.0) (record {
        is = ap pure.Items (map-append (value_of m) (items_in o) (r ∷ []) ∙ ap (λ vs. vs ++ value_of m r ∷ []) s.1);
        lies = all_append m (items_in o) (r ∷ []) own (l, tt);
        means = tt;
      })

  pub extend_change : (rs : List Ref) → AllLie m rs → IsChange m us (extended rs o) (pure.Items (list_at m x ++ all_of m rs))
  extend_change rs l =
      let s = items_are m x o list e in
      subst (λ q. IsChange m us (extended rs q) (pure.Items (list_at m x ++ all_of m rs))) (sym s.0) (record {
        is = ap pure.Items (map-append (value_of m) (items_in o) rs ∙ ap (λ vs. vs ++ all_of m rs) s.1);
        lies = all_append m (items_in o) rs own l;
        means = tt;
      })

  pub set_change : (k : ℕ) (r : Ref) → Lies m r → IsChange m us (with_item k r o) (pure.Items (slice_set (list_at m x) k (value_of m r)))
  set_change k r l =
      let s = items_are m x o list e in
      subst (λ q. IsChange m us (with_item k r q) (pure.Items (slice_set (list_at m x) k (value_of m r)))) (sym s.0) (record {
        is = ap pure.Items (map-set (value_of m) (items_in o) k r ∙ ap (λ vs. slice_set vs k (value_of m r)) s.1);
        lies = all_set m (items_in o) k r own l;
        means = tt;
      })

  pub remove_change : (k : ℕ) → IsChange m us (without_item k o) (pure.Items (containers.without_item k (list_at m x)))
  remove_change k =
      let s = items_are m x o list e in
      subst (λ q. IsChange m us (without_item k q) (pure.Items (containers.without_item k (list_at m x)))) (sym s.0) (record {
        is = ap pure.Items
            (map-append (value_of m) (take k (items_in o)) (drop (k + 1) (items_in o))
            ∙ ap₂ (λ a b. a ++ b) (map-take (value_of m) k (items_in o)) (map-drop (value_of m) (k + 1) (items_in o))
            ∙ ap (containers.without_item k) s.1);
        lies = all_append m (take k (items_in o)) (drop (k + 1) (items_in o)) (all_take m k (items_in o) own) (all_drop m (k + 1) (items_in o) own);
        means = tt;
      })

  pub count_is : length (list_at m x) ≡ length (items_in o)
  count_is = let s = items_are m x o list e in sym (ap length s.1) ∙ length-map (items_in o) (value_of m)

  pub item_is : (k : ℕ) (r : Ref) → slice_get (items_in o) k ≡ Some r → slice_get (list_at m x) k ≡ Some (value_of m r)
  item_is k r f =
      let s = items_are m x o list e in
      ap (λ vs. slice_get vs k) (sym s.1) ∙ slice_get-map (value_of m) (items_in o) k ∙ ap (option_map (value_of m)) f

  pub item_lies : (k : ℕ) (r : Ref) → slice_get (items_in o) k ≡ Some r → Lies m r
  item_lies k r f = item_at (items_in o) k own f
    where
      item_at : (rs : List Ref) (k : ℕ) → AllLie m rs → slice_get rs k ≡ Some r → Lies m r
      item_at [] k h g = absurd (none-some r g)
      item_at (q ∷ rs) zero h g = subst (Lies m) (same_some q r g) h.0
      item_at (q ∷ rs) (suc k) h g = item_at rs k h.1 g

-- ---- dicts

abbrev IsPairs : pure.Object → Type 0
IsPairs (pure.Pairs ps) = Unit {0}
IsPairs _ = ⊥

-- the entries that lie at the address of a dict
pub entries_are : (m : Memory) (x : ℕ) (o : Held) → IsDictAt m x → slice_get m.store x ≡ Some (held_of m o) → (o ≡ held.Dict (entries_in o)) × (pairs_of m (entries_in o) ≡ dict_at m x)
entries_are m x (held.Dict es) h e = (refl, sym (ap pairs_of_object e))
entries_are m x (held.Bare k) h e = absurd (subst IsPairs (same_some (pure.Pairs (dict_at m x)) (held_of m (held.Bare k)) (sym h ∙ e)) tt)
entries_are m x (held.Made k r) h e = absurd (subst IsPairs (same_some (pure.Pairs (dict_at m x)) (held_of m (held.Made k r)) (sym h ∙ e)) tt)
entries_are m x (held.Caused c) h e = absurd (subst IsPairs (same_some (pure.Pairs (dict_at m x)) (held_of m (held.Caused c)) (sym h ∙ e)) tt)
entries_are m x (held.Thread i r) h e = absurd (subst IsPairs (same_some (pure.Pairs (dict_at m x)) (held_of m (held.Thread i r)) (sym h ∙ e)) tt)
entries_are m x (held.Started r) h e = absurd (subst IsPairs (same_some (pure.Pairs (dict_at m x)) (held_of m (held.Started r)) (sym h ∙ e)) tt)
entries_are m x (held.List rs) h e = absurd (subst IsPairs (same_some (pure.Pairs (dict_at m x)) (held_of m (held.List rs)) (sym h ∙ e)) tt)

module _ (m : Memory) {first : List (ℕ × ℕ)} {us : List (List ℕ)} (w : AreWords first us) (x : ℕ) (o : Held) (dict : IsDictAt m x) (e : slice_get m.store x ≡ Some (held_of m o)) (lies : HeldLies m o) (means : HeldMeans m us o) where
  own_pairs : PairsLie m (entries_in o)
  own_pairs = subst (HeldLies m) (entries_are m x o dict e).0 lies

  own_means : EntriesMean m us (entries_in o)
  own_means = subst (HeldMeans m us) (entries_are m x o dict e).0 means

  pub set_pair_change : (a : Atom) (p : Pair) → Means us a (key_meant (value_of m p.key)) → PairLies m p → IsChange m us (with_entry a p o) (pure.Pairs (with_pair (key_meant (value_of m p.key)) (value_of m p.value) (dict_at m x)))
  set_pair_change a p meant l =
      let s = entries_are m x o dict e in
      let k = key_meant (value_of m p.key) in
      subst (λ q. IsChange m us (with_entry a p q) (pure.Pairs (with_pair k (value_of m p.value) (dict_at m x)))) (sym s.0) (record {
        is = ap pure.Pairs (inserted_is m w a k meant p refl (entries_in o) own_means ∙ ap (with_pair k (value_of m p.value)) s.1);
        lies = inserted_lie m w a k meant p l (entries_in o) own_pairs;
        means = inserted_mean m w a k meant p refl (entries_in o) own_means;
      })

  pub remove_pair_change : (a : Atom) (k : pure.Key) → Means us a k → IsChange m us (without_entry a o) (pure.Pairs (without_key k (dict_at m x)))
  remove_pair_change a k meant =
      let s = entries_are m x o dict e in
      subst (λ q. IsChange m us (without_entry a q) (pure.Pairs (without_key k (dict_at m x)))) (sym s.0) (record {
        is = ap pure.Pairs (removed_is m w a k meant (entries_in o) own_means ∙ ap (without_key k) s.1);
        lies = removed_lie m w a k meant (entries_in o) own_pairs;
        means = removed_mean m w a k meant (entries_in o) own_means;
      })

  pub pair_found : (a : Atom) (k : pure.Key) → Means us a k → option_map (value_of m) (found a (entries_in o)) ≡ value_at k (dict_at m x)
  pair_found a k meant = found_is m w a k meant (entries_in o) own_means ∙ ap (value_at k) (entries_are m x o dict e).1

  pub pair_strange : (k : pure.Key) → ((b : Atom) → Means us b k → ⊥) → value_at k (dict_at m x) ≡ None
  pair_strange k strange = ap (value_at k) (sym (entries_are m x o dict e).1) ∙ strange_value m us k strange (entries_in o) own_means

  pub rest_strange : (k : pure.Key) → ((b : Atom) → Means us b k → ⊥) → without_key k (dict_at m x) ≡ dict_at m x
  rest_strange k strange = let s = entries_are m x o dict e in ap (without_key k) (sym s.1) ∙ strange_rest m us k strange (entries_in o) own_means ∙ s.1

-- an object that is put where it is
set_same : {A : Type 0} (xs : List A) (x : ℕ) (a : A) → slice_get xs x ≡ Some a → slice_set xs x a ≡ xs
set_same [] x a e = refl
set_same (y ∷ xs) zero a e = ap (λ z. z ∷ xs) (sym (same_some y a e))
set_same (y ∷ xs) (suc x) a e = ap (λ ys. y ∷ ys) (set_same xs x a e)

pub with_same : (m : Memory) (x : ℕ) (o : pure.Object) → slice_get m.store x ≡ Some o → m ≡ with_object x o m
with_same m x o e = ap (λ s. record m { store = s }) (sym (set_same m.store x o e))
