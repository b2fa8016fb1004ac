-- What objects hold: lists, dicts, and what is neither.
use Rattle.std.proofs.Common.{◌≡◌, ◌≢◌, ℕ, zero, suc, ◌+◌, ◌<◌, ◌≤◌, List, [], ◌∷◌, length, get_or, cond, codes, ne_eqb, Bool, true, false, Option, Some, None, Ok, Err, refl, sym, ap, ◌∙◌, arith}
use Rattle.std.specs.Prelude.{slice_get, nat_eq, not, is_some, option_map}
use Rattle.std.proofs.lemmas.Bool.Decides.{nat_tests}
use Rattle.std.proofs.lemmas.List.{length-map, get_or-map}
use Rattle.std.proofs.lemmas.Option.{slice_get-get_or, slice_get-map}
use Rattle.si_plain.specs.declared.kind.Kind.TheVariants.{TypeError, RuntimeError}
use Rattle.si_semantics.specs.Value as pure
use Rattle.si_semantics.specs.World.{World}
use Rattle.si_semantics.specs.Dicts.{key_of, keys_in}
use Rattle.si_semantics.specs.Value.{value_of_key}
use Rattle.std.proofs.lemmas.Bool.{eq-eqb}
use Rattle.si_ops.proofs.KeysOf.{key_back}
use Rattle.si_semantics.specs.Operations.{is_true_object, object_contains, is_key, iterator_at, next_of_list, next_of_dict, item_or_end, Exhausted, Refuses, Keys, length_of_object, wrong_type}
use Rattle.si_arena.specs.declared.value.Ref.{Ref}
use Rattle.si_arena.specs.declared.value.Ref.TheVariants as ref
use Rattle.si_arena.specs.declared.view.View.{View}
use Rattle.si_arena.specs.declared.view.View.TheVariants as view
use Rattle.si_arena.specs.declared.atom.Atom.{Atom}
use Rattle.si_arena.specs.declared.dict.Pair.{Pair}
use Rattle.si_arena.specs.Views.{value_in}
use Rattle.si_arena.specs.Memory.{Memory, value_of, all_of, pair_of, pairs_of, items_of_object, pairs_of_object, list_at, dict_at, value_by, IsKey, IsListAt, IsDictAt}
use Rattle.si_ops.specs.inner.Held.{IsPlain, IsPlainObject}

-- ---- what is at an address

pub list_there : (m : Memory) (x : ℕ) (vs : List pure.Value) → slice_get m.store x ≡ Some (pure.Items vs) → IsListAt m x
list_there m x vs h = h ∙ ap (λ us. Some (pure.Items us)) (sym (ap items_of_object h))

pub list_is : (m : Memory) (x : ℕ) (vs : List pure.Value) → slice_get m.store x ≡ Some (pure.Items vs) → list_at m x ≡ vs
list_is m x vs h = ap items_of_object h

pub dict_there : (m : Memory) (x : ℕ) (ps : List (pure.Key × pure.Value)) → slice_get m.store x ≡ Some (pure.Pairs ps) → IsDictAt m x
dict_there m x ps h = h ∙ ap (λ qs. Some (pure.Pairs qs)) (sym (ap pairs_of_object h))

pub dict_is : (m : Memory) (x : ℕ) (ps : List (pure.Key × pure.Value)) → slice_get m.store x ≡ Some (pure.Pairs ps) → dict_at m x ≡ ps
dict_is m x ps h = ap pairs_of_object h

-- any value but an object, a range and a tuple is neither a list nor a dict
pub other_plain : (m : Memory) (r : Ref) → ((x : ℕ) → r ≢ ref.Object x) → ((p : ℕ) → r ≢ ref.Range p) → ((p : ℕ) → r ≢ ref.Tuple p) → IsPlain m.store (value_of m r)
other_plain m (ref.Object x) f g h = absurd (f x refl)
other_plain m (ref.Range p) f g h = absurd (g p refl)
other_plain m (ref.Tuple p) f g h = absurd (h p refl)
other_plain m _ f g h = tt

-- ---- truth

pub list_true : (m : Memory) (rs : List Ref) (b : Bool) → b ≡ not (nat_eq (length rs) 0) → b ≡ is_true_object (Some (pure.Items (all_of m rs)))
list_true m [] b e = e
list_true m (r ∷ rs) b e = e ∙ ap not (empty_not (length rs))
  where
    empty_not : (n : ℕ) → nat_eq (suc n) 0 ≡ false
    empty_not n = grind (arith, nat_tests)

pub dict_true : (m : Memory) (es : List (Atom × Pair)) (n : ℕ) (b : Bool) → n ≡ length es → b ≡ not (nat_eq n 0) → b ≡ is_true_object (Some (pure.Pairs (pairs_of m es)))
dict_true m [] n b h e = e ∙ ap (λ k. not (nat_eq k 0)) h
dict_true m (p ∷ es) n b h e = e ∙ ap (λ k. not (nat_eq k 0)) h ∙ ap not (empty_not (length es))
  where
    empty_not : (n : ℕ) → nat_eq (suc n) 0 ≡ false
    empty_not n = grind (arith, nat_tests)

-- ---- what is in it

pub plain_contains : (o : Option pure.Object) (v : pure.Value) (w : World) → IsPlainObject o → object_contains o v w ≡ Err TypeError
plain_contains (Some (pure.Items vs)) v w h = absurd h
plain_contains (Some (pure.Pairs ps)) v w h = absurd h
plain_contains _ v w h = refl

-- ---- keys

-- what shows as neither an integer nor a str is no key
pub no_key_shown : (m : Memory) (v : View) → ((n : _) → v ≢ view.Int n) → ((s : _) → v ≢ view.Str s) → false ≡ is_some (key_of (value_in m v))
no_key_shown m (view.Int n) f g = absurd (f n refl)
no_key_shown m (view.Str s) f g = absurd (g s refl)
no_key_shown m _ f g = refl

some_mapped : {A B : Type 0} (f : A → B) (o : Option A) → is_some (option_map f o) ≡ is_some o
some_mapped f None = refl
some_mapped f (Some x) = refl

-- a key is looked up
pub looked_up : (m : Memory) (k : Option pure.Key) (ps : List (pure.Key × pure.Value)) (o : Option Ref) (b : Bool) → is_some k ≡ true → option_map (value_of m) o ≡ value_by k ps → b ≡ is_some o → is_key k ps ≡ Ok b
looked_up m None ps o b h e f = cc
looked_up m (Some k) ps o b h e f = ap (λ p. Ok (is_some p)) (sym e) ∙ ap Ok (some_mapped (value_of m) o ∙ sym f)

-- ---- items, one by one

-- the item at a place that is there, and none past all
pub slice_there : (m : Memory) (rs : List Ref) (k : ℕ) (r : Ref) → k < length rs → r ≡ get_or rs k r → slice_get (all_of m rs) k ≡ Some (value_of m r)
slice_there m rs k r h e =
    let p : k < length (all_of m rs) = omega (arith, h, length-map rs (value_of m)) in
    slice_get-get_or (all_of m rs) k (value_of m r) p ∙ ap Some (get_or-map (value_of m) rs k r (value_of m r) h ∙ ap (value_of m) (sym e))

pub slice_over : {A : Type 0} (xs : List A) (k : ℕ) → length xs ≤ k → slice_get xs k ≡ None
slice_over [] k h = refl
slice_over (x ∷ xs) zero h = absurd (omega (arith, h))
slice_over (x ∷ xs) (suc k) h = slice_over xs k (omega (arith, h))

pub no_list_next : (x k : ℕ) (o : Option pure.Object) → ((vs : List pure.Value) → o ≢ Some (pure.Items vs)) → next_of_list x k o ≡ Exhausted
no_list_next x k (Some (pure.Items vs)) h = absurd (h vs refl)
no_list_next x k _ h = refl

pub plain_iterator : (x : ℕ) (o : Option pure.Object) → IsPlainObject o → iterator_at x o ≡ None
plain_iterator x (Some (pure.Items vs)) h = absurd h
plain_iterator x (Some (pure.Pairs ps)) h = absurd h
plain_iterator x _ h = refl

pub plain_dict_next : (x k n : ℕ) (o : Option pure.Object) → IsPlainObject o → next_of_dict x k n o ≡ Exhausted
plain_dict_next x k n (Some (pure.Items vs)) h = absurd h
plain_dict_next x k n (Some (pure.Pairs ps)) h = absurd h
plain_dict_next x k n _ h = refl

-- a dict that has as many keys as at first, and one that has not
pub keys_left : (x k n : ℕ) (ps : List (pure.Key × pure.Value)) → length ps ≡ n → next_of_dict x k n (Some (pure.Pairs ps)) ≡ item_or_end (slice_get (keys_in ps) k) (Keys x (k + 1) n)
keys_left x k n ps h = ap (λ b. cond b (item_or_end (slice_get (keys_in ps) k) (Keys x (k + 1) n)) (Refuses RuntimeError (codes "dictionary changed size"))) (eq-eqb (length ps) n h)

pub keys_changed : (x k n : ℕ) (ps : List (pure.Key × pure.Value)) → length ps ≢ n → next_of_dict x k n (Some (pure.Pairs ps)) ≡ Refuses RuntimeError (codes "dictionary changed size")
keys_changed x k n ps h = ap (λ b. cond b (item_or_end (slice_get (keys_in ps) k) (Keys x (k + 1) n)) (Refuses RuntimeError (codes "dictionary changed size"))) (ne_eqb (length ps) n h)

pub count_pairs : (m : Memory) (es : List (Atom × Pair)) → length (pairs_of m es) ≡ length es
count_pairs m es = length-map es (λ e. pair_of m e.1)

-- the key at a place that is there
pub key_at : (m : Memory) (ps : List (pure.Key × pure.Value)) (k : ℕ) (p : Pair) → slice_get ps k ≡ Some (pair_of m p) → IsKey (value_of m p.key) → slice_get (keys_in ps) k ≡ Some (value_of m p.key)
key_at m ps k p h is = slice_get-map (λ q. value_of_key q.0) ps k ∙ ap (option_map (λ q. value_of_key q.0)) h ∙ ap Some (key_back (value_of m p.key) is)

pub plain_length : (o : Option pure.Object) (w : World) → IsPlainObject o → length_of_object o w ≡ wrong_type w
plain_length (Some (pure.Items vs)) w h = absurd h
plain_length (Some (pure.Pairs ps)) w h = absurd h
plain_length _ w h = refl
