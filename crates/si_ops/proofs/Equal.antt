-- Values that are compared one by one.
use Rattle.std.proofs.Common.{◌≡◌, ◌≢◌, ℕ, zero, suc, ◌+◌, ◌-◌, ◌<◌, ◌≤◌, List, [], ◌∷◌, length, drop, get_or, Bool, true, false, cond, Option, Some, None, Result, Ok, refl, sym, ap, subst, ◌∙◌, arith, ne_eqb}
use Rattle.std.specs.Prelude.{slice_get}
use Rattle.std.proofs.lemmas.Bool.{eq-eqb}
use Rattle.std.proofs.Math.ListN.{drop_of_length-le}
use Rattle.si_plain.specs.declared.kind.Kind.{Kind}
use Rattle.si_semantics.specs.Value.{Value, Tuple, Address, Key, Object, Items, Pairs, tuple_of, values_of, items_of}
use Rattle.si_semantics.specs.World.{World}
use Rattle.si_semantics.specs.Dicts.{value_at}
use Rattle.si_semantics.specs.Operations.{Compared, equal_by, equal_objects, equal_within, each_equal, each_found, equal_found, and_then, are_equal, is_any_of}
use Rattle.si_arena.specs.declared.value.Ref.{Ref}
use Rattle.si_arena.specs.declared.view.View.{View}
use Rattle.si_arena.specs.declared.view.View.TheVariants as view
use Rattle.si_arena.specs.Views.{value_in}
use Rattle.si_arena.specs.declared.object.Object as code
use Rattle.si_arena.specs.declared.object.Object.TheVariants as objects
use Rattle.si_arena.specs.Memory.{Memory, value_of, all_of, object_of}
use Rattle.si_ops.specs.declared.refusal.Refusal.{Refusal}
use Rattle.si_ops.specs.declared.refusal.Refusal.TheVariants.{WrongType, TooDeep, WrongValue}
use Rattle.si_ops.specs.Runs.{kind_refused}
use Rattle.si_ops.specs.inner.Equal.{compared_at, AreBare}
use Rattle.si_ops.specs.inner.Held.{IsPlainObject}
use Rattle.si_ops.proofs.Providing.{values_after}
use Rattle.si_ops.proofs.Tupled.{items_back}

-- ---- by how parts are compared

-- one equation for both cases of the levels
equal_split : (n : ℕ) (u v : Value) (w : World) → equal_within n u v w ≡ equal_by (compared_at n w) u v w
equal_split zero u v w = refl
equal_split (suc n) u v w = refl

module _ (n : ℕ) (u v : Value) (w : World) (r : Result Bool Kind) where
  -- two tuples
  pub shown_tuples : (us vs : List Value) → tuple_of us ≡ u → tuple_of vs ≡ v → (compared_at n w).items us vs ≡ r → equal_within n u v w ≡ r
  shown_tuples us vs e f h =
      equal_split n u v w
      ∙ ap (λ x. equal_by (compared_at n w) x v w) (sym e)
      ∙ ap (λ x. equal_by (compared_at n w) (tuple_of us) x w) (sym f)
      ∙ ap (λ xs. (compared_at n w).items xs (items_of (values_of vs))) (items_back us)
      ∙ ap (λ xs. (compared_at n w).items us xs) (items_back vs)
      ∙ h

  -- two objects
  pub shown_objects : (a b : ℕ) → Address a ≡ u → Address b ≡ v → equal_by (compared_at n w) (Address a) (Address b) w ≡ r → equal_within n u v w ≡ r
  shown_objects a b e f h =
      equal_split n u v w ∙ ap (λ x. equal_by (compared_at n w) x v w) (sym e) ∙ ap (λ x. equal_by (compared_at n w) (Address a) x w) (sym f) ∙ h

  -- neither
  pub shown_bare : (m : Memory) (a b : View) → value_in m a ≡ u → value_in m b ≡ v → equal_by (compared_at n w) (value_in m a) (value_in m b) w ≡ r → equal_within n u v w ≡ r
  shown_bare m a b e f h =
      equal_split n u v w ∙ ap (λ x. equal_by (compared_at n w) x v w) (sym e) ∙ ap (λ x. equal_by (compared_at n w) (value_in m a) x w) (sym f) ∙ h

pub tuple_bare : (a b : View) (xs : _) → a ≡ view.Tuple xs → ((items : _) → b ≢ view.Tuple items) → AreBare a b
tuple_bare a b xs e h = subst (λ v. AreBare v b) (sym e) (by b h)
  where
    by : (b : View) → ((items : _) → b ≢ view.Tuple items) → AreBare (view.Tuple xs) b
    by (view.Tuple ys) h = absurd (h ys refl)
    by _ h = tt

pub object_bare : (a b : View) (x : ℕ) → a ≡ view.Object x → ((y : ℕ) → b ≢ view.Object y) → AreBare a b
object_bare a b x e h = subst (λ v. AreBare v b) (sym e) (by b h)
  where
    by : (b : View) → ((y : ℕ) → b ≢ view.Object y) → AreBare (view.Object x) b
    by (view.Object y) h = absurd (h y refl)
    by _ h = tt

pub other_bare : (a b : View) → ((items : _) → a ≢ view.Tuple items) → ((x : ℕ) → a ≢ view.Object x) → AreBare a b
other_bare (view.Tuple xs) b g h = absurd (g xs refl)
other_bare (view.Object x) b g h = absurd (h x refl)
other_bare _ b g h = tt

-- ---- objects

-- at one address
pub one_object : (parts : Compared) (a b : ℕ) (w : World) → a ≡ b → equal_by parts (Address a) (Address b) w ≡ Ok true
one_object parts a b w e = ap (λ t. cond t (Ok true) (equal_objects parts (slice_get w.store a) (slice_get w.store b))) (eq-eqb a b e)

-- at two addresses
pub two_objects : (parts : Compared) (a b : ℕ) (w : World) (store : List Object) (o p : Option Object) → a ≢ b → w.store ≡ store → slice_get store a ≡ o → slice_get store b ≡ p → equal_by parts (Address a) (Address b) w ≡ equal_objects parts o p
two_objects parts a b w store o p h s e f =
    ap (λ t. cond t (Ok true) (equal_objects parts (slice_get w.store a) (slice_get w.store b))) (ne_eqb a b h)
    ∙ ap (λ x. equal_objects parts (slice_get x a) (slice_get x b)) s
    ∙ ap (λ x. equal_objects parts x (slice_get store b)) e
    ∙ ap (λ x. equal_objects parts o x) f

-- a list and what is none, a dict and what is none, and what is neither
pub list_and_other : (parts : Compared) (us : List Value) (o : Option Object) → ((vs : List Value) → o ≢ Some (Items vs)) → equal_objects parts (Some (Items us)) o ≡ Ok false
list_and_other parts us (Some (Items vs)) h = absurd (h vs refl)
list_and_other parts us _ h = refl

pub dict_and_plain : (parts : Compared) (ps : List (Key × Value)) (o : Option Object) → IsPlainObject o → equal_objects parts (Some (Pairs ps)) o ≡ Ok false
dict_and_plain parts ps (Some (Items vs)) h = absurd h
dict_and_plain parts ps (Some (Pairs qs)) h = absurd h
dict_and_plain parts ps _ h = refl

pub plain_and_other : (parts : Compared) (o p : Option Object) → IsPlainObject o → equal_objects parts o p ≡ Ok false
plain_and_other parts (Some (Items vs)) p h = absurd h
plain_and_other parts (Some (Pairs qs)) p h = absurd h
plain_and_other parts _ p h = refl

-- an exception or a thread is neither
pub plain_object : (m : Memory) (o : code.Object) → IsPlainObject (Some (object_of m o))
plain_object m (objects.Bare k) = tt
plain_object m (objects.Made k r) = tt
plain_object m (objects.Caused c) = tt
plain_object m (objects.Thread i r) = tt
plain_object m (objects.Started r) = tt

-- ---- items

-- items of so many values each: of different lengths
pub lengths_apart : (n : ℕ) (us vs : List Value) (w : World) → 0 < n → length us ≢ length vs → (compared_at n w).items us vs ≡ Ok false
lengths_apart zero us vs w l h = absurd (omega (arith, l))
lengths_apart (suc n) us vs w l h = ap (λ b. cond b (each_equal (λ a b. equal_within n a b w) us vs) (Ok false)) (ne_eqb (length us) (length vs) h)

-- of one length
pub lengths_same : (n : ℕ) (us vs : List Value) (w : World) → 0 < n → length us ≡ length vs → (compared_at n w).items us vs ≡ each_equal (λ a b. equal_within (n - 1) a b w) us vs
lengths_same zero us vs w l h = absurd (omega (arith, l))
lengths_same (suc n) us vs w l h =
    let e : n ≡ suc n - 1 = omega arith in
    ap (λ b. cond b (each_equal (λ a b. equal_within n a b w) us vs) (Ok false)) (eq-eqb (length us) (length vs) h)
    ∙ ap (λ k. each_equal (λ a b. equal_within k a b w) us vs) e

module _ (E : Value → Value → Result Bool Kind) (m : Memory) (xs ys : List Ref) (i : ℕ) (x y : Ref) (h : i < length xs) (k : i < length ys) (e : x ≡ get_or xs i x) (f : y ≡ get_or ys i y) where
  each_from : each_equal E (all_of m (drop i xs)) (all_of m (drop i ys)) ≡ each_equal E (value_of m x ∷ all_of m (drop (i + 1) xs)) (value_of m y ∷ all_of m (drop (i + 1) ys))
  each_from =
      ap (λ vs. each_equal E vs (all_of m (drop i ys))) (values_after m xs i x h e)
      ∙ ap (λ vs. each_equal E (value_of m x ∷ all_of m (drop (i + 1) xs)) vs) (values_after m ys i y k f)

  -- one more that is equal
  pub each_next : E (value_of m x) (value_of m y) ≡ Ok true → each_equal E (all_of m (drop (i + 1) xs)) (all_of m (drop (i + 1) ys)) ≡ each_equal E (all_of m (drop i xs)) (all_of m (drop i ys))
  each_next g = sym (each_from ∙ (rw g refl))

  -- one that is not, or has no answer
  pub each_other : E (value_of m x) (value_of m y) ≡ Ok false → each_equal E (all_of m (drop i xs)) (all_of m (drop i ys)) ≡ Ok false
  each_other g = each_from ∙ (rw g refl)

  pub each_refused : (r : Refusal) → E (value_of m x) (value_of m y) ≡ kind_refused r → each_equal E (all_of m (drop i xs)) (all_of m (drop i ys)) ≡ kind_refused r
  each_refused WrongType g = each_from ∙ (rw g refl)
  each_refused TooDeep g = each_from ∙ (rw g refl)
  each_refused WrongValue g = each_from ∙ (rw g refl)

pub each_end : (E : Value → Value → Result Bool Kind) (m : Memory) (xs ys : List Ref) (i : ℕ) → length xs ≤ i → length ys ≤ i → each_equal E (all_of m (drop i xs)) (all_of m (drop i ys)) ≡ Ok true
each_end E m xs ys i h k =
    ap (λ rs. each_equal E (all_of m rs) (all_of m (drop i ys))) (drop_of_length-le xs h) ∙ ap (λ rs. each_equal E [] (all_of m rs)) (drop_of_length-le ys k)

-- ---- pairs

pub keys_apart : (n : ℕ) (ps qs : List (Key × Value)) (w : World) → 0 < n → length ps ≢ length qs → (compared_at n w).pairs ps qs ≡ Ok false
keys_apart zero ps qs w l h = absurd (omega (arith, l))
keys_apart (suc n) ps qs w l h = ap (λ b. cond b (each_found (λ a b. equal_within n a b w) ps qs) (Ok false)) (ne_eqb (length ps) (length qs) h)

pub keys_same : (n : ℕ) (ps qs : List (Key × Value)) (w : World) → 0 < n → length ps ≡ length qs → (compared_at n w).pairs ps qs ≡ each_found (λ a b. equal_within (n - 1) a b w) ps qs
keys_same zero ps qs w l h = absurd (omega (arith, l))
keys_same (suc n) ps qs w l h =
    let e : n ≡ suc n - 1 = omega arith in
    ap (λ b. cond b (each_found (λ a b. equal_within n a b w) ps qs) (Ok false)) (eq-eqb (length ps) (length qs) h)
    ∙ ap (λ k. each_found (λ a b. equal_within k a b w) ps qs) e

found_from : (E : Value → Value → Result Bool Kind) (ps qs : List (Key × Value)) (i : ℕ) (p : Key × Value) → slice_get ps i ≡ Some p → each_found E (drop i ps) qs ≡ and_then (equal_found E p.1 (value_at p.0 qs)) (each_found E (drop (i + 1) ps) qs)
found_from E [] qs i p e = absurd (cc)
found_from E (q ∷ ps) qs zero p e = let same : q ≡ p = cc in ap (λ z. and_then (equal_found E z.1 (value_at z.0 qs)) (each_found E ps qs)) same
found_from E (q ∷ ps) qs (suc i) p e =
    let next : suc (i + 1) ≡ suc i + 1 = omega arith in
    found_from E ps qs i p e ∙ ap (λ k. and_then (equal_found E p.1 (value_at p.0 qs)) (each_found E (drop k (q ∷ ps)) qs)) next

module _ (E : Value → Value → Result Bool Kind) (ps qs : List (Key × Value)) (i : ℕ) (p : Key × Value) (e : slice_get ps i ≡ Some p) where
  -- the key is not there
  pub found_none : value_at p.0 qs ≡ None → each_found E (drop i ps) qs ≡ Ok false
  found_none f = found_from E ps qs i p e ∙ ap (λ o. and_then (equal_found E p.1 o) (each_found E (drop (i + 1) ps) qs)) f

  module _ (v : Value) (f : value_at p.0 qs ≡ Some v) where
    found_at : each_found E (drop i ps) qs ≡ and_then (E p.1 v) (each_found E (drop (i + 1) ps) qs)
    found_at = found_from E ps qs i p e ∙ ap (λ o. and_then (equal_found E p.1 o) (each_found E (drop (i + 1) ps) qs)) f

    -- one more that is equal
    pub found_next : E p.1 v ≡ Ok true → each_found E (drop (i + 1) ps) qs ≡ each_found E (drop i ps) qs
    found_next g = sym (found_at ∙ (rw g refl))

    pub found_other : E p.1 v ≡ Ok false → each_found E (drop i ps) qs ≡ Ok false
    found_other g = found_at ∙ (rw g refl)

    pub found_refused : (r : Refusal) → E p.1 v ≡ kind_refused r → each_found E (drop i ps) qs ≡ kind_refused r
    found_refused WrongType g = found_at ∙ (rw g refl)
    found_refused TooDeep g = found_at ∙ (rw g refl)
    found_refused WrongValue g = found_at ∙ (rw g refl)

pub found_end : (E : Value → Value → Result Bool Kind) (ps qs : List (Key × Value)) (i : ℕ) → length ps ≤ i → each_found E (drop i ps) qs ≡ Ok true
found_end E ps qs i h = ap (λ rs. each_found E rs qs) (drop_of_length-le ps h)

-- ---- one of many

module _ (m : Memory) (xs : List Ref) (v : Value) (i : ℕ) (x : Ref) (w : World) (h : i < length xs) (e : x ≡ get_or xs i x) where
  any_from : is_any_of (all_of m (drop i xs)) v w ≡ is_any_of (value_of m x ∷ all_of m (drop (i + 1) xs)) v w
  any_from = ap (λ us. is_any_of us v w) (values_after m xs i x h e)

  pub any_next : are_equal v (value_of m x) w ≡ Ok false → is_any_of (all_of m (drop (i + 1) xs)) v w ≡ is_any_of (all_of m (drop i xs)) v w
  any_next g = sym (any_from ∙ (rw g refl))

  pub any_found : are_equal v (value_of m x) w ≡ Ok true → is_any_of (all_of m (drop i xs)) v w ≡ Ok true
  any_found g = any_from ∙ (rw g refl)

  pub any_refused : (r : Refusal) → are_equal v (value_of m x) w ≡ kind_refused r → is_any_of (all_of m (drop i xs)) v w ≡ kind_refused r
  any_refused WrongType g = any_from ∙ (rw g refl)
  any_refused TooDeep g = any_from ∙ (rw g refl)
  any_refused WrongValue g = any_from ∙ (rw g refl)

pub any_end : (m : Memory) (xs : List Ref) (v : Value) (i : ℕ) (w : World) → length xs ≤ i → is_any_of (all_of m (drop i xs)) v w ≡ Ok false
any_end m xs v i w h = ap (λ rs. is_any_of (all_of m rs) v w) (drop_of_length-le xs h)
