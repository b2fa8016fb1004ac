-- Values that are gathered one by one, for a tuple or from one.
use Rattle.std.proofs.Common.{◌≡◌, ◌≢◌, ℕ, zero, suc, ◌+◌, ◌-◌, ◌<◌, ◌≤◌, ℤ, pos, ◌+ℤ◌, List, [], ◌∷◌, ◌++◌, length, drop, get_or, replicate, Bool, true, false, Option, Some, None, Result, Ok, Err, refl, sym, ap, ◌∙◌, arith, append_assoc, append-nil, add-one}
use Rattle.std.specs.Prelude.{◌*ℤ◌, ◌||◌, option_map, slice_get, IfOk}
use Rattle.std.proofs.Math.IntN.{suc_ℤ-*ℤ, +ℤ_idr, zero-*ℤ, +ℤ_assoc}
use Rattle.std.proofs.lemmas.List.{map-append}
use Rattle.std.proofs.Math.ListN.{drop_of_length-le}
use Rattle.si_plain.specs.declared.kind.Kind.{Kind}
use Rattle.si_semantics.specs.Value as pure
use Rattle.si_semantics.specs.Value.{Value, Truth, Int, Str, tuple_of}
use Rattle.si_semantics.specs.World.{World}
use Rattle.si_semantics.specs.Tuples.{characters_in, numbers_in, integers_in, copies}
use Rattle.si_semantics.specs.Operations.{stepped, range_items, range_length, bytes_in, byte_meant, more_bytes, integer_in, is_of, is_of_one, catches, tested, gave}
use Rattle.si_arena.specs.declared.value.Ref.{Ref}
use Rattle.si_arena.specs.declared.view.View.{View}
use Rattle.si_arena.specs.declared.view.View.TheVariants as view
use Rattle.si_arena.specs.Views.{value_in}
use Rattle.si_arena.specs.Memory.{Memory, value_of, all_of, Lies, AllLie}
use Rattle.si_ops.proofs.Compared.{after}
use Rattle.si_ops.proofs.Providing.{values_after}
use Rattle.si_ops.proofs.MadeBytes.{one_left}
use Rattle.si_ops.proofs.Tupled.{items_back}

-- ---- what was gathered lies in an arena

pub ok_to : {A E : Type 0} (r : Result A E) (P Q : A → Type 0) → ((x : A) → P x → Q x) → IfOk r P → IfOk r Q
ok_to (Ok x) P Q f h = f x h
ok_to (Err e) P Q f h = h

pub lie_joined : (m : Memory) (xs ys : List Ref) → AllLie m xs → AllLie m ys → AllLie m (xs ++ ys)
lie_joined m [] ys h k = k
lie_joined m (x ∷ xs) ys h k = (h.0, lie_joined m xs ys h.1 k)

-- one value so many times lies where it does, and denotes what it does so many times
pub lie_filled : (m : Memory) (r : Ref) (n : ℕ) → Lies m r → AllLie m (replicate n r)
lie_filled m r zero h = tt
lie_filled m r (suc n) h = (h, lie_filled m r n h)

pub all_filled : (m : Memory) (r : Ref) (n : ℕ) → all_of m (replicate n r) ≡ copies n (value_of m r ∷ [])
all_filled m r zero = refl
all_filled m r (suc n) = ap (λ vs. value_of m r ∷ vs) (all_filled m r n)

pub all_joined : (m : Memory) (xs ys : List Ref) → all_of m (xs ++ ys) ≡ all_of m xs ++ all_of m ys
all_joined m xs ys = map-append (value_of m) xs ys

-- one more, which is the next of those that are left
pub one_more : (m : Memory) (xs more : List Ref) (r : Ref) (v : Value) (rest whole : List Value) → more ≡ xs ++ r ∷ [] → value_of m r ≡ v → all_of m xs ++ v ∷ rest ≡ whole → all_of m more ++ rest ≡ whole
one_more m xs more r v rest whole e f h =
    ap (λ rs. all_of m rs ++ rest) e
    ∙ ap (λ vs. vs ++ rest) (all_joined m xs (r ∷ []) ∙ ap (λ u. all_of m xs ++ u ∷ []) f)
    ∙ append_assoc (all_of m xs) (v ∷ []) rest
    ∙ h

-- ---- characters, bytes and integers

pub characters_left : (s : List ℕ) (i : ℕ) → i < length s → characters_in (drop i s) ≡ Str (get_or s i 0 ∷ []) ∷ characters_in (drop (i + 1) s)
characters_left s i h = ap characters_in (after s i h)

pub numbers_left : (s : List ℕ) (i : ℕ) → i < length s → numbers_in (drop i s) ≡ Int (pos (get_or s i 0)) ∷ numbers_in (drop (i + 1) s)
numbers_left s i h = ap numbers_in (after s i h)

pub no_characters : (s : List ℕ) (i : ℕ) → length s ≤ i → characters_in (drop i s) ≡ []
no_characters s i h = ap characters_in (drop_of_length-le s h)

pub no_numbers : (s : List ℕ) (i : ℕ) → length s ≤ i → numbers_in (drop i s) ≡ []
no_numbers s i h = ap numbers_in (drop_of_length-le s h)

-- the integer so many steps from another, and the next one
abbrev pub step_at : (a c : ℤ) → ℕ → ℤ
step_at a c i = a +ℤ pos i *ℤ c

step_next : (a c : ℤ) (i : ℕ) → step_at a c i +ℤ c ≡ step_at a c (i + 1)
step_next a c i =
    let e : pos (i + 1) *ℤ c ≡ pos i *ℤ c +ℤ c = ap (λ n. pos n *ℤ c) (add-one i) ∙ suc_ℤ-*ℤ (pos i) c in
    +ℤ_assoc a (pos i *ℤ c) c ∙ ap (λ z. a +ℤ z) (sym e)

-- the integers of a range from one on
abbrev pub left_of : (a b c : ℤ) → ℕ → List Value
left_of a b c i = integers_in (stepped (range_length a b c - i) (step_at a c i) c)

pub integers_left : (a b c : ℤ) (i : ℕ) → i < range_length a b c → left_of a b c i ≡ Int (step_at a c i) ∷ left_of a b c (i + 1)
integers_left a b c i h =
    let n = range_length a b c - i in
    let some : 0 < n = omega (arith, h) in
    let fewer : n - 1 ≡ range_length a b c - (i + 1) = omega arith in
    ap integers_in (one_left n (step_at a c i) c some)
    ∙ ap (λ z. Int (step_at a c i) ∷ integers_in (stepped (n - 1) z c)) (step_next a c i)
    ∙ ap (λ k. Int (step_at a c i) ∷ integers_in (stepped k (step_at a c (i + 1)) c)) fewer

pub integers_all : (a b c : ℤ) → left_of a b c 0 ≡ integers_in (range_items a b c)
integers_all a b c =
    let all : range_length a b c - 0 ≡ range_length a b c = omega arith in
    ap (λ z. integers_in (stepped (range_length a b c - 0) z c)) (ap (λ z. a +ℤ z) (zero-*ℤ c) ∙ +ℤ_idr a) ∙ ap (λ n. integers_in (stepped n a c)) all

pub integers_none : (a b c : ℤ) (i : ℕ) → range_length a b c ≤ i → left_of a b c i ≡ []
integers_none a b c i h =
    let over : range_length a b c - i ≡ 0 = omega (arith, h) in
    ap (λ n. integers_in (stepped n (step_at a c i) c)) over

-- ---- copies

copies_after : (n : ℕ) (vs : List Value) → copies n vs ++ vs ≡ vs ++ copies n vs
copies_after zero vs = sym (append-nil vs)
copies_after (suc n) vs = append_assoc vs (copies n vs) vs ∙ ap (λ us. vs ++ us) (copies_after n vs)

pub copy_more : (m : Memory) (items all more : List Ref) (i : ℕ) → more ≡ all ++ items → all_of m all ≡ copies i (all_of m items) → all_of m more ≡ copies (i + 1) (all_of m items)
copy_more m items all more i e h =
    let next : suc i ≡ i + 1 = omega arith in
    ap (all_of m) e ∙ all_joined m all items ∙ ap (λ vs. vs ++ all_of m items) h ∙ copies_after i (all_of m items) ∙ ap (λ n. copies n (all_of m items)) next

pub copies_empty : (n : ℕ) → copies n [] ≡ []
copies_empty zero = refl
copies_empty (suc n) = copies_empty n

-- ---- bytes that values are

some_more : (b : ℕ) (bs : List ℕ) (o : Option (List ℕ)) → option_map (λ (more : List ℕ). bs ++ more) (more_bytes (Some b) o) ≡ option_map (λ (more : List ℕ). (bs ++ b ∷ []) ++ more) o
some_more b bs None = refl
some_more b bs (Some more) = ap Some (sym (append_assoc bs (b ∷ []) more))

module _ (m : Memory) (rs : List Ref) (i : ℕ) (r : Ref) (bs : List ℕ) (whole : Option (List ℕ)) (h : i < length rs) (e : r ≡ get_or rs i r) (k : option_map (λ (more : List ℕ). bs ++ more) (bytes_in (all_of m (drop i rs))) ≡ whole) where
  byte_from : option_map (λ (more : List ℕ). bs ++ more) (more_bytes (byte_meant (integer_in (value_of m r))) (bytes_in (all_of m (drop (i + 1) rs)))) ≡ whole
  byte_from = ap (λ vs. option_map (λ (more : List ℕ). bs ++ more) (bytes_in vs)) (sym (values_after m rs i r h e)) ∙ k

  pub byte_next : (b : ℕ) (more : List ℕ) → byte_meant (integer_in (value_of m r)) ≡ Some b → more ≡ bs ++ b ∷ [] → option_map (λ (xs : List ℕ). more ++ xs) (bytes_in (all_of m (drop (i + 1) rs))) ≡ whole
  byte_next b more f g =
      let rest = bytes_in (all_of m (drop (i + 1) rs)) in
      ap (λ (ys : List ℕ). option_map (λ (xs : List ℕ). ys ++ xs) rest) g
      ∙ sym (some_more b bs rest)
      ∙ ap (λ o. option_map (λ (xs : List ℕ). bs ++ xs) (more_bytes o rest)) (sym f)
      ∙ byte_from

  pub byte_none : byte_meant (integer_in (value_of m r)) ≡ None → whole ≡ None
  byte_none f =
      sym byte_from ∙ ap (λ o. option_map (λ (xs : List ℕ). bs ++ xs) (more_bytes o (bytes_in (all_of m (drop (i + 1) rs))))) f

pub bytes_first : (o : Option (List ℕ)) (bs : List ℕ) → bs ≡ [] → option_map (λ (more : List ℕ). bs ++ more) o ≡ o
bytes_first None bs e = refl
bytes_first (Some xs) bs e = ap (λ ys. Some (ys ++ xs)) e

pub bytes_end : (m : Memory) (rs : List Ref) (i : ℕ) (bs : List ℕ) (whole : Option (List ℕ)) → length rs ≤ i → option_map (λ (more : List ℕ). bs ++ more) (bytes_in (all_of m (drop i rs))) ≡ whole → whole ≡ Some bs
bytes_end m rs i bs whole h k =
    sym k ∙ ap (λ xs. option_map (λ (more : List ℕ). bs ++ more) (bytes_in (all_of m xs))) (drop_of_length-le rs h) ∙ ap Some (append-nil bs)

-- ---- kinds

or_assoc : (a b c : Bool) → (a || (b || c)) ≡ ((a || b) || c)
or_assoc true b c = refl
or_assoc false b c = refl

one_of_more : (a t : Bool) (o : Option Bool) → option_map (λ b. a || b) (option_map (λ b. t || b) o) ≡ option_map (λ b. (a || t) || b) o
one_of_more a t None = refl
one_of_more a t (Some b) = ap Some (or_assoc a t b)

module _ (m : Memory) (rs : List Ref) (i : ℕ) (r : Ref) (a : Bool) (o : pure.Object) (whole : Option Bool) (h : i < length rs) (e : r ≡ get_or rs i r) (k : option_map (λ b. a || b) (is_of_one (all_of m (drop i rs)) (Some o)) ≡ whole) where
  kind_from : option_map (λ b. a || b) (is_of_one (value_of m r ∷ all_of m (drop (i + 1) rs)) (Some o)) ≡ whole
  kind_from = ap (λ vs. option_map (λ b. a || b) (is_of_one vs (Some o))) (sym (values_after m rs i r h e)) ∙ k

  pub kind_next : (top : Kind) → pure.Class top ≡ value_of m r → option_map (λ b. (a || is_of top (Some o)) || b) (is_of_one (all_of m (drop (i + 1) rs)) (Some o)) ≡ whole
  kind_next top f =
      sym (one_of_more a (is_of top (Some o)) (is_of_one (all_of m (drop (i + 1) rs)) (Some o)))
      ∙ ap (λ v. option_map (λ b. a || b) (is_of_one (v ∷ all_of m (drop (i + 1) rs)) (Some o))) f
      ∙ kind_from

  pub kind_none : ((top : Kind) → value_of m r ≢ pure.Class top) → whole ≡ None
  kind_none f = sym kind_from ∙ ap (option_map (λ b. a || b)) (none_by (value_of m r) f)
    where
      none_by : (v : Value) → ((top : Kind) → v ≢ pure.Class top) → is_of_one (v ∷ all_of m (drop (i + 1) rs)) (Some o) ≡ None
      none_by (pure.Class top) g = absurd (g top refl)
      none_by _ g = refl

-- what shows as no kind is none
pub no_class : (m : Memory) (v : View) (u : Value) → value_in m v ≡ u → ((k : Kind) → v ≢ view.Kind k) → (top : Kind) → u ≢ pure.Class top
no_class m (view.Kind k) u e h top f = h k refl
no_class m _ u e h top f = cc

pub kinds_first : (o : Option Bool) → option_map (λ b. false || b) o ≡ o
kinds_first None = refl
kinds_first (Some b) = refl

pub kinds_end : (m : Memory) (rs : List Ref) (i : ℕ) (a : Bool) (o : pure.Object) (whole : Option Bool) → length rs ≤ i → option_map (λ b. a || b) (is_of_one (all_of m (drop i rs)) (Some o)) ≡ whole → Some a ≡ whole
kinds_end m rs i a o whole h k =
    ap Some (sym (or_false a)) ∙ ap (λ xs. option_map (λ b. a || b) (is_of_one (all_of m xs) (Some o))) (sym (drop_of_length-le rs h)) ∙ k
  where
    or_false : (b : Bool) → (b || false) ≡ b
    or_false true = refl
    or_false false = refl

-- what a tuple of kinds catches
pub caught : (m : Memory) (u : Value) (rs : List Ref) (address : ℕ) (o : pure.Object) (r : Option Bool) (w : World) → tuple_of (all_of m rs) ≡ u → slice_get m.store address ≡ Some o → r ≡ is_of_one (all_of m rs) (Some o) → w.store ≡ m.store → catches u address w ≡ tested r w
caught m u rs address o r w e f h k =
    ap (λ v. catches v address w) (sym e)
    ∙ ap (λ vs. tested (is_of_one vs (slice_get w.store address)) w) (items_back (all_of m rs))
    ∙ ap (λ s. tested (is_of_one (all_of m rs) (slice_get s address)) w) k
    ∙ ap (λ p. tested (is_of_one (all_of m rs) p) w) f
    ∙ ap (λ p. tested p w) (sym h)

-- what one kind catches
pub caught_by : (m : Memory) (u : Value) (top : Kind) (address : ℕ) (o : pure.Object) (b : Bool) (w : World) → pure.Class top ≡ u → slice_get m.store address ≡ Some o → b ≡ is_of top (Some o) → w.store ≡ m.store → catches u address w ≡ gave (Truth b) w
caught_by m u top address o b w e f h k =
    ap (λ v. catches v address w) (sym e)
    ∙ ap (λ s. gave (Truth (is_of top (slice_get s address))) w) k
    ∙ ap (λ p. gave (Truth (is_of top p)) w) f
    ∙ ap (λ p. gave (Truth p) w) (sym h)
