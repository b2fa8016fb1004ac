-- All items of what can be gone over, one by one.
use Rattle.std.proofs.Common.{cond, ne_eqb, Ok, Err, ◌≡◌, ◌≢◌, ℕ, zero, suc, ◌+◌, ◌<◌, List, [], ◌∷◌, ◌++◌, length, take, get_or, Option, Some, None, refl, sym, ap, subst, ◌∙◌, arith}
use Rattle.std.specs.Prelude.{slice_get, option_map, unwrap_or, ℤ, pos, ◌+ℤ◌, ◌*ℤ◌}
use Rattle.std.proofs.Math.IntN.{suc_ℤ-*ℤ, +ℤ_idr, zero-*ℤ, +ℤ_assoc, +ℤ_comm}
use Rattle.std.proofs.lemmas.List.{take_more, length-map}
use Rattle.std.proofs.lemmas.Option.{get_or_from_slice_get, slice_get_within}
use Rattle.si_semantics.specs.Value as pure
use Rattle.si_semantics.specs.World.{World}
use Rattle.si_semantics.specs.Value.{value_of_key}
use Rattle.si_semantics.specs.Dicts.{keys_in}
use Rattle.si_semantics.specs.Tuples.{characters_in, numbers_in, integers_in}
use Rattle.si_semantics.specs.Operations.{items_from, items_of_object, range_items, range_length, stepped}
use Rattle.si_arena.specs.declared.value.Ref.{Ref}
use Rattle.si_arena.specs.Memory.{Memory, value_of, all_of, AllLie, Lies}
use Rattle.std.proofs.lemmas.Bool.{eq-eqb}
use Rattle.si_plain.specs.declared.kind.Kind.TheVariants.{ValueError}
use Rattle.si_semantics.specs.Containers.{fit}
use Rattle.si_arena.specs.declared.cause.Cause.TheVariants.{Arithmetic, WrongType}
use Rattle.si_arena.specs.declared.view.View.{View}
use Rattle.si_arena.specs.declared.view.View.TheVariants as view
use Rattle.si_arena.specs.Views.{value_in}
use Rattle.si_ops.specs.Items.{world_of, gone_over, Unpacks}
use Rattle.si_ops.specs.inner.Held.{IsPlainObject}
use Rattle.si_ops.proofs.Gathered.{step_at}

-- the items in a world are those by its objects
pub items_same : (m : Memory) (v : pure.Value) (w : World) → w.store ≡ m.store → items_from v w ≡ items_from v (world_of m)
items_same m (pure.Address x) w e = ap (λ s. items_of_object (slice_get s x)) e
items_same m _ w e = refl

-- so many items
pub count_of : (o : Option (List pure.Value)) (n : ℕ) → Some n ≡ option_map length o → o ≡ Some (unwrap_or o [])
count_of (Some vs) n e = refl
count_of None n e = cc

pub counted : (o : Option (List pure.Value)) (n : ℕ) → Some n ≡ option_map length o → length (unwrap_or o []) ≡ n
counted (Some vs) n e = let same : n ≡ length vs = cc in sym same
counted None n e = cc

pub not_counted : (o : Option (List pure.Value)) → None ≡ option_map length o → o ≡ None
not_counted (Some vs) e = cc
not_counted None e = refl

-- ---- one more

next_value : (vs : List pure.Value) (i : ℕ) (v : pure.Value) → slice_get vs i ≡ Some v → take (i + 1) vs ≡ take i vs ++ v ∷ []
next_value vs i v h =
    let l = slice_get_within vs i v h in
    take_more vs i pure.Nothing l ∙ ap (λ u. take i vs ++ u ∷ []) (get_or_from_slice_get vs i v pure.Nothing h)

all_more : (m : Memory) (rs : List Ref) (r : Ref) → all_of m (rs ++ r ∷ []) ≡ all_of m rs ++ value_of m r ∷ []
all_more m [] r = refl
all_more m (q ∷ rs) r = ap (λ vs. value_of m q ∷ vs) (all_more m rs r)

pub collected_more : (m : Memory) (vs : List pure.Value) (rs qs : List Ref) (i : ℕ) (r : Ref) → all_of m rs ≡ take i vs → slice_get vs i ≡ Some (value_of m r) → qs ≡ rs ++ r ∷ [] → all_of m qs ≡ take (i + 1) vs
collected_more m vs rs qs i r h e k = ap (all_of m) k ∙ all_more m rs r ∙ ap (λ us. us ++ value_of m r ∷ []) h ∙ sym (next_value vs i (value_of m r) e)

lie_more : (m : Memory) (rs : List Ref) (r : Ref) → AllLie m rs → Lies m r → AllLie m (rs ++ r ∷ [])
lie_more m [] r h k = (k, tt)
lie_more m (q ∷ rs) r h k = (h.0, lie_more m rs r h.1 k)

pub collected_lie : (m : Memory) (rs qs : List Ref) (r : Ref) → AllLie m rs → Lies m r → qs ≡ rs ++ r ∷ [] → AllLie m qs
collected_lie m rs qs r h k e = subst (AllLie m) (sym e) (lie_more m rs r h k)

-- ---- the item at an index

pub character_there : (s : List ℕ) (i : ℕ) → i < length s → slice_get (characters_in s) i ≡ Some (pure.Str (get_or s i 0 ∷ []))
character_there [] i h = absurd (omega (arith, h))
character_there (c ∷ cs) zero h = refl
character_there (c ∷ cs) (suc i) h = character_there cs i (omega (arith, h))

pub number_there : (s : List ℕ) (i : ℕ) → i < length s → slice_get (numbers_in s) i ≡ Some (pure.Int (pos (get_or s i 0)))
number_there [] i h = absurd (omega (arith, h))
number_there (c ∷ cs) zero h = refl
number_there (c ∷ cs) (suc i) h = number_there cs i (omega (arith, h))

step_later : (a c : ℤ) (i : ℕ) → step_at (a +ℤ c) c i ≡ step_at a c (suc i)
step_later a c i = +ℤ_assoc a c (pos i *ℤ c) ∙ ap (λ z. a +ℤ z) (+ℤ_comm c (pos i *ℤ c) ∙ sym (suc_ℤ-*ℤ (pos i) c))

steps_there : (n i : ℕ) (a c : ℤ) → i < n → slice_get (integers_in (stepped n a c)) i ≡ Some (pure.Int (step_at a c i))
steps_there zero i a c h = absurd (omega (arith, h))
steps_there (suc n) zero a c h = ap (λ z. Some (pure.Int z)) (sym (ap (λ z. a +ℤ z) (zero-*ℤ c) ∙ +ℤ_idr a))
steps_there (suc n) (suc i) a c h = steps_there n i (a +ℤ c) c (omega (arith, h)) ∙ ap (λ z. Some (pure.Int z)) (step_later a c i)

pub integer_there : (a b c : ℤ) (i : ℕ) → i < range_length a b c → slice_get (integers_in (range_items a b c)) i ≡ Some (pure.Int (step_at a c i))
integer_there a b c i h = steps_there (range_length a b c) i a c h

-- so many of each
pub characters_count : (s : List ℕ) → length (characters_in s) ≡ length s
characters_count [] = refl
characters_count (c ∷ cs) = ap suc (characters_count cs)

pub numbers_count : (s : List ℕ) → length (numbers_in s) ≡ length s
numbers_count [] = refl
numbers_count (c ∷ cs) = ap suc (numbers_count cs)

steps_count : (n : ℕ) (a c : ℤ) → length (integers_in (stepped n a c)) ≡ n
steps_count zero a c = refl
steps_count (suc n) a c = ap suc (steps_count n (a +ℤ c) c)

pub integers_count : (a b c : ℤ) → length (integers_in (range_items a b c)) ≡ range_length a b c
integers_count a b c = steps_count (range_length a b c) a c

pub keys_count : (ps : List (pure.Key × pure.Value)) → length (keys_in ps) ≡ length ps
keys_count ps = length-map ps (λ q. value_of_key q.0)

pub plain_gives : (o : Option pure.Object) → IsPlainObject o → items_of_object o ≡ None
plain_gives (Some (pure.Items vs)) h = absurd h
plain_gives (Some (pure.Pairs ps)) h = absurd h
plain_gives _ h = refl

-- what shows as nothing that can be gone over gives nothing
pub none_shown : (m : Memory) (v : View) → ((s : _) → v ≢ view.Str s) → ((bs : _) → v ≢ view.Bytes bs) → ((r : _) → v ≢ view.Range r) → ((xs : _) → v ≢ view.Tuple xs) → ((x : _) → v ≢ view.Object x) → items_from (value_in m v) (world_of m) ≡ None
none_shown m (view.Str s) a b c d e = absurd (a s refl)
none_shown m (view.Bytes bs) a b c d e = absurd (b bs refl)
none_shown m (view.Range r) a b c d e = absurd (c r refl)
none_shown m (view.Tuple xs) a b c d e = absurd (d xs refl)
none_shown m (view.Object x) a b c d e = absurd (e x refl)
none_shown m _ a b c d e = refl

-- ---- for so many targets

module _ (n : ℕ) (m : Memory) (v : pure.Value) where
  pub unpacks_all : (k : ℕ) → Some k ≡ option_map length (items_from v (world_of m)) → k ≡ n → Unpacks n m v (Ok tt)
  unpacks_all k e h =
      let vs = gone_over m v in
      let long : length vs ≡ n = counted (items_from v (world_of m)) k e ∙ h in
      ((λ w f. ap (fit n) (items_same m v w f ∙ count_of (items_from v (world_of m)) k e) ∙ ap (λ b. cond b (Ok vs) (Err ValueError)) (eq-eqb (length vs) n long)), long)

  pub unpacks_apart : (k : ℕ) → Some k ≡ option_map length (items_from v (world_of m)) → k ≢ n → Unpacks n m v (Err (Arithmetic ValueError))
  unpacks_apart k e h =
      let vs = gone_over m v in
      let apart : length vs ≢ n = λ f. h (sym (counted (items_from v (world_of m)) k e) ∙ f) in
      ((λ w f. ap (fit n) (items_same m v w f ∙ count_of (items_from v (world_of m)) k e) ∙ ap (λ b. cond b (Ok vs) (Err ValueError)) (ne_eqb (length vs) n apart)), refl, tt)

  pub unpacks_none : None ≡ option_map length (items_from v (world_of m)) → Unpacks n m v (Err WrongType)
  unpacks_none e = ((λ w f. ap (fit n) (items_same m v w f ∙ not_counted (items_from v (world_of m)) e)), refl, tt)
