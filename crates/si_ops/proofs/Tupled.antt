-- Tuples: their items, how large they are, and operations that place them.
use Rattle.std.proofs.Common.{◌≡◌, ℕ, zero, suc, ◌+◌, ◌-◌, ◌*◌, ◌<◌, ◌≤◌, max, ℤ, ◌+ℤ◌, List, [], ◌∷◌, ◌++◌, length, drop, get_or, Bool, true, false, cond, Some, Result, Ok, Err, refl, sym, ap, ◌∙◌, arith, append-nil, zero-mul, suc-mul, add-one, drop-cons}
use Rattle.std.specs.Prelude.{nat_lt, nat_eq, not, ◌||◌}
use Rattle.std.proofs.lemmas.Bool.Decides.{nat_tests}
use Rattle.std.proofs.lemmas.List.{get_or-map, length-map}
use Rattle.si_semantics.specs.Value as pure
use Rattle.si_semantics.specs.Value.{Value, Values, NoValues, MoreValues, Tuple, values_of, items_of, tuple_of}
use Rattle.si_semantics.specs.World.{World, Ran}
use Rattle.si_semantics.specs.Tuples.{count_of, counts_of, levels_of, deepest_of, is_too_large, characters_in, numbers_in, integers_in, copies}
use Rattle.std.proofs.lemmas.Option.{slice_get-get_or}
use Rattle.si_semantics.specs.Subscription.{item, item_of}
use Rattle.si_semantics.specs.Operations.{gave, stepped, too_long, is_true, tuple_within}
use Rattle.si_arena.specs.declared.value.Ref.{Ref}
use Rattle.si_arena.specs.declared.cause.Fault.{Fault}
use Rattle.si_arena.specs.declared.cause.Fault.TheVariants.{Raises, NoMemory}
use Rattle.si_arena.specs.Memory.{Memory, value_of, all_of, PlacesTuple}
use Rattle.si_arena.proofs.Sizes.{many_values, small_enough}
use Rattle.si_ops.specs.Runs.{Runs}
use Rattle.si_ops.specs.Operands.{members_of, IsTold}
use Rattle.si_ops.proofs.Running.{throws_long}

no_truth : true ≡ false → ⊥
no_truth h = cc

-- ---- items

-- the items of a tuple of values are these
pub items_back : (vs : List Value) → items_of (values_of vs) ≡ vs
items_back [] = refl
items_back (v ∷ vs) = ap (λ xs. v ∷ xs) (items_back vs)

pub values_back : (vs : Values) → values_of (items_of vs) ≡ vs
values_back NoValues = refl
values_back (MoreValues v vs) = ap (MoreValues v) (values_back vs)

-- a tuple is that of its items
pub tuple_back : (v : Value) (vs : List Value) → tuple_of vs ≡ v → v ≡ tuple_of (members_of v)
tuple_back v vs e = sym e ∙ ap tuple_of (sym (items_back vs)) ∙ ap (λ u. tuple_of (members_of u)) e

pub members_are : (v : Value) (vs : List Value) → tuple_of vs ≡ v → vs ≡ members_of v
members_are v vs e = sym (items_back vs) ∙ ap members_of e

pub items_length : (m : Memory) (rs : List Ref) → length (items_of (values_of (all_of m rs))) ≡ length rs
items_length m rs = ap length (items_back (all_of m rs)) ∙ length-map rs (value_of m)

-- the item at an index, and those after it
pub item_there : (m : Memory) (rs : List Ref) (vs : List Value) (i : ℕ) (r : Ref) → all_of m rs ≡ vs → i < length rs → r ≡ get_or rs i r → drop i vs ≡ value_of m r ∷ drop (i + 1) vs
item_there m rs vs i r e h f =
    let a = length-map rs (value_of m) in
    let p : i < length (all_of m rs) = omega (arith, a) in
    let there : value_of m r ≡ get_or (all_of m rs) i pure.Nothing = ap (value_of m) f ∙ sym (get_or-map (value_of m) rs i r pure.Nothing h) in
    ap (drop i) (sym e)
    ∙ drop-cons (all_of m rs) i pure.Nothing p
    ∙ ap (λ v. v ∷ drop (suc i) (all_of m rs)) (sym there)
    ∙ ap (λ k. value_of m r ∷ drop k (all_of m rs)) (sym (add-one i))
    ∙ ap (λ us. value_of m r ∷ drop (i + 1) us) e

-- the item of a tuple at a place that is there
pub member_there : (m : Memory) (rs : List Ref) (k : ℕ) (r : Ref) (w : World) → k < length rs → r ≡ get_or rs k r → item_of (all_of m rs) (Some k) w ≡ gave (value_of m r) w
member_there m rs k r w h e =
    let p : k < length (all_of m rs) = omega (arith, length-map rs (value_of m)) in
    ap (λ o. item o w) (slice_get-get_or (all_of m rs) k (value_of m r) p)
    ∙ ap (λ v. gave v w) (get_or-map (value_of m) rs k r (value_of m r) h ∙ ap (value_of m) (sym e))

empty_not : (n : ℕ) → nat_eq (suc n) 0 ≡ false
empty_not n = grind (arith, nat_tests)

-- a tuple that has items counts as true
pub full_true : (m : Memory) (rs : List Ref) (b : Bool) (w : World) → b ≡ nat_eq (length rs) 0 → not b ≡ is_true (tuple_of (all_of m rs)) w
full_true m [] b w e = ap not e
full_true m (r ∷ rs) b w e = ap not (e ∙ empty_not (length rs))

-- items of which there are none
pub no_items : (rs : List Ref) (b : Bool) → b ≡ nat_eq (length rs) 0 → b ≡ true → rs ≡ []
no_items [] b e h = refl
no_items (r ∷ rs) b e h = absurd (no_truth (sym h ∙ e ∙ empty_not (length rs)))

-- ---- how large

pub counts_joined : (us vs : List Value) → counts_of (values_of (us ++ vs)) ≡ counts_of (values_of us) + counts_of (values_of vs)
counts_joined [] vs = omega arith
counts_joined (u ∷ us) vs = omega (arith, counts_joined us vs)

pub deepest_joined : (us vs : List Value) → deepest_of (values_of (us ++ vs)) ≡ max (deepest_of (values_of us)) (deepest_of (values_of vs))
deepest_joined [] vs = omega arith
deepest_joined (u ∷ us) vs = omega (arith, deepest_joined us vs)

pub counts_copied : (n : ℕ) (vs : List Value) → counts_of (values_of (copies n vs)) ≡ n * counts_of (values_of vs)
counts_copied zero vs = sym (zero-mul (counts_of (values_of vs)))
counts_copied (suc n) vs =
    counts_joined vs (copies n vs) ∙ ap (λ k. counts_of (values_of vs) + k) (counts_copied n vs) ∙ omega (arith, suc-mul n (counts_of (values_of vs)))

pub deepest_copied : (n : ℕ) (vs : List Value) → 0 < n → deepest_of (values_of (copies n vs)) ≡ deepest_of (values_of vs)
deepest_copied zero vs h = absurd (omega (arith, h))
deepest_copied (suc zero) vs h = ap (λ us. deepest_of (values_of us)) (append-nil vs)
deepest_copied (suc (suc n)) vs h =
    let rest : deepest_of (values_of (copies (suc n) vs)) ≡ deepest_of (values_of vs) = deepest_copied (suc n) vs (omega arith) in
    omega (arith, deepest_joined vs (copies (suc n) vs), rest)

pub count_members : (v : Value) → count_of v ≡ 1 + counts_of (values_of (members_of v))
count_members (Tuple vs) = ap (λ us. 1 + counts_of us) (sym (values_back vs))
count_members _ = refl

pub levels_members : (v : Value) → max 1 (levels_of v) ≡ 1 + deepest_of (values_of (members_of v))
levels_members (Tuple vs) = let e : deepest_of (values_of (items_of vs)) ≡ deepest_of vs = ap deepest_of (values_back vs) in omega (arith, e)
levels_members _ = refl

-- past one of the limits, by numbers that are past them where these are
pub past_same : (v : Value) (values levels : ℕ) → values ≡ count_of v → max 1 levels ≡ levels_of v → is_too_large v ≡ (nat_lt 65536 values || nat_lt 200 levels)
past_same v values levels e f =
    ap (λ n. nat_lt 65536 n || nat_lt 200 (levels_of v)) (sym e) ∙ ap (λ b. nat_lt 65536 values || b) (ap (nat_lt 200) (sym f) ∙ at_least levels)
  where
    at_least : (n : ℕ) → nat_lt 200 (max 1 n) ≡ nat_lt 200 n
    at_least zero = refl
    at_least (suc n) = ap (nat_lt 200) (let e : max 1 (suc n) ≡ suc n = omega arith in e)

pub joined_past : (u v : Value) (values levels : ℕ) → values + 1 ≡ count_of u + count_of v → levels ≡ max (levels_of u) (levels_of v) → is_too_large (tuple_of (members_of u ++ members_of v)) ≡ (nat_lt 65536 values || nat_lt 200 levels)
joined_past u v values levels e f =
    let us = members_of u in
    let vs = members_of v in
    let many : values ≡ 1 + counts_of (values_of (us ++ vs)) = omega (arith, e, counts_joined us vs, count_members u, count_members v) in
    let deep : max 1 levels ≡ 1 + deepest_of (values_of (us ++ vs)) = omega (arith, f, deepest_joined us vs, levels_members u, levels_members v) in
    past_same (tuple_of (us ++ vs)) values levels many deep

pub copied_past : (v : Value) (n values levels : ℕ) → 0 < n → values ≡ count_of v → levels ≡ levels_of v → is_too_large (tuple_of (copies n (members_of v))) ≡ (nat_lt 65536 (1 + n * (values - 1)) || nat_lt 200 levels)
copied_past v n values levels h e f =
    let vs = members_of v in
    let fewer : counts_of (values_of vs) ≡ values - 1 = omega (arith, e, count_members v) in
    let many : 1 + n * (values - 1) ≡ 1 + counts_of (values_of (copies n vs)) = ap (λ k. 1 + k) (sym (counts_copied n vs ∙ ap (λ k. n * k) fewer)) in
    let deep : max 1 levels ≡ 1 + deepest_of (values_of (copies n vs)) = omega (arith, f, deepest_copied n vs h, levels_members v) in
    past_same (tuple_of (copies n vs)) (1 + n * (values - 1)) levels many deep

pub empty_small : is_too_large (tuple_of []) ≡ true → ⊥
empty_small h = cc

-- ---- items that are no tuples

pub atoms_large : (vs : List Value) (n : ℕ) → counts_of (values_of vs) ≡ n → 65536 ≤ n → is_too_large (tuple_of vs) ≡ true
atoms_large vs n e h = many_values (tuple_of vs) (omega (arith, e, h))

pub atoms_small : (vs : List Value) (n : ℕ) → counts_of (values_of vs) ≡ n → deepest_of (values_of vs) ≡ 0 → n < 65536 → is_too_large (tuple_of vs) ≡ false
atoms_small vs n e f h = small_enough (tuple_of vs) (omega (arith, e, h)) (omega (arith, f))

pub characters_count : (s : List ℕ) → counts_of (values_of (characters_in s)) ≡ length s
characters_count [] = refl
characters_count (c ∷ s) = omega (arith, characters_count s)

pub characters_deep : (s : List ℕ) → deepest_of (values_of (characters_in s)) ≡ 0
characters_deep [] = refl
characters_deep (c ∷ s) = omega (arith, characters_deep s)

pub numbers_count : (s : List ℕ) → counts_of (values_of (numbers_in s)) ≡ length s
numbers_count [] = refl
numbers_count (c ∷ s) = omega (arith, numbers_count s)

pub numbers_deep : (s : List ℕ) → deepest_of (values_of (numbers_in s)) ≡ 0
numbers_deep [] = refl
numbers_deep (c ∷ s) = omega (arith, numbers_deep s)

pub integers_count : (n : ℕ) (a c : ℤ) → counts_of (values_of (integers_in (stepped n a c))) ≡ n
integers_count zero a c = refl
integers_count (suc n) a c = omega (arith, integers_count n (a +ℤ c) c)

pub integers_deep : (n : ℕ) (a c : ℤ) → deepest_of (values_of (integers_in (stepped n a c))) ≡ 0
integers_deep zero a c = refl
integers_deep (suc n) a c = omega (arith, integers_deep n (a +ℤ c) c)

-- ---- what places tuples

pub tuple_runs : (f : World → Ran) (vs : List Value) (old new : Memory) (r : Result Ref Fault) → ((w : World) → f w ≡ tuple_within vs w) → PlacesTuple vs old new r → Runs f old new r
tuple_runs f vs old new (Ok r) is h = (
  (λ w e. is w ∙ ap (λ b. cond b (too_long w) (gave (tuple_of vs) w)) h.0 ∙ ap (λ v. gave v w) (sym h.1.denotes)),
  h.1.lies,
  h.1.extends,
  h.1.store,
)
tuple_runs f vs old new (Err (Raises cause)) is h = (throws_long f old cause h.1 (λ w. is w ∙ ap (λ b. cond b (too_long w) (gave (tuple_of vs) w)) h.0), h.2)
tuple_runs f vs old new (Err NoMemory) is h = h

-- what is too large is told, where that is tested before memory is taken
pub large_told : (vs : List Value) (r : Result Ref Fault) → is_too_large (tuple_of vs) ≡ false → is_too_large (tuple_of vs) ≡ true → IsTold r
large_told vs r h e = absurd (no_truth (sym e ∙ h))

-- ---- values of any kinds

some_count : (v : Value) → 1 ≤ count_of v
some_count (Tuple vs) = omega arith
some_count _ = omega arith

pub counts_many : (vs : List Value) → length vs ≤ counts_of (values_of vs)
counts_many [] = omega arith
counts_many (v ∷ vs) = omega (arith, counts_many vs, some_count v)

pub many_items : (vs : List Value) → 65536 ≤ length vs → is_too_large (tuple_of vs) ≡ true
many_items vs h = many_values (tuple_of vs) (omega (arith, h, counts_many vs))
