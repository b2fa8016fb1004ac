-- Arguments that calls take.
use Rattle.std.proofs.Common.{◌≡◌, ℕ, zero, suc, ◌<◌, ◌≤◌, Bool, true, false, cond, List, [], ◌∷◌, length, get_or, refl, sym, ap, ap₂, ◌∙◌, arith}
use Rattle.std.specs.Prelude.{codes, nat_eq, ◌&&◌}
use Rattle.std.proofs.Common.{take, drop, ◌-◌}
use Rattle.std.proofs.lemmas.List.{length-map}
use Rattle.std.proofs.lemmas.Bool.Decides.{nat_tests}
use Rattle.si_semantics.specs.Value as pure
use Rattle.si_semantics.specs.Value.{Text}
use Rattle.si_semantics.specs.Text.{same_text}
use Rattle.si_semantics.specs.World.{World, Ran}
use Rattle.si_semantics.specs.Operations.{wrong_arguments}
use Rattle.si_semantics.proofs.Names.{same_is, same_self, other_is}
use Rattle.si_semantics.specs.Attributes.{alone, one_argument, optional_argument, makes_thread, thread_of, positional, by_name, paired}
use Rattle.si_arena.specs.declared.value.Ref.{Ref}
use Rattle.si_arena.specs.Memory.{Memory, value_of, all_of, AllLie}

not_zero : (n : ℕ) → false ≡ nat_eq (suc n) 0
not_zero n = grind (arith, nat_tests)

-- two texts are the same in either order
pub swapped : (s t : Text) (b : Bool) → same_text s t ≡ b → same_text t s ≡ b
swapped s t true e = ap (λ u. same_text u s) (sym (same_is s t e)) ∙ same_self s
swapped s t false e = other_is t s (λ p. differ (sym p) e)
  where
    differ : s ≡ t → same_text s t ≡ false → ⊥
    differ p e = let two : true ≡ false = sym (same_self s) ∙ ap (same_text s) p ∙ e in cc

-- a row is one value
pub one_of : {A : Type 0} (xs : List A) (d : A) → 1 ≤ length xs → length xs < 2 → xs ≡ get_or xs 0 d ∷ []
one_of [] d p q = absurd (omega arith)
one_of (x ∷ []) d p q = refl
one_of (x ∷ y ∷ xs) d p q = absurd (omega arith)

-- or two
pub two_of : {A : Type 0} (xs : List A) (d e : A) → 2 ≤ length xs → length xs < 3 → xs ≡ get_or xs 0 d ∷ get_or xs 1 e ∷ []
two_of [] d e p q = absurd (omega arith)
two_of (x ∷ []) d e p q = absurd (omega arith)
two_of (x ∷ y ∷ []) d e p q = refl
two_of (x ∷ y ∷ z ∷ xs) d e p q = absurd (omega arith)

-- no values
pub no_values : {A : Type 0} (xs : List A) (r : Bool) → r ≡ nat_eq (length xs) 0 → r ≡ true → xs ≡ []
no_values [] r e f = refl
no_values (x ∷ xs) r e f = let two : true ≡ false = sym f ∙ e ∙ sym (not_zero (length xs)) in absurd cc

-- where there is an argument, a call that takes none refuses it
pub alone_refuses : (m : Memory) (xs : List Ref) (r : Bool) (does : Ran) (w : World) → r ≡ nat_eq (length xs) 0 → r ≡ false → alone (all_of m xs) does w ≡ wrong_arguments w
alone_refuses m [] r does w e f = let two : false ≡ true = sym f ∙ e in absurd cc
alone_refuses m (x ∷ xs) r does w e f = refl

-- a call that takes one argument or none
pub optional_is : (m : Memory) (x : Text) (other : pure.Value) (xs : List Ref) (names : List Text) (does : pure.Value → Ran) (w : World) (r : Bool) → r ≡ nat_eq (length xs) 0 → r ≡ false → optional_argument x other (all_of m xs) names does w ≡ one_argument x (all_of m xs) names does w
optional_is m x other [] names does w r e f = let two : false ≡ true = sym f ∙ e in absurd cc
optional_is m x other (v ∷ vs) names does w r e f = refl

pub named_one : (x y : Text) (v : pure.Value) (does : pure.Value → Ran) (w : World) → same_text x y ≡ true → one_argument x (v ∷ []) (y ∷ []) does w ≡ does v
named_one x y v does w e = ap (λ b. cond b (does v) (wrong_arguments w)) e

pub misnamed_one : (x y : Text) (v : pure.Value) (does : pure.Value → Ran) (w : World) → same_text x y ≡ false → one_argument x (v ∷ []) (y ∷ []) does w ≡ wrong_arguments w
misnamed_one x y v does w e = ap (λ b. cond b (does v) (wrong_arguments w)) e

-- ---- the two of a thread

pub in_this_order : (x y : Text) (u v : pure.Value) (w : World) → same_text x (codes "target") ≡ true → same_text y (codes "args") ≡ true → makes_thread (u ∷ v ∷ []) (x ∷ y ∷ []) w ≡ thread_of u v w
in_this_order x y u v w e f =
    ap₂ (λ a b. cond (a && b) (thread_of u v w) (cond (same_text x (codes "args") && same_text y (codes "target")) (thread_of v u w) (wrong_arguments w))) e f

pub in_other_order : (x y : Text) (u v : pure.Value) (w : World) → (same_text x (codes "target") && same_text y (codes "args")) ≡ false → same_text x (codes "args") ≡ true → same_text y (codes "target") ≡ true → makes_thread (u ∷ v ∷ []) (x ∷ y ∷ []) w ≡ thread_of v u w
in_other_order x y u v w e f g =
    ap (λ a. cond a (thread_of u v w) (cond (same_text x (codes "args") && same_text y (codes "target")) (thread_of v u w) (wrong_arguments w))) e
    ∙ ap₂ (λ a b. cond (a && b) (thread_of v u w) (wrong_arguments w)) f g

pub in_no_order : (x y : Text) (u v : pure.Value) (w : World) → (same_text x (codes "target") && same_text y (codes "args")) ≡ false → (same_text x (codes "args") && same_text y (codes "target")) ≡ false → makes_thread (u ∷ v ∷ []) (x ∷ y ∷ []) w ≡ wrong_arguments w
in_no_order x y u v w e f =
    ap (λ a. cond a (thread_of u v w) (cond (same_text x (codes "args") && same_text y (codes "target")) (thread_of v u w) (wrong_arguments w))) e
    ∙ ap (λ a. cond a (thread_of v u w) (wrong_arguments w)) f

pub first_no : (a b : Bool) → a ≡ false → (a && b) ≡ false
first_no false b e = refl
first_no true b e = absurd cc

pub second_no : (a b : Bool) → a ≡ true → b ≡ false → (a && b) ≡ false
second_no true false e f = refl
second_no true true e f = absurd cc
second_no false b e f = absurd cc

-- ---- what is passed without a name, and what with one

taken : (m : Memory) (xs : List Ref) (k : ℕ) → take k (all_of m xs) ≡ all_of m (take k xs)
taken m xs zero = refl
taken m [] (suc k) = refl
taken m (x ∷ xs) (suc k) = ap (λ vs. value_of m x ∷ vs) (taken m xs k)

dropped : (m : Memory) (xs : List Ref) (k : ℕ) → drop k (all_of m xs) ≡ all_of m (drop k xs)
dropped m xs zero = refl
dropped m [] (suc k) = refl
dropped m (x ∷ xs) (suc k) = dropped m xs k

pub first_lie : (m : Memory) (xs : List Ref) (k : ℕ) → AllLie m xs → AllLie m (take k xs)
first_lie m xs zero h = tt
first_lie m [] (suc k) h = tt
first_lie m (x ∷ xs) (suc k) h = (h.0, first_lie m xs k h.1)

pub last_lie : (m : Memory) (xs : List Ref) (k : ℕ) → AllLie m xs → AllLie m (drop k xs)
last_lie m xs zero h = h
last_lie m [] (suc k) h = tt
last_lie m (x ∷ xs) (suc k) h = last_lie m xs k h.1

pub first_are : (m : Memory) (xs front : List Ref) (names : List Text) (k : ℕ) → k ≡ length xs - length names → front ≡ take k xs → positional (all_of m xs) names ≡ all_of m front
first_are m xs front names k e f =
    ap (λ n. take (n - length names) (all_of m xs)) (length-map xs (value_of m))
    ∙ ap (λ n. take n (all_of m xs)) (sym e)
    ∙ taken m xs k
    ∙ ap (all_of m) (sym f)

pub last_are : (m : Memory) (xs back : List Ref) (names : List Text) (k : ℕ) → k ≡ length xs - length names → back ≡ drop k xs → by_name (all_of m xs) names ≡ paired names (all_of m back)
last_are m xs back names k e f =
    ap (λ n. paired names (drop (n - length names) (all_of m xs))) (length-map xs (value_of m))
    ∙ ap (λ n. paired names (drop n (all_of m xs))) (sym e)
    ∙ ap (paired names) (dropped m xs k ∙ ap (all_of m) (sym f))
