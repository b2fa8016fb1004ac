-- The bytes that are made of the items of a range, one by one.
use Rattle.std.proofs.Common.{◌≡◌, ℕ, zero, suc, ◌+◌, ◌-◌, ◌<◌, ◌≤◌, ℤ, pos, negsuc, ◌+ℤ◌, List, [], ◌∷◌, ◌++◌, ◌⊎◌, inl, inr, ⊎_elim, Bool, true, false, cond, Option, Some, None, refl, sym, ap, subst, ◌∙◌, arith, append_assoc, append-nil}
use Rattle.std.specs.Prelude.{nat_lt, nat_le, int_le, ◌&&◌, option_map, if◌then◌else◌, Result, Ok, Err}
use Rattle.si_plain.specs.declared.kind.Kind.{Kind}
use Rattle.si_plain.specs.declared.kind.Kind.TheVariants.{OverflowError}
use Rattle.si_plain.specs.Integers.{in_range, sum_of}
use Rattle.si_ops.specs.Calls.{byte_of, StepsTo}
use Rattle.std.proofs.lemmas.Bool.Decides.{nat_tests}
use Rattle.si_semantics.specs.Operations.{stepped, bytes_from, range_items, range_length}

-- no bytes are made of integers with this one in front
abbrev pub IsNone : ℤ → Type 0
IsNone z = (is : List ℤ) → bytes_from (z ∷ is) ≡ None

-- an integer is an item, or neither is a byte
abbrev pub Near : ℤ → ℤ → Type 0
Near z at = (z ≡ at) ⊎ (IsNone z × IsNone at)

-- after so many items of a range, whose bytes are these, an integer is the next item
abbrev pub SoFar : (a b c : ℤ) → ℕ → ℤ → List ℕ → Type 0
SoFar a b c i at bs =
    (z : ℤ) × Near z at × (option_map (λ (more : List ℕ). bs ++ more) (bytes_from (stepped (range_length a b c - i) z c)) ≡ bytes_from (range_items a b c))

none_in_front : (o : Option (List ℕ)) → option_map (λ (more : List ℕ). [] ++ more) o ≡ o
none_in_front None = refl
none_in_front (Some bs) = refl

pub none_yet : (a b c at : ℤ) (bs : List ℕ) → at ≡ a → bs ≡ [] → SoFar a b c 0 at bs
none_yet a b c at bs e none =
    let all : range_length a b c - 0 ≡ range_length a b c = omega arith in (
      a,
      inl (sym e),
      ap (λ (xs : List ℕ). option_map (λ (more : List ℕ). xs ++ more) (bytes_from (stepped (range_length a b c - 0) a c))) none
          ∙ none_in_front (bytes_from (stepped (range_length a b c - 0) a c))
          ∙ ap (λ n. bytes_from (stepped n a c)) all,
    )

pub all_made : (a b c : ℤ) (i : ℕ) (at : ℤ) (bs : List ℕ) → range_length a b c ≤ i → SoFar a b c i at bs → bytes_from (range_items a b c) ≡ Some bs
all_made a b c i at bs h s =
    let over : range_length a b c - i ≡ 0 = omega (arith, h) in
    sym s.2 ∙ ap (λ n. option_map (λ (more : List ℕ). bs ++ more) (bytes_from (stepped n s.0 c))) over ∙ ap Some (append-nil bs)

none_by : (n : ℕ) (is : List ℤ) (t : Bool) → (if t then Some n else None) ≡ None → (if t then option_map (λ bs. n ∷ bs) (bytes_from is) else None) ≡ None
none_by n is true h = cc
none_by n is false h = refl

-- what is no byte
pub no_byte : (z : ℤ) → byte_of z ≡ None → IsNone z
no_byte (pos n) h is = none_by n is (nat_lt n 256) h
no_byte (negsuc n) h is = refl

some_by : (n b : ℕ) (t : Bool) → (if t then Some n else None) ≡ Some b → (t ≡ true) × (n ≡ b)
some_by n b true h = (refl, cc)
some_by n b false h = cc

-- what is one
pub a_byte : (z : ℤ) (b : ℕ) → byte_of z ≡ Some b → (z ≡ pos b) × (nat_lt b 256 ≡ true)
a_byte (pos n) b h = let p = some_by n b (nat_lt n 256) h in (ap pos p.1, ap (λ k. nat_lt k 256) (sym p.1) ∙ p.0)
a_byte (negsuc n) b h = cc

within_by : (z n : ℤ) (t : Bool) → (if t then Ok z else Err OverflowError) ≡ Ok n → z ≡ n
within_by z n true h = cc
within_by z n false h = cc

within_is : (z n : ℤ) → in_range z ≡ Ok n → z ≡ n
unfolding in_range
within_is z n h = within_by z n (int_le (negsuc 9223372036854775807) z && int_le z (pos 9223372036854775807)) h

past_by : (n : ℕ) (k : Kind) (t u : Bool) → (u ≡ true → t ≡ true) → (if t then Ok (pos n) else Err OverflowError) ≡ Err k → (if u then Some n else None) ≡ None
past_by n k true u f h = cc
past_by n k false true f h = let bad : false ≡ true = f refl in cc
past_by n k false false f h = refl

small_within : (n : ℕ) → nat_lt n 256 ≡ true → nat_le n 9223372036854775807 ≡ true
small_within n h = grind (arith, nat_tests)

past_none : (z : ℤ) (k : Kind) → in_range z ≡ Err k → IsNone z
unfolding in_range
past_none (negsuc n) k h is = refl
past_none (pos n) k h is = no_byte (pos n) (past_by n k (int_le (pos n) (pos 9223372036854775807)) (nat_lt n 256) (small_within n) h) is

-- the item after one
near_by : (z n : ℤ) (r : Result ℤ Kind) → in_range z ≡ r → StepsTo r n → Near z n
near_by z n (Ok m) e h = inl (within_is z m e ∙ sym h)
near_by z n (Err k) e h = inr (past_none z k e, subst IsNone (sym h) (λ is. refl))

pub near : (a c n : ℤ) → StepsTo (sum_of a c) n → Near (a +ℤ c) n
unfolding sum_of
near a c n h = near_by (a +ℤ c) n (in_range (a +ℤ c)) refl h

-- one item more is left
pub one_left : (n : ℕ) (z c : ℤ) → 0 < n → stepped n z c ≡ z ∷ stepped (n - 1) (z +ℤ c) c
one_left zero z c h = absurd (omega (arith, h))
one_left (suc n) z c h = let e : n ≡ suc n - 1 = omega arith in ap (λ k. z ∷ stepped k (z +ℤ c) c) e

pub none_made : (a b c : ℤ) (i : ℕ) (at : ℤ) (bs : List ℕ) → i < range_length a b c → IsNone at → SoFar a b c i at bs → bytes_from (range_items a b c) ≡ None
none_made a b c i at bs h none s =
    let n = range_length a b c - i in
    let left : 0 < n = omega (arith, h) in
    let there : IsNone s.0 = ⊎_elim (λ e. subst IsNone (sym e) none) (λ p. p.0) s.1 in
    sym s.2
    ∙ ap (λ is. option_map (λ (more : List ℕ). bs ++ more) (bytes_from is)) (one_left n s.0 c left)
    ∙ ap (option_map (λ (more : List ℕ). bs ++ more)) (there (stepped (n - 1) (s.0 +ℤ c) c))

more_after : (bs : List ℕ) (b : ℕ) (o : Option (List ℕ)) → option_map (λ (more : List ℕ). bs ++ more) (option_map (λ more. b ∷ more) o) ≡ option_map (λ (more : List ℕ). (bs ++ b ∷ []) ++ more) o
more_after bs b None = refl
more_after bs b (Some more) = ap Some (sym (append_assoc bs (b ∷ []) more))

no_none : (b : ℕ) → nat_lt b 256 ≡ true → IsNone (pos b) → ⊥
no_none b h none =
    let some : bytes_from (pos b ∷ []) ≡ Some (b ∷ []) = ap (λ t. cond t (Some (b ∷ [])) None) h in
    apart (b ∷ []) (sym (none []) ∙ some)
  where
    apart : (bs : List ℕ) → ◌≡◌ {A = Option (List ℕ)} None (Some bs) → ⊥
    apart bs e = cc

pub one_made : (a b c : ℤ) (i : ℕ) (at next : ℤ) (byte : ℕ) (bs more : List ℕ) → i < range_length a b c → at ≡ pos byte → nat_lt byte 256 ≡ true → Near (at +ℤ c) next → more ≡ bs ++ byte ∷ [] → SoFar a b c i at bs → SoFar a b c (i + 1) next more
one_made a b c i at next byte bs more h e small near is s =
    let n = range_length a b c - i in
    let left : 0 < n = omega (arith, h) in
    let same : s.0 ≡ at = ⊎_elim (λ f. f) (λ p. absurd (no_none byte small (subst IsNone e p.1))) s.1 in
    let fewer : n - 1 ≡ range_length a b c - (i + 1) = omega arith in
    let rest = stepped (range_length a b c - (i + 1)) (at +ℤ c) c in
    let there : stepped n s.0 c ≡ pos byte ∷ rest = ap (λ z. stepped n z c) same ∙ one_left n at c left ∙ (λ k. e k ∷ stepped (fewer k) (at +ℤ c) c) in
    let first : bytes_from (pos byte ∷ rest) ≡ option_map (λ m. byte ∷ m) (bytes_from rest) = ap (λ t. cond t (option_map (λ m. byte ∷ m) (bytes_from rest)) None) small in (
      at +ℤ c,
      near,
      ap (λ (xs : List ℕ). option_map (λ (m : List ℕ). xs ++ m) (bytes_from rest)) is
          ∙ sym (more_after bs byte (bytes_from rest))
          ∙ ap (option_map (λ (m : List ℕ). bs ++ m)) (sym first)
          ∙ ap (λ xs. option_map (λ (m : List ℕ). bs ++ m) (bytes_from xs)) (sym there)
          ∙ s.2,
    )
