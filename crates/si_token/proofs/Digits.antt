-- The number that digits write.
use Rattle.std.proofs.Common.{◌≡◌, ℕ, suc, ◌+◌, ◌*◌, ◌<◌, ◌≤◌, List, [], ◌∷◌, length, drop, get_or, ap, ◌∙◌, refl, arith, true, false, Bool, Option, Some, None, pos}
use Rattle.std.specs.Prelude.{◌==◌, ◌&&◌, not, nat_lt, nat_le, if◌then◌else◌}
use Rattle.std.specs.Char.{digit_value}
use Rattle.std.proofs.Math.Seq.{drop-cons}
use Rattle.std.proofs.lemmas.Bool.Decides.{nat_tests}
use Rattle.std.proofs.lemmas.Bool.{eqb-true}
use Rattle.si_semantics.specs.Literals.{max_int, digits_after, in_range}

-- what digits do after a number that is one digit longer
abbrev turn : ℕ → Bool → ℕ → ℕ → List ℕ → Bool → Bool → Option ℕ
turn base due n c cs joins digit =
    if joins then digits_after base true n cs else (if digit then digits_after base false (n * base + digit_value c) cs else None)

past : (n : ℕ) → max_int < n → nat_le n max_int ≡ false
past n h = grind (arith, nat_tests)

larger : (base n d : ℕ) → 0 < base → n ≤ n * base + d
larger base n d h = grind arith

-- a number that is past the limit stays past it
pub too_large : (ds : List ℕ) (base : ℕ) (due : Bool) (n : ℕ) → 0 < base → max_int < n → in_range (digits_after base due n ds) ≡ None
too_large [] base true n some h = refl
too_large [] base false n some h = ap (λ b. if b then Some (pos n) else None) (past n h)
too_large (c ∷ cs) base due n some h = by (λ due n h. too_large cs base due n some h) ((c == 95) && not due) (nat_lt (digit_value c) base)
  where
    by : ((due : Bool) (n : ℕ) → max_int < n → in_range (digits_after base due n cs) ≡ None) → (joins digit : Bool) → in_range (turn base due n c cs joins digit) ≡ None
    by go true digit = go true n h
    by go false true = go false (n * base + digit_value c) (let l = larger base n (digit_value c) some in omega (arith, l, h))
    by go false false = refl

-- a digit is no `_`
no_underscore : (base c : ℕ) → base ≤ 36 → digit_value c < base → (c == 95) ≡ false
no_underscore base c small d = by (c == 95) refl
  where
    by : (t : Bool) → (c == 95) ≡ t → (c == 95) ≡ false
    by false e = e
    by true e = let v : digit_value c ≡ 36 = ap digit_value (eqb-true c 95 e) in absurd (omega (arith, v, d, small))

below : (n m : ℕ) → n < m → nat_lt n m ≡ true
below n m h = grind (arith, nat_tests)

-- a digit that passes the limit
pub digit_past : (ds : List ℕ) (i base : ℕ) (first due : Bool) (n digit : ℕ) → 0 < base → base ≤ 36 → i < length ds → digits_after base first 0 ds ≡ digits_after base due n (drop i ds)
    → digit_value (get_or ds i 0) < base → digit ≡ digit_value (get_or ds i 0) → max_int < n * base + digit → in_range (digits_after base first 0 ds) ≡ None
digit_past ds i base first due n digit some small lt same d is large =
    let c = get_or ds i 0 in
    let rest = drop (suc i) ds in
    let step : digits_after base due n (drop i ds) ≡ digits_after base false (n * base + digit_value c) rest =
    ap (digits_after base due n) (drop-cons ds i 0 lt)
    ∙ ap (λ t. turn base due n c rest (t && not due) (nat_lt (digit_value c) base)) (no_underscore base c small d)
    ∙ ap (λ t. turn base due n c rest false t) (below (digit_value c) base d) in
    ap in_range (same ∙ step) ∙ too_large rest base false (n * base + digit_value c) some (omega (arith, is, large))
