-- Numbers as lines write them, and lines as the code cuts them.
use Rattle.std.proofs.Common.{◌≡◌, ◌≢◌, ℕ, zero, suc, ◌<◌, ◌^◌, List, [], ◌∷◌, ◌++◌, length, get_or, refl, ap, sym, ◌∙◌, subst, arith, Result, Ok, Err, Bool, true, Option, Some, None, MatchOption}
use denote.Ref.{Bor}
use Rattle.std.specs.Fmt.{decimal}
use Rattle.std.specs.Str.Parse.{AllDigits, IsNumeral, without_leading_plus, digits_value}
use Rattle.std.proofs.lemmas.Fmt.{parse-decimal, decimal-digits_value, first_decimal, decimal_nonempty, decimal_digit, decimal_is_IsNumeral}
use Rattle.std.proofs.lemmas.Str.Parse.{IsNumeralModel, numerals_by_value, tells_digits, without_leading_plus_none, digit_from_value}
use Rattle.si_schedule.specs.BadLines.{IsLine}
use Rattle.si_schedule.specs.inner.Reading.{IsCanonical}

pub own : IsNumeralModel (AllDigits 10) (digits_value 10)
own = numerals_by_value (AllDigits 10) tells_digits

-- what a parse read, and what it can't read
abbrev pub Reads : List ℕ → Type 0
Reads bs = IsNumeral 10 (without_leading_plus bs) × (digits_value 10 (without_leading_plus bs) < 2 ^ 64)

pub number_some : (bs : List ℕ) (n : ℕ) → IsCanonical bs → Reads bs × (n ≡ digits_value 10 (without_leading_plus bs)) → bs ≡ decimal n
number_some bs n c h =
    let w = without_leading_plus_none bs c.1 in
    let p : AllDigits 10 bs = subst (AllDigits 10) w h.0.0.1 in
    let v : digits_value 10 (without_leading_plus bs) ≡ digits_value 10 bs = ap (digits_value 10) w in
    let small : digits_value 10 bs < 2 ^ 64 = (let k = h.0.1 in omega arith) in
    sym (decimal-digits_value own bs p c.0 c.2 small) ∙ ap decimal (sym v ∙ sym h.1)

-- what a number's text begins with
first_is : (n : ℕ) → n < 2 ^ 64 → IsCanonical (decimal n)
first_is zero h = let e : decimal 0 ≡ 48 ∷ [] = decimal_digit 0 (omega arith) in subst IsCanonical (sym e) ((let k : 0 < 1 = omega arith in k), (λ z. let k : ◌≡◌ {A = ℕ} 48 43 = z in omega arith), λ z. refl)
first_is (suc n) h =
    let f = first_decimal (suc n) (omega arith) h in
    (decimal_nonempty (suc n) h, (λ z. let k = z in omega arith), λ z. let k = z in absurd (omega arith))

pub canonical_of : (bs : List ℕ) (n : ℕ) → n < 2 ^ 64 → bs ≡ decimal n → IsCanonical bs
canonical_of bs n h e = subst IsCanonical (sym e) (first_is n h)

pub number_none : (bs : List ℕ) (n : ℕ) → n < 2 ^ 64 → bs ≡ decimal n → (Reads bs → ⊥) → ⊥
number_none bs n h e p = let r : Result ℕ Bool = Err true in let k : r ≡ Ok n = parse-decimal 64 n bs r h h e p in cc k

-- no line ends in a number's text
digits_are_line : (ds : List ℕ) → AllDigits 10 ds → IsLine ds
digits_are_line [] h = tt
digits_are_line (c ∷ cs) h = let k = digit_from_value c h.0 in ((λ e. let z = e in omega arith), digits_are_line cs h.1)

pub decimal_is_line : (n : ℕ) → n < 2 ^ 64 → IsLine (decimal n)
decimal_is_line n h = digits_are_line (decimal n) (decimal_is_IsNumeral n h).0.1

-- by the index, or from the front
pub line_from : (l : List ℕ) → ((i : ℕ) → i < length l → get_or l i 0 ≢ 10) → IsLine l
line_from [] h = tt
line_from (b ∷ bs) h = (h 0 (omega arith), line_from bs (λ i lt. h (suc i) (omega arith)))

pub line_cases : (bs : List ℕ) (r : Option (Bor (List ℕ) × Bor (List ℕ))) → MatchOption r ((i : ℕ) → i < length bs → get_or bs i 0 ≢ 10) (λ x. (bs ≡ x.0.now ++ (10 ∷ x.1.now)) × ((i : ℕ) → i < length x.0.now → get_or x.0.now i 0 ≢ 10))
    → MatchOption r (IsLine bs) (λ x. (bs ≡ x.0.now ++ 10 ∷ x.1.now) × IsLine x.0.now)
line_cases bs None h = line_from bs h
line_cases bs (Some x) h = (h.0, line_from x.0.now h.1)
