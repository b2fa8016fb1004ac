-- A text ends with another where it begins with it once so many characters are left.
use Rattle.std.proofs.Common.{◌≡◌, ℕ, zero, suc, ◌+◌, ◌-◌, ◌<◌, ◌≤◌, Bool, true, false, List, [], ◌∷◌, length, drop, refl, sym, ap, ◌∙◌, arith}
use Rattle.std.specs.Prelude.{nat_eq, ◌&&◌, ◌||◌}
use Rattle.si_semantics.specs.Text.{same_text}
use Rattle.si_semantics.specs.Parts.{begins_with}
use Rattle.si_semantics.specs.Attributes.{ends_with}

and_no : (b c : Bool) → c ≡ false → (b && c) ≡ false
and_no true c e = e
and_no false c e = refl

or_no : (b c : Bool) → b ≡ false → (b || c) ≡ c
or_no false c e = refl
or_no true c e = absurd cc

or_none : (b : Bool) → (b || false) ≡ b
or_none true = refl
or_none false = refl

-- texts of two lengths are not the same
shorter : (s t : List ℕ) → length s < length t → same_text s t ≡ false
shorter [] [] l = absurd (omega arith)
shorter [] (d ∷ t) l = refl
shorter (c ∷ s) [] l = absurd (omega arith)
shorter (c ∷ s) (d ∷ t) l = and_no (nat_eq c d) (same_text s t) (shorter s t (omega arith))

longer : (s t : List ℕ) → length t < length s → same_text s t ≡ false
longer [] [] l = absurd (omega arith)
longer [] (d ∷ t) l = absurd (omega arith)
longer (c ∷ s) [] l = refl
longer (c ∷ s) (d ∷ t) l = and_no (nat_eq c d) (same_text s t) (longer s t (omega arith))

-- of one length, a text begins with another where they are the same
begins_same : (s t : List ℕ) → length s ≡ length t → same_text s t ≡ begins_with s t
begins_same [] [] l = refl
begins_same [] (d ∷ t) l = absurd (omega arith)
begins_same (c ∷ s) [] l = absurd (omega arith)
begins_same (c ∷ s) (d ∷ t) l = ap (λ b. nat_eq c d && b) (begins_same s t (omega arith))

-- a text does not end with a longer one
pub ends_short : (s t : List ℕ) → length s < length t → ends_with s t ≡ false
ends_short [] t l = shorter [] t l
ends_short (c ∷ s) t l = or_no (same_text (c ∷ s) t) (ends_with s t) (shorter (c ∷ s) t l) ∙ ends_short s t (omega arith)

ends_from : (s t : List ℕ) (k : ℕ) → k + length t ≡ length s → ends_with s t ≡ begins_with (drop k s) t
ends_from [] [] k e = let none : k ≡ 0 = omega arith in sym (ap (λ i. begins_with (drop i []) []) none)
ends_from [] (d ∷ t) k e = absurd (omega arith)
ends_from (c ∷ s) t zero e =
    ap (λ b. same_text (c ∷ s) t || b) (ends_short s t (omega arith))
    ∙ or_none (same_text (c ∷ s) t)
    ∙ begins_same (c ∷ s) t (omega arith)
ends_from (c ∷ s) t (suc k) e =
    or_no (same_text (c ∷ s) t) (ends_with s t) (longer (c ∷ s) t (omega arith)) ∙ ends_from s t k (omega arith)

pub ends_is : (s t : List ℕ) → length t ≤ length s → ends_with s t ≡ begins_with (drop (length s - length t) s) t
ends_is s t l = ends_from s t (length s - length t) (omega arith)
