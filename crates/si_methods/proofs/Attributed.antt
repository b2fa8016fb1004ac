-- What attributes give.
use Rattle.std.proofs.Common.{◌≡◌, ℕ, suc, ◌<◌, ◌^◌, inl, inr, subst, arith, ℤ, pos, negsuc, Bool, true, false, cond, Some, None, Result, Ok, Err, sym, ap, ◌∙◌}
use Rattle.std.specs.Prelude.{◌&&◌, int_le, FitsSigned}
use Rattle.std.specs.Int.{w64}
use Rattle.std.proofs.lemmas.Bool.Decides.{leb_tells}
use Rattle.si_plain.specs.declared.kind.Kind.{Kind}
use Rattle.si_plain.specs.declared.kind.Kind.TheVariants.{OverflowError}
use Rattle.si_plain.specs.Integers.{in_range}
use Rattle.si_plain.proofs.IntegerFacts.{in_range-fits, in_range-exceeds}
use Rattle.si_semantics.specs.Value.{Text, Value, Int}
use Rattle.si_semantics.specs.Text.{same_text}
use Rattle.si_semantics.specs.World.{World}
use Rattle.si_semantics.specs.Operations.{gave, integer}
use Rattle.si_semantics.specs.Attributes.{one_of_two}

pub picks_first : (x a b : Text) (u v : Value) → same_text x a ≡ true → one_of_two x a b u v ≡ Some u
picks_first x a b u v e = ap (λ t. cond t (Some u) (cond (same_text x b) (Some v) None)) e

pub picks_second : (x a b : Text) (u v : Value) → same_text x a ≡ false → same_text x b ≡ true → one_of_two x a b u v ≡ Some v
picks_second x a b u v e f =
    ap (λ t. cond t (Some u) (cond (same_text x b) (Some v) None)) e ∙ ap (λ t. cond t (Some v) None) f

pub picks_none : (x a b : Text) (u v : Value) → same_text x a ≡ false → same_text x b ≡ false → one_of_two x a b u v ≡ None
picks_none x a b u v e f =
    ap (λ t. cond t (Some u) (cond (same_text x b) (Some v) None)) e ∙ ap (λ t. cond t (Some v) None) f

by_bounds : (b : Bool) (z : ℤ) (k : Kind) → ◌≡◌ {A = Result ℤ Kind} (Err k) (cond b (Ok z) (Err OverflowError)) → k ≡ OverflowError
by_bounds true z k e = absurd cc
by_bounds false z k e = cc

-- an integer that is not within 64 bits is past them
pub overflows : (z : ℤ) (k : Kind) → Err k ≡ in_range z → k ≡ OverflowError
unfolding in_range
overflows z k e = by_bounds (int_le (negsuc 9223372036854775807) z && int_le z (pos 9223372036854775807)) z k e

-- an integer that is one of 64 bits
pub is_integer : (n : ℤ) (w : World) → FitsSigned w64 n → integer (in_range n) w ≡ gave (Int n) w
is_integer n w h = ap (λ r. integer r w) (in_range-fits n h)

-- and that is one of 64 bits
pub within : (k : ℕ) (n : ℤ) → Ok n ≡ in_range (pos k) → FitsSigned w64 n
within k n e = elim (leb_tells (suc k) (2 ^ 63)) [
  | inl h ↦
      let small : k < 2 ^ 63 = omega (arith, h.1) in
      let fits : FitsSigned w64 (pos k) = record { sfits = small } in
      let both : ◌≡◌ {A = Result ℤ Kind} (Ok n) (Ok (pos k)) = e ∙ in_range-fits (pos k) fits in
      let same : n ≡ pos k = cc in
      subst (FitsSigned w64) (sym same) fits
  | inr h ↦
      let large : ◌≡◌ {A = Result ℤ Kind} (Ok n) (Err OverflowError) = e ∙ in_range-exceeds (pos k) (λ f. omega (arith, h.1, f.sfits)) in
      absurd cc
]
