-- Names and what they are bound to.
use Rattle.std.proofs.Common.{◌≡◌, ◌≢◌, Bool, true, false, [], ◌∷◌, Some, refl, ap, ◌∙◌}
use Rattle.std.specs.Prelude.{nat_eq, ◌&&◌, if◌then◌else◌}
use Rattle.std.proofs.lemmas.Bool.{eq-eqb, eqb-true}
use Rattle.si_semantics.specs.Value.{Text}
use Rattle.si_semantics.specs.Text.{same_text}
use Rattle.si_semantics.specs.Laws.{Binding}

both_true : (a b : Bool) → (a && b) ≡ true → (a ≡ true) × (b ≡ true)
both_true true true h = (refl, refl)
both_true true false h = cc
both_true false b h = cc

-- texts with the same characters are equal
pub same_is : (x y : Text) → same_text x y ≡ true → x ≡ y
same_is [] [] h = refl
same_is [] (d ∷ ds) h = cc
same_is (c ∷ cs) [] h = cc
same_is (c ∷ cs) (d ∷ ds) h =
    let b = both_true (nat_eq c d) (same_text cs ds) h in
    ap (λ e. e ∷ cs) (eqb-true c d b.0) ∙ ap (λ l. d ∷ l) (same_is cs ds b.1)

pub same_self : (x : Text) → same_text x x ≡ true
same_self [] = refl
same_self (c ∷ cs) = ap (λ b. b && same_text cs cs) (eq-eqb c c refl) ∙ same_self cs

-- different texts are told apart
pub other_is : (x y : Text) → x ≢ y → same_text x y ≡ false
other_is x y h = by (same_text x y) refl
  where
    by : (b : Bool) → same_text x y ≡ b → b ≡ false
    by true e = absurd (h (same_is x y e))
    by false e = refl

pub binding : Binding
binding = record {
  bound = λ x v g. ap (λ b. if b then Some v else g x) (same_self x);
  others = λ x y v g h. ap (λ b. if b then Some v else g y) (other_is x y h);
}
