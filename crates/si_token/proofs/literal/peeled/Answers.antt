use Rattle.std.proofs.Common.{◌≡◌, ◌++◌, length, sym, ap, ◌∙◌, Option, Some, None, ℕ, List}
use Rattle.std.specs.Prelude.{MatchOption, encode_utf8}
use Rattle.std.specs.Str.Iter.{chars_rest}
use Rattle.si_token.proofs.Literals.{front_is, peeled_is}
use Rattle.si_token.proofs.literal.peeled.Goals as goal

-- what one character from the back leaves
left : {A : Type 0} (rest : A → List ℕ) (s t : A) (after inside : List ℕ) (r : Option ℕ) → rest s ≡ after → inside ≡ rest t → MatchOption r ((length (rest s) ≡ 0) × (t ≡ s)) (λ d. rest s ≡ rest t ++ encode_utf8 d)
    → MatchOption r ((length after ≡ 0) × (inside ≡ after)) (λ d. after ≡ inside ++ encode_utf8 d)
left rest s t after inside None e f h = (sym (ap length e) ∙ h.0, f ∙ ap rest h.1 ∙ e)
left rest s t after inside (Some d) e f h = sym e ∙ h ∙ ap (λ l. l ++ encode_utf8 d) (sym f)

pub returns : goal.returns
returns c =
    peeled_is c.args.text.now c.in-Some.after.now c.as_str.result.now c.in-Some.field-0-0 c.next_back.result (front_is _ _ _ c.in-Some.ensures.gives) c.in-Some.ensures.utf8 c.as_str.utf8
    (left chars_rest c.chars-inside.result c.next_back.new.self c.in-Some.after.now c.as_str.result.now c.next_back.result c.chars-inside.ensures.rest c.as_str.ensures c.next_back.ensures.steps)
