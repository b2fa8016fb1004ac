-- The value of a str literal, character by character.
use Rattle.std.proofs.Common.{◌≡◌, ℕ, suc, [], ◌∷◌, ◌++◌, append_assoc, Bool, true, false, Option, Some, None, refl, sym, ap, ◌∙◌}
use Rattle.std.specs.Prelude.{◌==◌, ◌||◌, not, option_map, option_and_then}
use Rattle.si_semantics.specs.Value.{Text}
use Rattle.si_semantics.specs.Literals.{Written, escape, unescaped}
use Rattle.si_token.specs.inner.Literals.{front_of}
use Rattle.si_token.proofs.Texts.{if_true, if_false, drop_none}
use Rattle.si_token.proofs.Literals.{front_is}
use Rattle.si_parse.specs.inner.Literals.{value_from}

-- one character more in front of a value, or at the end of what came before it
moved : (t w : Text) (o : Option Text) → option_map (λ v. (t ++ w) ++ v) o ≡ option_map (λ v. t ++ v) (option_map (λ v. w ++ v) o)
moved t w None = refl
moved t w (Some v) = ap Some (append_assoc t w v)

or_false : (p q : Bool) → (p || not q) ≡ false → (p ≡ false) × (q ≡ true)
or_false true q h = cc
or_false false true h = (refl, refl)
or_false false false h = cc

module _ (bytes : Bool) (t : Text) (raw : Bool) (skipped : ℕ) (c : ℕ) (cs ds : Text) (front : ◌≡◌ {A = Option (ℕ × Text)} (Some (c, ds)) (front_of cs)) (first : skipped ≡ 0) where
  here : value_from bytes t raw skipped cs ≡ value_from bytes t raw 0 (c ∷ ds)
  here = λ i. value_from bytes t raw (first i) (front_is cs c ds front i)

  plain_by : (raw escapes : Bool) → (c == 92) ≡ escapes → (raw || not escapes) ≡ true → value_from bytes (t ++ c ∷ []) raw 0 ds ≡ value_from bytes t raw 0 (c ∷ ds)
  plain_by true escapes e h = ap (λ l. Some ((t ++ c ∷ []) ++ l)) (drop_none ds) ∙ ap Some (append_assoc t (c ∷ []) ds)
  plain_by false true e h = cc
  plain_by false false e h = moved t (c ∷ []) (unescaped bytes 0 ds) ∙ ap (option_map (λ v. t ++ v)) (sym (if_false (c == 92) _ (option_map (λ text. c ∷ text) (unescaped bytes 0 ds)) e))

  pub on_plain : (raw || not (c == 92)) ≡ true → value_from bytes (t ++ c ∷ []) raw skipped ds ≡ value_from bytes t raw skipped cs
  on_plain h = ap (λ k. value_from bytes (t ++ c ∷ []) raw k ds) first ∙ plain_by raw (c == 92) refl h ∙ sym here

  escape_here : (raw || not (c == 92)) ≡ false → value_from bytes t raw skipped cs ≡ option_map (λ v. t ++ v) (option_and_then (λ (e : Written). option_map (λ text. e.0 ++ text) (unescaped bytes e.1 ds)) (escape bytes ds))
  escape_here h =
      let is = or_false raw (c == 92) h in
      here ∙ ap (λ r. value_from bytes t r 0 (c ∷ ds)) is.0 ∙ ap (option_map (λ v. t ++ v)) (if_true (c == 92) _ (option_map (λ text. c ∷ text) (unescaped bytes 0 ds)) is.1)

  pub no_escape : (raw || not (c == 92)) ≡ false → escape bytes ds ≡ None → value_from bytes t raw skipped cs ≡ None
  no_escape h none = escape_here h ∙ ap (λ o. option_map (λ v. t ++ v) (option_and_then (λ (e : Written). option_map (λ text. e.0 ++ text) (unescaped bytes e.1 ds)) o)) none

  pub on_escape : (raw || not (c == 92)) ≡ false → (w : Text) (k : ℕ) → escape bytes ds ≡ Some (w, k) → value_from bytes (t ++ w) raw k ds ≡ value_from bytes t raw skipped cs
  on_escape h w k some =
      let is = or_false raw (c == 92) h in
      ap (λ r. value_from bytes (t ++ w) r k ds) is.0
      ∙ moved t w (unescaped bytes k ds)
      ∙ ap (λ o. option_map (λ v. t ++ v) (option_and_then (λ (e : Written). option_map (λ text. e.0 ++ text) (unescaped bytes e.1 ds)) o)) (sym some)
      ∙ sym (escape_here h)

-- a character that belongs to the escape before it
pub on_skipped :
    (bytes : Bool) (t : Text) (raw : Bool) (skipped k c : ℕ) (cs ds : Text) → ◌≡◌ {A = Option (ℕ × Text)} (Some (c, ds)) (front_of cs) → skipped ≡ suc k
    → value_from bytes t raw k ds ≡ value_from bytes t raw skipped cs
on_skipped bytes t true skipped k c cs ds front is = sym (λ i. value_from bytes t true (is i) (front_is cs c ds front i))
on_skipped bytes t false skipped k c cs ds front is = sym (λ i. value_from bytes t false (is i) (front_is cs c ds front i))
