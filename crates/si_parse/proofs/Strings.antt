-- What one str literal more does.
use Rattle.std.proofs.Common.{◌≡◌, ℕ, List, ◌∷◌, ◌++◌, Some, refl, ap, ◌∙◌}
use Rattle.si_semantics.specs.Grammar.{Terminal, terminal, value_of_str}
use Rattle.si_token.specs.declared.token.TokenKind.{TokenKind}
use Rattle.si_token.specs.declared.token.TokenKind.TheVariants as kind
use Rattle.si_token.specs.Views.{kind_of}
use Rattle.si_parse.specs.inner.Lists.{then_read}
use Rattle.si_parse.specs.inner.Expressions.{strings_by}

other : (text : List ℕ) (k : TokenKind) (bytes : List ℕ) (rest : List Terminal) → (k ≡ kind.Str → ⊥) → strings_by text (terminal (kind_of k) bytes ∷ rest) ≡ Some (text, terminal (kind_of k) bytes ∷ rest)
other text kind.Str bytes rest differs = absurd (differs refl)
other text _ bytes rest differs = refl

module _ (text : List ℕ) (k : TokenKind) (bytes : List ℕ) (rest ts : List Terminal) (str : k ≡ kind.Str) (is : ts ≡ terminal (kind_of k) bytes ∷ rest) where
  turn : strings_by text ts ≡ then_read (value_of_str bytes) (λ s. strings_by (text ++ s) rest)
  turn = ap (strings_by text) is ∙ ap (λ k. strings_by text (terminal (kind_of k) bytes ∷ rest)) str

  pub strings_on : (s : List ℕ) → value_of_str bytes ≡ Some s → strings_by text ts ≡ strings_by (text ++ s) rest
  strings_on s h = turn ∙ ap (λ o. then_read o (λ s. strings_by (text ++ s) rest)) h
