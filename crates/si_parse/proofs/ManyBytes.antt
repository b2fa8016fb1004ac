-- What one bytes literal more does.
use Rattle.std.proofs.Common.{◌≡◌, ℕ, List, ◌∷◌, ◌++◌, Some, refl, ap, ◌∙◌}
use Rattle.si_semantics.specs.Grammar.{Terminal, terminal, value_of_bytes}
use Rattle.si_token.specs.declared.token.TokenKind.{TokenKind}
use Rattle.si_token.specs.declared.token.TokenKind.TheVariants as kind
use Rattle.si_token.specs.Views.{kind_of}
use Rattle.si_parse.specs.inner.Lists.{then_read}
use Rattle.si_parse.specs.inner.Expressions.{octets_by}

other : (text : List ℕ) (k : TokenKind) (bytes : List ℕ) (rest : List Terminal) → (k ≡ kind.Bytes → ⊥) → octets_by text (terminal (kind_of k) bytes ∷ rest) ≡ Some (text, terminal (kind_of k) bytes ∷ rest)
other text kind.Bytes bytes rest differs = absurd (differs refl)
other text _ bytes rest differs = refl

module _ (text : List ℕ) (k : TokenKind) (bytes : List ℕ) (rest ts : List Terminal) (str : k ≡ kind.Bytes) (is : ts ≡ terminal (kind_of k) bytes ∷ rest) where
  turn : octets_by text ts ≡ then_read (value_of_bytes bytes) (λ s. octets_by (text ++ s) rest)
  turn = ap (octets_by text) is ∙ ap (λ k. octets_by text (terminal (kind_of k) bytes ∷ rest)) str

  pub octets_on : (s : List ℕ) → value_of_bytes bytes ≡ Some s → octets_by text ts ≡ octets_by (text ++ s) rest
  octets_on s h = turn ∙ ap (λ o. then_read o (λ s. octets_by (text ++ s) rest)) h
