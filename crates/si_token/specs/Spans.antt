-- Where tokens stand in the source.
use Rattle.std.specs.Prelude.{◌≡◌, ℕ, ◌+◌, ◌≤◌, List, [], ◌∷◌, length, slice_range}
use Rattle.si_semantics.specs.Layout.{line_at}
use Rattle.si_token.specs.declared.token.TokenKind.{TokenKind}
use Rattle.si_token.specs.declared.token.Token.{Token}

-- The token's text is this, and begins at this byte, in this line.
pub record IsPart (at line : ℕ) (word : List ℕ) (t : Token) : Type 0 where
  pub text : t.text.now ≡ word
  pub start : t.span.start ≡ at
  pub end : t.span.end ≡ at + length word
  pub in_line : t.span.line ≡ line

-- The token's text is the part of the source that its span says.
abbrev pub IsSliceOf : List ℕ → Token → Type 0
IsSliceOf source t = t.text.now ≡ slice_range source t.span.start t.span.end

-- The token begins in the line that its span says.
abbrev pub IsOnLine : List ℕ → Token → Type 0
IsOnLine source t = t.span.line ≡ line_at source t.span.start

-- The tokens lie between these places, one after the other.
abbrev pub LieBetween : ℕ → List Token → ℕ → Type 0
LieBetween low [] high = low ≤ high
LieBetween low (t ∷ ts) high = (low ≤ t.span.start) × (t.span.start ≤ t.span.end) × LieBetween t.span.end ts high

-- the last token is of this kind
abbrev pub EndsIn : TokenKind → List Token → Type 0
EndsIn k [] = ⊥
EndsIn k (t ∷ []) = t.kind ≡ k
EndsIn k (t ∷ (u ∷ ts)) = EndsIn k (u ∷ ts)
