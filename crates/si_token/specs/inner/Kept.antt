-- Tokens without their texts, which lie in the source.
use Rattle.std.specs.Prelude.{ℕ, ◌≤◌, ◌<◌, List, map, All, slice_range}
use Rattle.std.specs.Str.{IsCharBoundary}
use Rattle.si_token.specs.declared.token.Span.{Span}
use Rattle.si_token.specs.declared.token.Token.{Token}
use Rattle.si_token.specs.declared.row.Spot.{Spot}
use Rattle.si_token.specs.Rows.{Row, reads_as}

-- the token that stands in a source at a spot
abbrev pub token_in : List ℕ → Spot → Token
token_in source s = record { text = reads_as (slice_range source s.span.start s.span.end); span = s.span; kind = s.kind }

-- the tokens that stand in a source at these spots
abbrev pub row_in : List ℕ → List Spot → Row
row_in source spots = record { source = source; items = map (token_in source) spots }

-- A part of a text that splits no character, if it is not empty.
pub record IsWhole (source : List ℕ) (s : Span) : Type 0 where
  pub order : s.start ≤ s.end
  pub start : s.start < s.end → IsCharBoundary source s.start
  pub end : s.start < s.end → IsCharBoundary source s.end

abbrev pub AreWhole : List ℕ → List Spot → Type 0
AreWhole source spots = All (λ (s : Spot). IsWhole source s.span) spots
