-- Tokens as they are kept: what is the same of each, and that it splits no character of the source.
use Rattle.std.proofs.Common.{◌≡◌, ℕ, ◌+◌, ◌≤◌, List, length, drop, refl, sym, subst, arith, IsUtf8, Option, Some, None}
use Rattle.std.specs.Prelude.{IfSome}
use Rattle.std.specs.Option.{option_map}
use Rattle.std.specs.Str.{IsCharBoundary}
use Rattle.std.proofs.lemmas.Str.{IsCharBoundary-from_drop}
use Rattle.si_token.specs.declared.token.Token.{Token}
use Rattle.si_token.specs.Views.{token_of}
use Rattle.si_token.specs.Spans.{IsPart}
use Rattle.si_token.specs.Rows.{plain}
use Rattle.si_token.specs.inner.Kept.{IsWhole}

-- ---- plain tokens

pub plain_tokens : (made : Option Token) → option_map token_of (option_map plain made) ≡ option_map token_of made
plain_tokens None = refl
plain_tokens (Some t) = refl

pub plain_part : (at line : ℕ) (word : List ℕ) (t : Token) → IsPart at line word t → IsPart at line word (plain t)
plain_part at line word t p = record { text = p.text; start = p.start; end = p.end; in_line = p.in_line }

pub plain_parts : (at line : ℕ) (word : List ℕ) (made : Option Token) → IfSome made (IsPart at line word) → IfSome (option_map plain made) (IsPart at line word)
plain_parts at line word None p = tt
plain_parts at line word (Some t) p = plain_part at line word t p

-- ---- where they lie

-- a word between texts splits no character
pub part_whole : (source word : List ℕ) (at line : ℕ) (made : Option Token) → at + length word ≤ length source → IsUtf8 (drop at source) → IsUtf8 (drop (at + length word) source) → IfSome made (IsPart at line word) → IfSome made (λ t. IsWhole source t.span)
part_whole source word at line None within first second p = tt
part_whole source word at line (Some t) within first second p =
    let start = p.start in
    let end = p.end in
    record {
      order = omega (arith, start, end);
      start = λ less. subst (IsCharBoundary source) (sym start) (IsCharBoundary-from_drop source at (omega (arith, within)) first);
      end = λ less. subst (IsCharBoundary source) (sym end) (IsCharBoundary-from_drop source (at + length word) within second);
    }
