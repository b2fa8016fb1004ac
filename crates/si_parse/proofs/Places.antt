-- The terminals from a place on.
use Rattle.std.proofs.Common.{◌≡◌, ℕ, suc, ◌+◌, ◌<◌, ◌≤◌, [], ◌∷◌, length, map, get_or, sym, ap, ◌∙◌, arith, add-one, ⊎_elim}
use Rattle.std.specs.Prelude.{Option, Some, None, MatchOption, slice_get, option_map}
use Rattle.std.proofs.lemmas.Option.{slice_get_cases, slice_get_within, get_or_from_slice_get}
use Rattle.std.proofs.Math.Seq.{drop-cons}
use Rattle.std.proofs.Math.ListN.{drop_of_length-le}
use Rattle.std.proofs.lemmas.List.{drop-map, length-map}
use Rattle.si_semantics.specs.Grammar.{Terminal, terminal_of}
use Rattle.si_token.specs.declared.token.Token.{Token}
use Rattle.si_token.specs.Views.{token_of}
use Rattle.si_token.specs.Rows.{Row, plain}
use Rattle.si_parse.specs.inner.Gives.{from}

abbrev seen : Token → Terminal
seen t = terminal_of (token_of t)

from_past : (tokens : Row) (at : ℕ) → length tokens.items ≤ at → from tokens at ≡ []
from_past tokens at h =
    let short : length (map seen tokens.items) ≤ at = omega (arith, length-map tokens.items seen) in drop_of_length-le (map seen tokens.items) short

from_inside : (tokens : Row) (at : ℕ) (d : Token) → at < length tokens.items → from tokens at ≡ seen (get_or tokens.items at d) ∷ from tokens (at + 1)
from_inside tokens at d h =
    drop-map seen at tokens.items
    ∙ ap (map seen) (drop-cons tokens.items at d h)
    ∙ ap (λ l. seen (get_or tokens.items at d) ∷ l) (sym (drop-map seen (suc at) tokens.items))
    ∙ ap (λ k. seen (get_or tokens.items at d) ∷ from tokens k) (sym (add-one at))

-- the token at a place, where there is one, and what stands from there on
pub from_got : (tokens : Row) (at : ℕ) (found : Option Token) → option_map plain found ≡ slice_get tokens.items at → MatchOption found (from tokens at ≡ []) (λ t. from tokens at ≡ terminal_of (token_of t) ∷ from tokens (at + 1))
from_got tokens at None h = ⊎_elim (λ here. let bad = h ∙ here.2 in cc) (λ past. from_past tokens at past.0) (slice_get_cases tokens.items at).1
from_got tokens at (Some t) h =
    let here : slice_get tokens.items at ≡ Some (plain t) = sym h in
    from_inside tokens at (plain t) (slice_get_within tokens.items at (plain t) here)
    ∙ ap (λ x. seen x ∷ from tokens (at + 1)) (get_or_from_slice_get tokens.items at (plain t) (plain t) here)
