use Rattle.std.proofs.Common.{◌≡◌, ◌-◌, length, map, string_bytes}
use Rattle.si_semantics.specs.Tokens as token
use Rattle.si_semantics.specs.Grammar.{Sign}
use Rattle.si_parse.specs.inner.Lookahead.{after}
use Rattle.si_parse.specs.inner.Lists.{separated_by}
use Rattle.si_parse.specs.inner.Names.{with_parameter, name_at, listed_by}
use Rattle.si_parse.specs.inner.Gives.{from}
use Rattle.si_parse.proofs.name.listed.Given as goal

abbrev pub invariant-loop-turn : goal.invariant-loop-turn
invariant-loop-turn l =
    separated_by with_parameter (λ r. r.1) name_at (after (Sign token.Comma)) (after (Sign token.RightParenthesis)) (length l.tokens.items - l._turn) (map string_bytes l.names.items) (from l.tokens l.at) ≡ listed_by (from l.tokens l.start)
