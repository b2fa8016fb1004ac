-- Targets, as the parser reads them.
use Rattle.std.specs.Prelude.{List, [], ◌∷◌, Option, Some, option_map}
use Rattle.si_semantics.specs.Tree.{Expr, Target, Targets}
use Rattle.si_semantics.specs.Tokens as token
use Rattle.si_semantics.specs.Grammar.{Terminal, Word, max_depth, target_of, more_targets, factor_level}
use Rattle.si_parse.specs.inner.Lookahead.{after}
use Rattle.si_parse.specs.inner.Lists.{then_read}
use Rattle.si_parse.specs.inner.Expressions.{expression_at}
use Rattle.si_parse.specs.inner.Unbracketed.{expressions_by}

-- targets in front of others, where those are targets
abbrev pub with_targets : List Target → Option Targets → Option Targets
with_targets [] more = more
with_targets (t ∷ ts) more = more_targets (Some t) (with_targets ts more)

-- the target that an expression is, where the word `in` stands after it
abbrev pub target_from : Expr → Option (List Terminal) → Option (Target × List Terminal)
target_from e more = then_read (target_of e) (λ t. option_map (λ rest. (t, rest)) more)

-- The targets of a `for`, and the terminals after the `in`. A target is of every level: one is asked at which no operator but `**` is read.
abbrev pub target_by : List Terminal → Option (Target × List Terminal)
target_by ts = then_read (expressions_by (expression_at max_depth) factor_level ts) (λ r. target_from r.0 (after (Word token.InWord) r.2))
