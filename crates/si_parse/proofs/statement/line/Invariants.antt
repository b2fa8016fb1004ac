use Rattle.std.proofs.Common.{◌≡◌, ◌-◌, length, map}
use Rattle.si_semantics.specs.Tokens as token
use Rattle.si_semantics.specs.Grammar.{max_depth, Sign, NEWLINE}
use Rattle.si_syntax.specs.Trees.{stmt_of}
use Rattle.si_parse.specs.inner.Lookahead.{after}
use Rattle.si_parse.specs.inner.Lists.{separated_by}
use Rattle.si_parse.specs.inner.Expressions.{expression_at}
use Rattle.si_parse.specs.inner.Statements.{with_statement, statement_by, line_by}
use Rattle.si_parse.specs.inner.Gives.{from}
use Rattle.si_parse.proofs.statement.line.Given as goal

abbrev pub invariant-loop-turn : goal.invariant-loop-turn
invariant-loop-turn l =
    separated_by with_statement (λ r. r.1) (statement_by (expression_at max_depth)) (after (Sign token.Semicolon)) (after NEWLINE) (length l.tokens.items - l._turn) (map stmt_of l.body.items) (from l.tokens l.at)
    ≡ line_by (expression_at max_depth) (map stmt_of l.fn.before.items) (from l.tokens l.start)
