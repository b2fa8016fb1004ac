use Rattle.std.proofs.Common.{◌≡◌, ◌-◌, [], length, map}
use Rattle.si_semantics.specs.Grammar.{max_depth}
use Rattle.si_syntax.specs.Trees.{expr_of, target_of}
use Rattle.si_parse.specs.inner.Lists.{many_by}
use Rattle.si_parse.specs.inner.Expressions.{expression_at}
use Rattle.si_parse.specs.inner.Statements.{chained_by, no_equal}
use Rattle.si_parse.specs.inner.Gives.{from}
use Rattle.si_parse.proofs.statement.assigned.Given as goal

abbrev pub invariant-loop-turn : goal.invariant-loop-turn
invariant-loop-turn l =
    many_by (chained_by (expression_at max_depth)) no_equal (length l.tokens.items - l._turn) (map target_of l.targets.items, expr_of l.value) (from l.tokens l.at)
    ≡ many_by (chained_by (expression_at max_depth)) no_equal (length (from l.tokens l.start)) ([], expr_of l.fn.first) (from l.tokens l.start)
