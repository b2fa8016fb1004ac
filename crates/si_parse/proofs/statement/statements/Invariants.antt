use Rattle.std.proofs.Common.{◌≡◌, ◌-◌, length, map}
use Rattle.si_semantics.specs.Grammar.{max_nesting}
use Rattle.si_syntax.specs.Trees.{stmt_of}
use Rattle.si_parse.specs.inner.Lists.{many_by}
use Rattle.si_parse.specs.inner.Lines.{block_at, is_end, module_by}
use Rattle.si_parse.specs.inner.Gives.{from}
use Rattle.si_parse.proofs.statement.statements.Given as goal

abbrev pub invariant-loop-turn : goal.invariant-loop-turn
invariant-loop-turn l =
    many_by (block_at max_nesting) is_end (length l.tokens.items - l._turn) (map stmt_of l.body.items) (from l.tokens l.at) ≡ module_by (from l.tokens 0)
