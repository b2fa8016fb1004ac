use Rattle.std.proofs.Common.{◌+◌, ◌-◌, length, sym, ◌∙◌, map, arith}
use Rattle.si_semantics.specs.Grammar.{max_nesting}
use Rattle.si_syntax.specs.Trees.{stmt_of}
use Rattle.si_parse.specs.inner.Lines.{block_at, is_end}
use Rattle.si_parse.specs.inner.Gives.{from}
use Rattle.si_parse.proofs.Turns.{many_on}
use Rattle.si_parse.proofs.statement.statements.Goals as goal

pub loop-turn-preserved : goal.loop-turn-preserved
loop-turn-preserved c =
    sym (many_on (block_at max_nesting) is_end (length c.args.tokens.now.items - c.loop-turn._turn) (length c.args.tokens.now.items - (c.loop-turn._turn + 1)) (map stmt_of c.loop-turn.body.items) (from c.args.tokens.now c.loop-turn.at)
    (omega arith) (sym c.is_end.ensures ∙ c.if-is_end.false) _ _ c.in_ok-longer.ensures)
    ∙ c.loop-turn.invariant
