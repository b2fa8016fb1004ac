use Rattle.si_syntax.specs.Trees.{expr_of}
use Rattle.si_emit.proofs.LoopCode.{entry_gains, entry_at}
use Rattle.si_emit.proofs.loops.emit_entry.Goals as goal

pub returns-clause-ok : goal.returns-clause-ok
returns-clause-ok c =
    entry_gains c.args.locals.now (expr_of c.args.items.now) c.in_ok-operand.operand _ c.requires c.in_ok-operand.ensures.ok c.in_ok-operand.ensures.is c.in_ok-put_named.ensures.ok c.in_ok-emit_bound.ensures.ok

pub returns-clause-at : goal.returns-clause-at
returns-clause-at c = entry_at c.args.locals.now (expr_of c.args.items.now) c.len-at.result c.len-at.ensures c.in_ok-operand.ensures.ok
