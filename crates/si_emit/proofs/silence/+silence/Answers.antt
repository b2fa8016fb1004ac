use Rattle.std.proofs.Common.{◌<◌, length, arith, sym}
use Rattle.si_plain.proofs.Lengths.{not_empty}
use Rattle.si_syntax.specs.Trees.{body_of}
use Rattle.si_syntax.specs.declared.stmt.Try.{out-Try}
use Rattle.si_emit.proofs.Silent.{silent_step, silent_found, clauses_loud}
use Rattle.si_emit.proofs.silence.+silence.Goals as goal

pub is_silent-loop-stmt-preserved : goal.is_silent-loop-stmt-preserved
is_silent-loop-stmt-preserved t c = silent_step c.args.body.now c.loop-stmt.stmt-index c.stmt-item.result _ _ c.loop-stmt-test.true (sym c.stmt-item.is) c.is_silent_stmt.ensures c.if-not-is_silent_stmt.false c.loop-stmt.invariant

pub is_silent-returns-then-not-is_silent_stmt : goal.is_silent-returns-then-not-is_silent_stmt
is_silent-returns-then-not-is_silent_stmt t c = silent_found c.args.body.now c.loop-stmt.stmt-index c.stmt-item.result _ _ c.loop-stmt-test.true (sym c.stmt-item.is) c.is_silent_stmt.ensures c.if-not-is_silent_stmt.true c.loop-stmt.invariant

pub is_silent_try-returns-then-not-is_empty : goal.is_silent_try-returns-then-not-is_empty
is_silent_try-returns-then-not-is_empty t c =
    let cs = (out-Try c.args.statement.now).clauses in
    let some : 0 < length cs.items = omega (arith, cs.ok.0, not_empty cs.len _ c.is_empty.ensures c.if-not-is_empty.true) in
    clauses_loud cs.items (body_of (out-Try c.args.statement.now).body.items) (body_of (out-Try c.args.statement.now).last.items) some
