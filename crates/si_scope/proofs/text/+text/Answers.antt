use Rattle.std.proofs.Common.{◌+◌, map, drop, sym, ap, subst, ◌∙◌}
use Rattle.std.specs.Option.{option_and_then}
use Rattle.si_semantics.specs.Grammar.{clauses_of, elifs_of}
use Rattle.si_syntax.specs.declared.stmt.If.{out-If}
use Rattle.si_syntax.specs.Trees.{body_of, branch_of, clause_of}
use Rattle.si_scope.specs.Faults.{Leaves}
use Rattle.si_scope.specs.inner.Walk.{resolved_all, resolved_clauses}
use Rattle.si_scope.proofs.Texts.{next_stmt, next_elif, last_elif, next_clause, last_clause}
use Rattle.si_scope.proofs.Turns.{handed_on, fails_then}
use Rattle.si_scope.proofs.text.+text.Goals as goal

pub resolve_suite-returns-in_err-resolve_stmt : goal.resolve_suite-returns-in_err-resolve_stmt
resolve_suite-returns-in_err-resolve_stmt t c =
    handed_on c.resolve_stmt.new.locals.items c.from_residual.result c.in_err-resolve_stmt.field-0.0 _ c.from_residual.ensures.0 c.from_residual.ensures.1
    (fails_then c.in_err-resolve_stmt.field-0.0 _ _ _ (next_stmt c.args.suite.now c.loop-stmt.stmt-index c.stmt-item.result c.args.in_loop c.args.locals.now.items c.loop-stmt.locals.items c.loop-stmt-test.true (sym c.stmt-item.is) c.loop-stmt.invariant) c.in_err-resolve_stmt.ensures)

pub resolve_others-returns-in_err-resolve_suite : goal.resolve_others-returns-in_err-resolve_suite
resolve_others-returns-in_err-resolve_suite t c =
    let e = c.in_err-resolve_suite.field-0.0 in
    let last = body_of (out-If c.args.statement.now).last.items in
    let front = ap (λ l. resolved_all (elifs_of (map branch_of l) last) c.args.in_loop c.args.locals.now.items) (sym c.deref-branch-items.ensures.value) in
    let next = next_elif c.deref-branch-items.result.now c.loop-branch.branch-index c.branch-item.result last c.deref.result.now c.args.in_loop c.args.locals.now.items c.loop-branch.locals.items
    c.loop-branch-test.true (sym c.branch-item.is) c.deref.ensures.value c.loop-branch.invariant in
    handed_on c.resolve_suite.new.locals.items c.from_residual.result e _ c.from_residual.ensures.0 c.from_residual.ensures.1 (fails_then e _ _ _ (front ∙ next) c.in_err-resolve_suite.ensures)

pub resolve_others-loop-branch-preserved : goal.resolve_others-loop-branch-preserved
resolve_others-loop-branch-preserved t c =
    let bs = c.deref-branch-items.result.now in
    let last = body_of (out-If c.args.statement.now).last.items in
    next_elif bs c.loop-branch.branch-index c.branch-item.result last c.deref.result.now c.args.in_loop c.args.locals.now.items c.loop-branch.locals.items
    c.loop-branch-test.true (sym c.branch-item.is) c.deref.ensures.value c.loop-branch.invariant
    ∙ ap (option_and_then (resolved_all (elifs_of (map branch_of (drop (c.loop-branch.branch-index + 1) bs)) last) c.args.in_loop)) c.in_ok-resolve_suite.ensures

pub resolve_others-returns : goal.resolve_others-returns
resolve_others-returns t c =
    let n0 = c.args.locals.now.items in
    let last = body_of (out-If c.args.statement.now).last.items in
    let front = ap (λ l. resolved_all (elifs_of (map branch_of l) last) c.args.in_loop n0) (sym c.deref-branch-items.ensures.value) in
    let ends = last_elif c.deref-branch-items.result.now c.loop-branch.branch-index last c.args.in_loop n0 c.loop-branch.locals.items c.loop-branch-test.false c.loop-branch.invariant in
    subst (Leaves c.resolve_suite-2.new.locals.items c.resolve_suite-2.result)
    (sym (front ∙ ends ∙ ap (λ l. resolved_all (body_of l) c.args.in_loop c.loop-branch.locals.items) (sym c.deref-2.ensures.value))) c.resolve_suite-2.ensures

pub resolve_clauses-returns-in_err-resolve_suite : goal.resolve_clauses-returns-in_err-resolve_suite
resolve_clauses-returns-in_err-resolve_suite t c =
    let e = c.in_err-resolve_suite.field-0.0 in
    let next = next_clause c.args.clauses.now c.loop-clause.clause-index c.clause-item.result c.deref.result.now c.args.in_loop c.args.locals.now.items c.loop-clause.locals.items
    c.loop-clause-test.true (sym c.clause-item.is) c.deref.ensures.value c.loop-clause.invariant in
    handed_on c.resolve_suite.new.locals.items c.from_residual.result e _ c.from_residual.ensures.0 c.from_residual.ensures.1 (fails_then e _ _ _ next c.in_err-resolve_suite.ensures)

pub resolve_clauses-loop-clause-preserved : goal.resolve_clauses-loop-clause-preserved
resolve_clauses-loop-clause-preserved t c =
    let cs = c.args.clauses.now in
    next_clause cs c.loop-clause.clause-index c.clause-item.result c.deref.result.now c.args.in_loop c.args.locals.now.items c.loop-clause.locals.items
    c.loop-clause-test.true (sym c.clause-item.is) c.deref.ensures.value c.loop-clause.invariant
    ∙ ap (option_and_then (resolved_clauses (clauses_of (map clause_of (drop (c.loop-clause.clause-index + 1) cs))) c.args.in_loop)) c.in_ok-resolve_suite.ensures

pub resolve_clauses-returns : goal.resolve_clauses-returns
resolve_clauses-returns t c =
    last_clause c.args.clauses.now c.loop-clause.clause-index c.args.in_loop c.args.locals.now.items c.loop-clause.locals.items c.loop-clause-test.false c.loop-clause.invariant
