use Rattle.std.proofs.Common.{◌+◌, map, drop, sym, ap, subst, ◌∙◌}
use Rattle.std.specs.Option.{option_and_then}
use Rattle.si_semantics.specs.Grammar.{clauses_of, elifs_of}
use Rattle.si_syntax.specs.declared.stmt.If.{out-If}
use Rattle.si_syntax.specs.Trees.{body_of, branch_of, clause_of}
use Rattle.si_scope.specs.Faults.{Leaves}
use Rattle.si_scope.specs.inner.Walk.{after_all, after_clauses}
use Rattle.si_scope.proofs.Turns.{handed_on, fails_then, next_stmt, next_elif, last_elif, next_clause, last_clause}
use Rattle.si_scope.proofs.suite.+suite.Goals as goal

pub see_suite-returns-in_err-see_stmt : goal.see_suite-returns-in_err-see_stmt
see_suite-returns-in_err-see_stmt t c =
    let p = c.args.place in
    handed_on c.see_stmt.new.seen c.from_residual.result c.in_err-see_stmt.field-0.0 _ c.from_residual.ensures.0 c.from_residual.ensures.1
    (fails_then c.in_err-see_stmt.field-0.0 _ _ _ (next_stmt c.args.suite.now c.loop-stmt.stmt-index c.stmt-item.result p.in_loop p.may_return c.args.seen.now c.loop-stmt.seen c.loop-stmt-test.true (sym c.stmt-item.is) c.loop-stmt.invariant) c.in_err-see_stmt.ensures)

pub see_others-returns-in_err-see_branch : goal.see_others-returns-in_err-see_branch
see_others-returns-in_err-see_branch t c =
    let p = c.args.place in
    let e = c.in_err-see_branch.field-0.0 in
    let last = body_of (out-If c.args.statement.now).last.items in
    let front = ap (λ l. after_all (elifs_of (map branch_of l) last) p.in_loop p.may_return c.args.seen.now) (sym c.deref-branch-items.ensures.value) in
    let next = next_elif c.deref-branch-items.result.now c.loop-branch.branch-index c.branch-item.result last p.in_loop p.may_return c.args.seen.now c.loop-branch.seen c.loop-branch-test.true (sym c.branch-item.is) c.loop-branch.invariant in
    handed_on c.see_branch.new.seen c.from_residual.result e _ c.from_residual.ensures.0 c.from_residual.ensures.1 (fails_then e _ _ _ (front ∙ next) c.in_err-see_branch.ensures)

pub see_others-loop-branch-preserved : goal.see_others-loop-branch-preserved
see_others-loop-branch-preserved t c =
    let p = c.args.place in
    let last = body_of (out-If c.args.statement.now).last.items in
    next_elif c.deref-branch-items.result.now c.loop-branch.branch-index c.branch-item.result last p.in_loop p.may_return c.args.seen.now c.loop-branch.seen c.loop-branch-test.true (sym c.branch-item.is) c.loop-branch.invariant
    ∙ ap (option_and_then (after_all (elifs_of (map branch_of (drop (c.loop-branch.branch-index + 1) c.deref-branch-items.result.now)) last) p.in_loop p.may_return)) c.in_ok-see_branch.ensures

pub see_others-returns : goal.see_others-returns
see_others-returns t c =
    let p = c.args.place in
    let last = body_of (out-If c.args.statement.now).last.items in
    let front = ap (λ l. after_all (elifs_of (map branch_of l) last) p.in_loop p.may_return c.args.seen.now) (sym c.deref-branch-items.ensures.value) in
    let ends = last_elif c.deref-branch-items.result.now c.loop-branch.branch-index last p.in_loop p.may_return c.args.seen.now c.loop-branch.seen c.loop-branch-test.false c.loop-branch.invariant in
    subst (Leaves c.see_suite.new.seen c.see_suite.result) (sym (front ∙ ends ∙ ap (λ l. after_all (body_of l) p.in_loop p.may_return c.loop-branch.seen) (sym c.deref.ensures.value))) c.see_suite.ensures

pub see_clauses-returns-in_err-see_suite : goal.see_clauses-returns-in_err-see_suite
see_clauses-returns-in_err-see_suite t c =
    let p = c.args.place in
    let e = c.in_err-see_suite.field-0.0 in
    let next = next_clause c.args.clauses.now c.loop-clause.clause-index c.clause-item.result c.deref.result.now p.in_loop p.may_return c.args.seen.now c.loop-clause.seen c.use_value.new.self c.bind_any.new.self
    c.loop-clause-test.true (sym c.clause-item.is) c.deref.ensures.value c.in_ok-use_value.ensures c.in_ok-bind_any.ensures c.loop-clause.invariant in
    handed_on c.see_suite.new.seen c.from_residual-in_err-see_suite.result e _ c.from_residual-in_err-see_suite.ensures.0 c.from_residual-in_err-see_suite.ensures.1
    (fails_then e _ _ _ next c.in_err-see_suite.ensures)

pub see_clauses-loop-clause-preserved : goal.see_clauses-loop-clause-preserved
see_clauses-loop-clause-preserved t c =
    let p = c.args.place in
    let cs = c.args.clauses.now in
    next_clause cs c.loop-clause.clause-index c.clause-item.result c.deref.result.now p.in_loop p.may_return c.args.seen.now c.loop-clause.seen c.use_value.new.self c.bind_any.new.self
    c.loop-clause-test.true (sym c.clause-item.is) c.deref.ensures.value c.in_ok-use_value.ensures c.in_ok-bind_any.ensures c.loop-clause.invariant
    ∙ ap (option_and_then (after_clauses (clauses_of (map clause_of (drop (c.loop-clause.clause-index + 1) cs))) p.in_loop p.may_return)) c.in_ok-see_suite.ensures

pub see_clauses-returns : goal.see_clauses-returns
see_clauses-returns t c =
    let p = c.args.place in
    last_clause c.args.clauses.now c.loop-clause.clause-index p.in_loop p.may_return c.args.seen.now c.loop-clause.seen c.loop-clause-test.false c.loop-clause.invariant
