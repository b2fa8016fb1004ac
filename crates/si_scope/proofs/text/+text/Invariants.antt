use Rattle.std.proofs.Common.{◌≡◌, map, drop}
use Rattle.si_semantics.specs.Grammar.{elifs_of, clauses_of}
use Rattle.si_syntax.specs.declared.stmt.If.{out-If}
use Rattle.si_syntax.specs.Trees.{body_of, branch_of, clause_of}
use Rattle.si_scope.specs.inner.Walk.{resolved_all, resolved_clauses}
use Rattle.si_scope.proofs.text.+text.Given as goal

-- the rest decides
abbrev pub invariant-resolve_suite-loop-stmt : goal.invariant-resolve_suite-loop-stmt
invariant-resolve_suite-loop-stmt l = resolved_all (body_of l.suite) l.in_loop l.initial.locals.items ≡ resolved_all (body_of (drop l.stmt-index l.suite)) l.in_loop l.locals.items

abbrev pub invariant-resolve_others-loop-branch : goal.invariant-resolve_others-loop-branch
invariant-resolve_others-loop-branch l =
    let last = body_of (out-If l.statement).last.items in
    resolved_all (elifs_of (map branch_of l.branch-items) last) l.in_loop l.initial.locals.items
    ≡ resolved_all (elifs_of (map branch_of (drop l.branch-index l.branch-items)) last) l.in_loop l.locals.items

abbrev pub invariant-resolve_clauses-loop-clause : goal.invariant-resolve_clauses-loop-clause
invariant-resolve_clauses-loop-clause l =
    resolved_clauses (clauses_of (map clause_of l.clauses)) l.in_loop l.initial.locals.items ≡ resolved_clauses (clauses_of (map clause_of (drop l.clause-index l.clauses))) l.in_loop l.locals.items
