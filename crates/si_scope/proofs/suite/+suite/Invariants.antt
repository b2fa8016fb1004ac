use Rattle.std.proofs.Common.{◌≡◌, map, drop}
use Rattle.si_semantics.specs.Grammar.{elifs_of, clauses_of}
use Rattle.si_syntax.specs.declared.stmt.If.{out-If}
use Rattle.si_syntax.specs.Trees.{body_of, branch_of, clause_of}
use Rattle.si_scope.specs.inner.Walk.{after_all, after_clauses}
use Rattle.si_scope.proofs.suite.+suite.Given as goal

-- the rest decides
abbrev pub invariant-see_suite-loop-stmt : goal.invariant-see_suite-loop-stmt
invariant-see_suite-loop-stmt l =
    after_all (body_of l.suite) l.place.in_loop l.place.may_return l.initial.seen ≡ after_all (body_of (drop l.stmt-index l.suite)) l.place.in_loop l.place.may_return l.seen

abbrev pub invariant-see_others-loop-branch : goal.invariant-see_others-loop-branch
invariant-see_others-loop-branch l =
    let last = body_of (out-If l.statement).last.items in
    after_all (elifs_of (map branch_of l.branch-items) last) l.place.in_loop l.place.may_return l.initial.seen
    ≡ after_all (elifs_of (map branch_of (drop l.branch-index l.branch-items)) last) l.place.in_loop l.place.may_return l.seen

abbrev pub invariant-see_clauses-loop-clause : goal.invariant-see_clauses-loop-clause
invariant-see_clauses-loop-clause l =
    after_clauses (clauses_of (map clause_of l.clauses)) l.place.in_loop l.place.may_return l.initial.seen
    ≡ after_clauses (clauses_of (map clause_of (drop l.clause-index l.clauses))) l.place.in_loop l.place.may_return l.seen
