use Rattle.std.proofs.Common.{rules, ◌++◌, [], map, refl, sym, ap, ◌∙◌, arith}
use denote.Param.Weighed.{most, at_most}
use Rattle.std.proofs.lemmas.Result.{on_ok_weaker}
use Rattle.si_syntax.specs.declared.stmt.If.{out-If}
use Rattle.si_syntax.specs.declared.stmt.Stmt.{size-Stmt}
use Rattle.si_syntax.specs.declared.stmt.Stmt.TheViews as views
use Rattle.si_syntax.specs.Trees.{body_of, branch_of, finally_of, if_of, others_of, stmt_of}
use Rattle.si_syntax.proofs.Forms.{if_is, try_is, finally_is}
use Rattle.si_semantics.specs.Grammar.{elifs_of}
use Rattle.si_semantics.specs.Tree.{functions_in, functions_of}
use Rattle.si_slots.proofs.Gained.{Extends-trans}
use Rattle.si_slots.proofs.Growth.{Extends-same}
use Rattle.si_emit.proofs.Seen.{while_seen, for_seen, try_seen}
use Rattle.si_emit.proofs.Functions.{walk_from, stmt_stands, elif_stands, functions_none, walk_begins, walk_more, walk_gains, walk_number, stmts_rest, stmts_none, elifs_rest, elifs_last, locals_at, not_missing, found_is, define_functions, part_stands, rest_stands, all_stand, both_gain, both_pass, finally_front, clauses_rest, clauses_none, clause_stands, Handled}
use Rattle.si_emit.proofs.script.+functions.Goals as goal

pub emit_functions-loop-stmt-init : goal.emit_functions-loop-stmt-init
emit_functions-loop-stmt-init t c = record { walk = walk_begins _ _ c.args.table.now c.args.number.now c.requires; extends = Extends-same c.args.table.now }

pub emit_functions-loop-stmt-preserved : goal.emit_functions-loop-stmt-preserved
emit_functions-loop-stmt-preserved t c = record {
  walk = walk_more _ _ (stmts_rest c.args.body.now c.loop-stmt.stmt-index c.stmt-item.result c.loop-stmt-test.true (sym c.stmt-item.is)) c.in_ok-emit_functions_of.ensures.ok c.in_ok-emit_functions_of.ensures.number c.loop-stmt.invariant.walk;
  extends = Extends-trans _ _ _ c.loop-stmt.invariant.extends c.in_ok-emit_functions_of.ensures.extends;
}

pub emit_functions-returns-clause-ok : goal.emit_functions-returns-clause-ok
emit_functions-returns-clause-ok t c = walk_gains [] (stmts_none c.args.body.now c.loop-stmt.stmt-index c.loop-stmt-test.false) (functions_none c.loop-stmt.table) c.loop-stmt.invariant.walk

pub emit_functions-returns-clause-number : goal.emit_functions-returns-clause-number
emit_functions-returns-clause-number t c = walk_number [] (stmts_none c.args.body.now c.loop-stmt.stmt-index c.loop-stmt-test.false) (omega arith) c.loop-stmt.invariant.walk

pub emit_functions-emit_functions_of-requires : goal.emit_functions-emit_functions_of-requires
emit_functions-emit_functions_of-requires t c =
    (search (rules, at_most), stmt_stands _ _ c.args.body.now c.loop-stmt.stmt-index c.stmt-item.result c.stmt-item.is c.loop-stmt-test.true c.loop-stmt.invariant.walk.stands)

pub emit_functions_of-unreachable-requires : goal.emit_functions_of-unreachable-requires
emit_functions_of-unreachable-requires t c =
    not_missing _ c.locals.result _ _ c.locals.ensures (locals_at _ c.args.number.now _ _ c.in-Define.is c.requires) c.in_default.is

pub emit_functions_of-returns-in-Some-clause-ok : goal.emit_functions_of-returns-in-Some-clause-ok
emit_functions_of-returns-in-Some-clause-ok t c =
    let named = found_is _ c.locals.result _ _ c.in-Some.locals c.locals.ensures (locals_at _ c.args.number.now _ _ c.in-Define.is c.requires) c.in-Some.is in
    on_ok_weaker c.emit_function.result (define_functions _ _ _ c.in-Define.is named) c.emit_function.ensures.ok

pub emit_functions_of-emit_functions_of_if-requires : goal.emit_functions_of-emit_functions_of_if-requires
emit_functions_of-emit_functions_of_if-requires t c =
    let size = views.sized-If c.in-If.statement in
    let same = ap size-Stmt c.in-If.is in
    let inner = ap views.size-If c.deref.ensures in
    let seen = ap (λ s. functions_of (stmt_of s)) c.in-If.is ∙ ap functions_of (if_is c.in-If.statement) ∙ ap (λ x. functions_of (if_of x)) (sym c.deref.ensures) in
    (omega (arith, c.decreases, size, same, inner), all_stand _ _ _ _ seen c.requires)

pub emit_functions_of-emit_functions_of_try-requires : goal.emit_functions_of-emit_functions_of_try-requires
emit_functions_of-emit_functions_of_try-requires t c =
    let size = views.sized-Try c.in-Try.statement in
    let same = ap size-Stmt c.in-Try.is in
    (omega (arith, c.decreases, size, same), all_stand _ _ _ _ (ap (λ s. functions_of (stmt_of s)) c.in-Try.is ∙ ap functions_of (try_is c.in-Try.statement)) c.requires)

pub emit_functions_of-emit_functions_of_finally-requires : goal.emit_functions_of-emit_functions_of_finally-requires
emit_functions_of-emit_functions_of_finally-requires t c =
    let size = views.sized-Finally c.in-Finally.statement in
    let same = ap size-Stmt c.in-Finally.is in
    let inner = ap views.size-Finally c.deref-in-Finally.ensures in
    let seen = ap (λ s. functions_of (stmt_of s)) c.in-Finally.is ∙ ap functions_of (finally_is c.in-Finally.statement) ∙ ap (λ x. functions_of (finally_of x)) (sym c.deref-in-Finally.ensures) in
    (omega (arith, c.decreases, size, same, inner), all_stand _ _ _ _ seen c.requires)

pub emit_functions_of_if-emit_functions-requires : goal.emit_functions_of_if-emit_functions-requires
emit_functions_of_if-emit_functions-requires t c =
    let size = views.size_is-If c.args.statement.now in
    let first = views.size_is-Branch (out-If c.args.statement.now).first in
    let suite = ap (most size-Stmt) c.deref.ensures.value in
    let seen = ap (λ l. functions_in (body_of l) ++ functions_in (others_of c.args.statement.now)) (sym c.deref.ensures.value) in
    (omega (arith, c.decreases, size, first, suite), part_stands _ _ _ _ _ seen c.requires)

pub emit_functions_of_if-emit_functions_of_others-requires : goal.emit_functions_of_if-emit_functions_of_others-requires
emit_functions_of_if-emit_functions_of_others-requires t c =
    let seen = ap (λ l. functions_in (body_of l) ++ functions_in (others_of c.args.statement.now)) (sym c.deref.ensures.value) in
    (omega (arith, c.decreases), rest_stands _ _ _ _ _ _ seen c.in_ok-emit_functions.ensures.number c.requires)

pub emit_functions_of_if-returns-clause-ok : goal.emit_functions_of_if-returns-clause-ok
emit_functions_of_if-returns-clause-ok t c =
    let seen = ap (λ l. functions_in (body_of l) ++ functions_in (others_of c.args.statement.now)) (sym c.deref.ensures.value) in
    on_ok_weaker c.emit_functions_of_others.result (both_gain _ _ _ seen c.in_ok-emit_functions.ensures.ok) c.emit_functions_of_others.ensures.ok

pub emit_functions_of_while-emit_functions-requires : goal.emit_functions_of_while-emit_functions-requires
emit_functions_of_while-emit_functions-requires t c =
    let size = views.size_is-While c.args.statement.now in
    let suite = ap (most size-Stmt) c.deref.ensures.value in
    (omega (arith, c.decreases, size, suite), part_stands _ _ _ _ _ (ap functions_of (while_seen c.args.statement.now c.deref.result.now _ c.deref.ensures.value refl)) c.requires)

pub emit_functions_of_while-emit_functions-requires-2 : goal.emit_functions_of_while-emit_functions-requires-2
emit_functions_of_while-emit_functions-requires-2 t c =
    let size = views.size_is-While c.args.statement.now in
    let suite = ap (most size-Stmt) c.deref-2.ensures.value in
    let seen = ap functions_of (while_seen c.args.statement.now c.deref.result.now c.deref-2.result.now c.deref.ensures.value c.deref-2.ensures.value) in
    (omega (arith, c.decreases, size, suite), rest_stands _ _ _ _ _ _ seen c.in_ok-emit_functions.ensures.number c.requires)

pub emit_functions_of_while-returns-clause-ok : goal.emit_functions_of_while-returns-clause-ok
emit_functions_of_while-returns-clause-ok t c =
    let seen = ap functions_of (while_seen c.args.statement.now c.deref.result.now c.deref-2.result.now c.deref.ensures.value c.deref-2.ensures.value) in
    on_ok_weaker c.emit_functions-2.result (both_gain _ _ _ seen c.in_ok-emit_functions.ensures.ok) c.emit_functions-2.ensures.ok

pub emit_functions_of_while-returns-clause-number : goal.emit_functions_of_while-returns-clause-number
emit_functions_of_while-returns-clause-number t c =
    let seen = ap functions_of (while_seen c.args.statement.now c.deref.result.now c.deref-2.result.now c.deref.ensures.value c.deref-2.ensures.value) in
    on_ok_weaker c.emit_functions-2.result (both_pass _ _ _ _ _ _ seen c.in_ok-emit_functions.ensures.number) c.emit_functions-2.ensures.number

pub emit_functions_of_for-emit_functions-requires : goal.emit_functions_of_for-emit_functions-requires
emit_functions_of_for-emit_functions-requires t c =
    let size = views.size_is-For c.args.statement.now in
    let suite = ap (most size-Stmt) c.deref.ensures.value in
    (omega (arith, c.decreases, size, suite), part_stands _ _ _ _ _ (ap functions_of (for_seen c.args.statement.now c.deref.result.now _ c.deref.ensures.value refl)) c.requires)

pub emit_functions_of_for-emit_functions-requires-2 : goal.emit_functions_of_for-emit_functions-requires-2
emit_functions_of_for-emit_functions-requires-2 t c =
    let size = views.size_is-For c.args.statement.now in
    let suite = ap (most size-Stmt) c.deref-2.ensures.value in
    let seen = ap functions_of (for_seen c.args.statement.now c.deref.result.now c.deref-2.result.now c.deref.ensures.value c.deref-2.ensures.value) in
    (omega (arith, c.decreases, size, suite), rest_stands _ _ _ _ _ _ seen c.in_ok-emit_functions.ensures.number c.requires)

pub emit_functions_of_for-returns-clause-ok : goal.emit_functions_of_for-returns-clause-ok
emit_functions_of_for-returns-clause-ok t c =
    let seen = ap functions_of (for_seen c.args.statement.now c.deref.result.now c.deref-2.result.now c.deref.ensures.value c.deref-2.ensures.value) in
    on_ok_weaker c.emit_functions-2.result (both_gain _ _ _ seen c.in_ok-emit_functions.ensures.ok) c.emit_functions-2.ensures.ok

pub emit_functions_of_for-returns-clause-number : goal.emit_functions_of_for-returns-clause-number
emit_functions_of_for-returns-clause-number t c =
    let seen = ap functions_of (for_seen c.args.statement.now c.deref.result.now c.deref-2.result.now c.deref.ensures.value c.deref-2.ensures.value) in
    on_ok_weaker c.emit_functions-2.result (both_pass _ _ _ _ _ _ seen c.in_ok-emit_functions.ensures.number) c.emit_functions-2.ensures.number

pub emit_functions_of_others-loop-branch-init : goal.emit_functions_of_others-loop-branch-init
emit_functions_of_others-loop-branch-init t c =
    let same = ap (λ l. functions_in (elifs_of (map branch_of l) (body_of (out-If c.args.statement.now).last.items))) (sym c.deref-branch-items.ensures.value) in
    record { walk = walk_from _ same (walk_begins _ _ c.args.table.now c.args.number.now c.requires); extends = Extends-same c.args.table.now }

pub emit_functions_of_others-loop-branch-preserved : goal.emit_functions_of_others-loop-branch-preserved
emit_functions_of_others-loop-branch-preserved t c =
    let one = elifs_rest c.deref-branch-items.result.now c.loop-branch.branch-index c.branch-item.result (body_of (out-If c.args.statement.now).last.items) c.deref.result.now c.loop-branch-test.true (sym c.branch-item.is) c.deref.ensures.value in
    record {
      walk = walk_more _ _ one c.in_ok-emit_functions.ensures.ok c.in_ok-emit_functions.ensures.number c.loop-branch.invariant.walk;
      extends = Extends-trans _ _ _ c.loop-branch.invariant.extends c.in_ok-emit_functions.ensures.extends;
    }

pub emit_functions_of_others-returns-clause-ok : goal.emit_functions_of_others-returns-clause-ok
emit_functions_of_others-returns-clause-ok t c =
    let last = elifs_last c.deref-branch-items.result.now c.loop-branch.branch-index (out-If c.args.statement.now).last.items c.deref-2.result.now c.loop-branch-test.false c.deref-2.ensures.value in
    on_ok_weaker c.emit_functions-2.result (λ h. walk_gains _ last h c.loop-branch.invariant.walk) c.emit_functions-2.ensures.ok

pub emit_functions_of_others-returns-clause-number : goal.emit_functions_of_others-returns-clause-number
emit_functions_of_others-returns-clause-number t c =
    let last = elifs_last c.deref-branch-items.result.now c.loop-branch.branch-index (out-If c.args.statement.now).last.items c.deref-2.result.now c.loop-branch-test.false c.deref-2.ensures.value in
    on_ok_weaker c.emit_functions-2.result (λ goes. walk_number _ last goes c.loop-branch.invariant.walk) c.emit_functions-2.ensures.number

pub emit_functions_of_others-emit_functions-requires : goal.emit_functions_of_others-emit_functions-requires
emit_functions_of_others-emit_functions-requires t c =
    let size = views.size_is-If c.args.statement.now in
    let elifs = ap (most views.size-Branch) c.deref-branch-items.ensures.value in
    let below = at_most views.size-Branch c.deref-branch-items.result.now c.loop-branch.branch-index c.branch-item.result c.loop-branch-test.true in
    let item = ap views.size-Branch c.branch-item.is in
    let one = views.size_is-Branch c.branch-item.result in
    let suite = ap (most size-Stmt) c.deref.ensures.value in
    (omega (arith, c.decreases, size, elifs, below, item, one, suite), elif_stands _ _ _ c.loop-branch.branch-index c.branch-item.result (body_of (out-If c.args.statement.now).last.items) _ c.deref.ensures.value c.branch-item.is c.loop-branch-test.true c.loop-branch.invariant.walk.stands)

pub emit_functions_of_others-emit_functions-requires-2 : goal.emit_functions_of_others-emit_functions-requires-2
emit_functions_of_others-emit_functions-requires-2 t c =
    let size = views.size_is-If c.args.statement.now in
    let suite = ap (most size-Stmt) c.deref-2.ensures.value in
    let last = elifs_last c.deref-branch-items.result.now c.loop-branch.branch-index (out-If c.args.statement.now).last.items c.deref-2.result.now c.loop-branch-test.false c.deref-2.ensures.value in
    (omega (arith, c.decreases, size, suite), all_stand _ _ _ _ last c.loop-branch.invariant.walk.stands)

pub emit_functions_of_clauses-loop-clause-init : goal.emit_functions_of_clauses-loop-clause-init
emit_functions_of_clauses-loop-clause-init t c = record { walk = walk_begins _ _ c.args.table.now c.args.number.now c.requires; extends = Extends-same c.args.table.now }

pub emit_functions_of_clauses-loop-clause-preserved : goal.emit_functions_of_clauses-loop-clause-preserved
emit_functions_of_clauses-loop-clause-preserved t c =
    let one = clauses_rest c.args.clauses.now c.loop-clause.clause-index c.clause-item.result c.deref.result.now c.loop-clause-test.true (sym c.clause-item.is) c.deref.ensures.value in
    record {
      walk = walk_more _ _ one c.in_ok-emit_functions.ensures.ok c.in_ok-emit_functions.ensures.number c.loop-clause.invariant.walk;
      extends = Extends-trans _ _ _ c.loop-clause.invariant.extends c.in_ok-emit_functions.ensures.extends;
    }

pub emit_functions_of_clauses-returns-clause-ok : goal.emit_functions_of_clauses-returns-clause-ok
emit_functions_of_clauses-returns-clause-ok t c = walk_gains [] (clauses_none c.args.clauses.now c.loop-clause.clause-index c.loop-clause-test.false) (functions_none c.loop-clause.table) c.loop-clause.invariant.walk

pub emit_functions_of_clauses-returns-clause-number : goal.emit_functions_of_clauses-returns-clause-number
emit_functions_of_clauses-returns-clause-number t c = walk_number [] (clauses_none c.args.clauses.now c.loop-clause.clause-index c.loop-clause-test.false) (omega arith) c.loop-clause.invariant.walk

pub emit_functions_of_clauses-emit_functions-requires : goal.emit_functions_of_clauses-emit_functions-requires
emit_functions_of_clauses-emit_functions-requires t c =
    let below = at_most views.size-Clause c.args.clauses.now c.loop-clause.clause-index c.clause-item.result c.loop-clause-test.true in
    let item = ap views.size-Clause c.clause-item.is in
    let one = views.size_is-Clause c.clause-item.result in
    let suite = ap (most size-Stmt) c.deref.ensures.value in
    (omega (arith, c.decreases, below, item, one, suite), clause_stands _ _ c.args.clauses.now c.loop-clause.clause-index c.clause-item.result _ c.deref.ensures.value c.clause-item.is c.loop-clause-test.true c.loop-clause.invariant.walk.stands)

pub emit_functions_of_try-emit_functions-requires : goal.emit_functions_of_try-emit_functions-requires
emit_functions_of_try-emit_functions-requires t c =
    let size = views.size_is-Try c.args.statement.now in
    let suite = ap (most size-Stmt) c.deref.ensures.value in
    (omega (arith, c.decreases, size, suite), part_stands _ _ _ _ _ (ap functions_of (try_seen c.args.statement.now c.deref.result.now _ _ c.deref.ensures.value refl refl)) c.requires)

pub emit_functions_of_try-emit_functions_of_clauses-requires : goal.emit_functions_of_try-emit_functions_of_clauses-requires
emit_functions_of_try-emit_functions_of_clauses-requires t c =
    let size = views.size_is-Try c.args.statement.now in
    let clauses = ap (most views.size-Clause) c.deref-2.ensures.value in
    let seen = ap functions_of (try_seen c.args.statement.now c.deref.result.now _ c.deref-2.result.now c.deref.ensures.value c.deref-2.ensures.value refl) in
    (omega (arith, c.decreases, size, clauses), part_stands _ _ _ (Handled c.deref-2.result.now) _ refl (rest_stands _ _ _ _ _ _ seen c.in_ok-emit_functions.ensures.number c.requires))

pub emit_functions_of_try-emit_functions-requires-2 : goal.emit_functions_of_try-emit_functions-requires-2
emit_functions_of_try-emit_functions-requires-2 t c =
    let size = views.size_is-Try c.args.statement.now in
    let suite = ap (most size-Stmt) c.deref-3.ensures.value in
    let seen = ap functions_of (try_seen c.args.statement.now c.deref.result.now c.deref-3.result.now c.deref-2.result.now c.deref.ensures.value c.deref-2.ensures.value c.deref-3.ensures.value) in
    (omega (arith, c.decreases, size, suite), rest_stands _ _ _ _ (Handled c.deref-2.result.now) _ refl c.in_ok-emit_functions_of_clauses.ensures.number (rest_stands _ _ _ _ _ _ seen c.in_ok-emit_functions.ensures.number c.requires))

pub emit_functions_of_try-returns-clause-ok : goal.emit_functions_of_try-returns-clause-ok
emit_functions_of_try-returns-clause-ok t c =
    let seen = ap functions_of (try_seen c.args.statement.now c.deref.result.now c.deref-3.result.now c.deref-2.result.now c.deref.ensures.value c.deref-2.ensures.value c.deref-3.ensures.value) in
    on_ok_weaker c.emit_functions-2.result (λ h. both_gain _ _ _ seen c.in_ok-emit_functions.ensures.ok (both_gain _ (Handled c.deref-2.result.now) _ refl c.in_ok-emit_functions_of_clauses.ensures.ok h)) c.emit_functions-2.ensures.ok

pub emit_functions_of_try-returns-clause-number : goal.emit_functions_of_try-returns-clause-number
emit_functions_of_try-returns-clause-number t c =
    let seen = ap functions_of (try_seen c.args.statement.now c.deref.result.now c.deref-3.result.now c.deref-2.result.now c.deref.ensures.value c.deref-2.ensures.value c.deref-3.ensures.value) in
    on_ok_weaker c.emit_functions-2.result (λ goes. both_pass _ _ _ _ _ _ seen c.in_ok-emit_functions.ensures.number (both_pass _ _ _ _ (Handled c.deref-2.result.now) _ refl c.in_ok-emit_functions_of_clauses.ensures.number goes)) c.emit_functions-2.ensures.number

pub emit_functions_of_finally-emit_functions_of_try-requires : goal.emit_functions_of_finally-emit_functions_of_try-requires
emit_functions_of_finally-emit_functions_of_try-requires t c =
    let size = views.size_is-Finally c.args.statement.now in
    (omega (arith, c.decreases, size), part_stands _ _ _ _ _ (finally_front c.args.statement.now _ refl) c.requires)

pub emit_functions_of_finally-emit_functions-requires : goal.emit_functions_of_finally-emit_functions-requires
emit_functions_of_finally-emit_functions-requires t c =
    let size = views.size_is-Finally c.args.statement.now in
    let suite = ap (most size-Stmt) c.deref.ensures.value in
    (omega (arith, c.decreases, size, suite), rest_stands _ _ _ _ _ _ (finally_front c.args.statement.now c.deref.result.now c.deref.ensures.value) c.in_ok-emit_functions_of_try.ensures.number c.requires)

pub emit_functions_of_finally-returns-clause-ok : goal.emit_functions_of_finally-returns-clause-ok
emit_functions_of_finally-returns-clause-ok t c =
    on_ok_weaker c.emit_functions.result (both_gain _ _ _ (finally_front c.args.statement.now c.deref.result.now c.deref.ensures.value) c.in_ok-emit_functions_of_try.ensures.ok) c.emit_functions.ensures.ok

pub emit_functions_of_finally-returns-clause-number : goal.emit_functions_of_finally-returns-clause-number
emit_functions_of_finally-returns-clause-number t c =
    on_ok_weaker c.emit_functions.result (both_pass _ _ _ _ _ _ (finally_front c.args.statement.now c.deref.result.now c.deref.ensures.value) c.in_ok-emit_functions_of_try.ensures.number) c.emit_functions.ensures.number
