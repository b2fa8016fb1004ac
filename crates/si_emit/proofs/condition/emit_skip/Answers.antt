use Rattle.std.proofs.Common.{◌≤◌, false, map, length, sym, ap, subst, ◌∙◌}
use Rattle.std.specs.List.{AllByRecursion}
use Rattle.std.proofs.lemmas.Result.{IfOk-weaker}
use Rattle.si_semantics.specs.Grammar.{exprs_of}
use Rattle.si_semantics.specs.Tree as tree
use Rattle.si_syntax.specs.Trees.{expr_of}
use Rattle.si_emit.proofs.Branches.{test_after}
use Rattle.si_emit.proofs.Conditions.{simple_opens, or_opens, after_one, after_soon, after_last}
use Rattle.si_emit.proofs.condition.emit_skip.Goals as goal

pub returns-in_err-aim_all-in-Some-Or-default-default-clause-extends : goal.returns-in_err-aim_all-in-Some-Or-default-default-clause-extends
returns-in_err-aim_all-in-Some-Or-default-default-clause-extends c =
    let row = c.in_ok-ends-in-Some-Or-default-default in
    c.aim_all.ensures.extends c.args.table.now
    (subst (AllByRecursion (λ at. length c.args.table.now.lines ≤ at)) (sym c.deref.ensures.value) (after_soon (length c.args.table.now.lines) row.ends.items row.last row.ensures.after)) row.ensures.extends

pub returns-in_ok-aim_all-in-Some-Or-default-default-clause-ok : goal.returns-in_ok-aim_all-in-Some-Or-default-default-clause-ok
returns-in_ok-aim_all-in-Some-Or-default-default-clause-ok c =
    let row = c.in_ok-ends-in-Some-Or-default-default in
    let parts = c.in-Some-Or-default-default in
    let is = parts.ensures ∙ ap (λ o. tree.Boolean o (expr_of parts.first.now) (exprs_of (map expr_of parts.others.now))) parts.field-0-0-is in
    IfOk-weaker c.only.result _ _
    (λ places one. or_opens c.args.locals.now parts.first.now parts.others.now (expr_of c.args.expr.now) row.ends.items c.deref.result.now row.last is c.deref.ensures.value one row.ensures.at row.ensures.within c.in_ok-aim_all-in-Some-Or-default-default.ensures.ok)
    c.only.ensures

pub returns-in_ok-aim_all-in-Some-Or-default-default-clause-after : goal.returns-in_ok-aim_all-in-Some-Or-default-default-clause-after
returns-in_ok-aim_all-in-Some-Or-default-default-clause-after c =
    let row = c.in_ok-ends-in-Some-Or-default-default in
    IfOk-weaker c.only.result _ _ (λ places one. after_one (length c.args.table.now.lines) row.last places.items one (after_last (length c.args.table.now.lines) row.ends.items row.last row.ensures.after)) c.only.ensures

pub returns-in_ok-aim_all-in-Some-Or-default-default-clause-extends : goal.returns-in_ok-aim_all-in-Some-Or-default-default-clause-extends
returns-in_ok-aim_all-in-Some-Or-default-default-clause-extends c =
    let row = c.in_ok-ends-in-Some-Or-default-default in
    c.aim_all.ensures.extends c.args.table.now
    (subst (AllByRecursion (λ at. length c.args.table.now.lines ≤ at)) (sym c.deref.ensures.value) (after_soon (length c.args.table.now.lines) row.ends.items row.last row.ensures.after)) row.ensures.extends

pub returns-in_ok-at-in-None-clause-ok : goal.returns-in_ok-at-in-None-clause-ok
returns-in_ok-at-in-None-clause-ok c =
    IfOk-weaker c.only-in-None.result _ _
    (λ places one. simple_opens c.args.locals.now (expr_of c.args.expr.now) c.in_ok-at-in-None.at c.in-None.ensures one c.in_ok-at-in-None.ensures.at c.in_ok-at-in-None.ensures.ok)
    c.only-in-None.ensures

pub returns-in_ok-at-in-None-clause-after : goal.returns-in_ok-at-in-None-clause-after
returns-in_ok-at-in-None-clause-after c =
    IfOk-weaker c.only-in-None.result _ _
    (λ places one. after_one (length c.args.table.now.lines) c.in_ok-at-in-None.at places.items one (test_after c.args.locals.now 0 (expr_of c.args.expr.now) false c.in_ok-at-in-None.at c.in_ok-at-in-None.ensures.at c.in_ok-at-in-None.ensures.ok))
    c.only-in-None.ensures
