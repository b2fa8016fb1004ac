use Rattle.std.proofs.Common.{◌≤◌, length, sym, ap, subst, ◌∙◌, map}
use Rattle.std.specs.List.{AllByRecursion}
use Rattle.si_semantics.specs.Grammar.{exprs_of}
use Rattle.si_semantics.specs.Tree as tree
use Rattle.si_syntax.specs.Trees.{expr_of}
use Rattle.si_emit.proofs.Conditions.{and_repeats, and_last, after_soon}
use Rattle.si_emit.proofs.condition.emit_repeat.Goals as goal

pub returns-in_err-aim_all-in-Some-And-default-default-clause-extends : goal.returns-in_err-aim_all-in-Some-And-default-default-clause-extends
returns-in_err-aim_all-in-Some-And-default-default-clause-extends c =
    let row = c.in_ok-ends-in-Some-And-default-default in
    c.aim_all.ensures.extends c.args.table.now
    (subst (AllByRecursion (λ at. length c.args.table.now.lines ≤ at)) (sym c.deref.ensures.value) (after_soon (length c.args.table.now.lines) row.ends.items row.last row.ensures.after)) row.ensures.extends

pub returns-in_ok-aim_all-in-Some-And-default-default-clause-ok : goal.returns-in_ok-aim_all-in-Some-And-default-default-clause-ok
returns-in_ok-aim_all-in-Some-And-default-default-clause-ok c =
    let row = c.in_ok-ends-in-Some-And-default-default in
    let parts = c.in-Some-And-default-default in
    let is = parts.ensures ∙ ap (λ o. tree.Boolean o (expr_of parts.first.now) (exprs_of (map expr_of parts.others.now))) parts.field-0-0-is in
    and_repeats c.args.locals.now parts.first.now parts.others.now (expr_of c.args.expr.now) row.ends.items c.deref.result.now is c.deref.ensures.value row.ensures.within c.in_ok-aim_all-in-Some-And-default-default.ensures.ok

pub returns-in_ok-aim_all-in-Some-And-default-default-clause-at : goal.returns-in_ok-aim_all-in-Some-And-default-default-clause-at
returns-in_ok-aim_all-in-Some-And-default-default-clause-at c =
    let row = c.in_ok-ends-in-Some-And-default-default in
    let parts = c.in-Some-And-default-default in
    and_last c.args.locals.now parts.first.now parts.others.now row.ends.items c.deref.result.now row.last c.deref.ensures.value row.ensures.at row.ensures.within c.in_ok-aim_all-in-Some-And-default-default.ensures.ok

pub returns-in_ok-aim_all-in-Some-And-default-default-clause-extends : goal.returns-in_ok-aim_all-in-Some-And-default-default-clause-extends
returns-in_ok-aim_all-in-Some-And-default-default-clause-extends c =
    let row = c.in_ok-ends-in-Some-And-default-default in
    c.aim_all.ensures.extends c.args.table.now
    (subst (AllByRecursion (λ at. length c.args.table.now.lines ≤ at)) (sym c.deref.ensures.value) (after_soon (length c.args.table.now.lines) row.ends.items row.last row.ensures.after)) row.ensures.extends
