use Rattle.std.proofs.Common.{sym, subst, ◌∙◌, length}
use Rattle.std.proofs.lemmas.Result.{on_ok_weaker}
use Rattle.si_plain.proofs.Lengths.{empty, not_empty}
use Rattle.si_syntax.specs.Trees.{expr_of}
use Rattle.si_slots.specs.Views.{Gains}
use Rattle.si_emit.proofs.Tried.{no_items}
use Rattle.si_emit.proofs.AssignCode.{none_code, one_code, more_code}
use Rattle.si_emit.proofs.assigning.emit_assign.Goals as goal

pub returns-then-is_empty-clause-ok : goal.returns-then-is_empty-clause-ok
returns-then-is_empty-clause-ok c =
    let s = c.args.statement.now in let others = c.in-Some.others.now in
    let none = no_items others (empty (length others) _ c.is_empty.ensures c.if-is_empty.true) in
    on_ok_weaker c.assign_one.result
    (λ h. subst (Gains c.args.table.now c.assign_one.new.table) (sym (one_code c.args.locals.now s.targets.items others c.in-Some.last.now (expr_of s.value) (sym c.deref.ensures.value ∙ c.in-Some.ensures) none)) h)
    c.assign_one.ensures.ok

pub assign_each-requires : goal.assign_each-requires
assign_each-requires c = record { names = c.requires; some = not_empty (length c.in-Some.others.now) _ c.is_empty.ensures c.if-is_empty.false }

pub returns-else-is_empty-clause-ok : goal.returns-else-is_empty-clause-ok
returns-else-is_empty-clause-ok c =
    let s = c.args.statement.now in
    on_ok_weaker c.assign_each.result
    (λ h. subst (Gains c.args.table.now c.assign_each.new.table) (sym (more_code c.args.locals.now s.targets.items c.in-Some.others.now c.in-Some.last.now (expr_of s.value) (sym c.deref.ensures.value ∙ c.in-Some.ensures))) h)
    c.assign_each.ensures.ok

pub returns-in-None-clause-ok : goal.returns-in-None-clause-ok
returns-in-None-clause-ok c =
    let s = c.args.statement.now in
    on_ok_weaker c.emit_expr.result
    (λ h. subst (Gains c.args.table.now c.emit_expr.new.table) (sym (none_code c.args.locals.now s.targets.items (expr_of s.value) (sym c.deref.ensures.value ∙ c.in-None.ensures))) h)
    c.emit_expr.ensures.ok
