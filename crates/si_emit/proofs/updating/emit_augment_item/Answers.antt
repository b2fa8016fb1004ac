use Rattle.std.proofs.Common.{[], ◌∷◌, ap, subst}
use Rattle.std.proofs.lemmas.Result.{on_ok_weaker}
use Rattle.si_syntax.specs.Trees.{expr_of, object_of, index_of}
use Rattle.si_slots.specs.Views.{Gains, words_now}
use Rattle.si_slots.proofs.Gained.{Extends-trans}
use Rattle.si_emit.proofs.LoopCode.{put_extends}
use Rattle.si_emit.proofs.UpdateCode.{update_gains}
use Rattle.si_emit.proofs.updating.emit_augment_item.Goals as goal

pub returns-clause-ok : goal.returns-clause-ok
returns-clause-ok c =
    let s = c.args.statement.now in
    let t = c.emit_operand.new.table in
    let operated = subst (λ i. Gains t c.put_named.new.self (i ∷ [])) (c.augmented.ensures.is (words_now t)) c.in_ok-put_named.ensures.ok in
    on_ok_weaker c.put-2.result
    (update_gains c.args.locals.now s.operator c.deref.result.now c.deref-2.result.now (object_of s.item) (index_of s.item) (expr_of s.value) c.in_ok-operand.operand (ap expr_of c.deref.ensures) (ap expr_of c.deref-2.ensures) c.requires
    c.in_ok-emit_expr.ensures.ok c.in_ok-emit_expr-2.ensures.ok c.in_ok-put.ensures.ok c.in_ok-operand.ensures.ok c.in_ok-operand.ensures.is operated)
    c.put-2.ensures.ok

pub returns-clause-extends : goal.returns-clause-extends
returns-clause-extends c =
    let evaluated = Extends-trans _ _ _ c.in_ok-emit_expr.ensures.extends (Extends-trans _ _ _ c.in_ok-emit_expr-2.ensures.extends c.in_ok-put.ensures.extends) in
    let operated = Extends-trans _ _ _ evaluated (Extends-trans _ _ _ c.in_ok-operand.ensures.extends c.in_ok-put_named.ensures.extends) in
    put_extends c.args.table.now c.put_named.new.self c.put-2.new.self c.put-2.result operated c.put-2.ensures.extends c.put-2.ensures.err
