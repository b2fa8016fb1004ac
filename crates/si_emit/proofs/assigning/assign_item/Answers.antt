use Rattle.std.proofs.Common.{sym, ap, subst, ◌∙◌, ◌++◌}
use Rattle.std.proofs.lemmas.Result.{on_ok_weaker}
use Rattle.si_semantics.specs.Tree as tree
use Rattle.si_syntax.specs.Trees.{expr_of, object_of, index_of}
use Rattle.si_slots.specs.Machine as machine
use Rattle.si_slots.specs.Code.{in_place, expr_code, target_code}
use Rattle.si_slots.specs.Views.{Gains, words_now}
use Rattle.si_slots.proofs.Gained.{Gains-append}
use Rattle.si_emit.specs.inner.Stores.{one_or}
use Rattle.si_emit.proofs.AssignCode.{store_is}
use Rattle.si_emit.proofs.assigning.assign_item.Goals as goal

pub returns-in-Some-clause-ok : goal.returns-in-Some-clause-ok
returns-in-Some-clause-ok c =
    let ls = c.args.locals.now in let a = expr_of c.args.value.now in let b = object_of c.args.item.now in let i = index_of c.args.item.now in
    let code = expr_code ls 0 (machine.ToTemporary 0) a ++ target_code ls 0 (tree.Item b i) in
    let one = store_is (in_place ls a) (in_place ls b) (in_place ls i) code ∙ ap (λ o. one_or o code) (sym (c.in-Some.ensures.is (words_now c.args.table.now) c.requires)) in
    on_ok_weaker c.put_named.result (λ h. subst (Gains c.args.table.now c.put_named.new.self) (sym one) h) c.put_named.ensures.ok

pub returns-in_ok-emit_expr-in-None-clause-ok : goal.returns-in_ok-emit_expr-in-None-clause-ok
returns-in_ok-emit_expr-in-None-clause-ok c =
    let ls = c.args.locals.now in let a = expr_of c.args.value.now in let b = object_of c.args.item.now in let i = index_of c.args.item.now in
    let code = expr_code ls 0 (machine.ToTemporary 0) a ++ target_code ls 0 (tree.Item b i) in
    let none = store_is (in_place ls a) (in_place ls b) (in_place ls i) code ∙ ap (λ o. one_or o code) (sym (c.in-None.ensures.is (words_now c.args.table.now) c.requires)) in
    on_ok_weaker c.emit_store.result
    (λ h. subst (Gains c.args.table.now c.emit_store.new.table) (sym none) (Gains-append _ _ _ (expr_code ls 0 (machine.ToTemporary 0) a) (target_code ls 0 (tree.Item b i)) c.in_ok-emit_expr-in-None.ensures.ok h))
    c.emit_store.ensures.ok
