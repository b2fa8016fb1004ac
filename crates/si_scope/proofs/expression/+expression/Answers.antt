use Rattle.std.proofs.Common.{sym, map, ◌++◌, ap, refl}
use Rattle.std.proofs.lemmas.Result.{on_ok_weaker}
use Rattle.si_semantics.specs.Grammar.{exprs_of, chain_of}
use Rattle.si_semantics.specs.Scope.{names_of, names_of_all, names_of_chain}
use Rattle.si_syntax.specs.declared.expr.Expr.{Expr}
use Rattle.si_syntax.specs.Trees.{expr_of, link_of}
use Rattle.si_scope.proofs.Used.{binary_names, subscript_names, call_names, boolean_names, compare_names, conditional_names, both_used, next_used, last_used, next_link, last_link}
use Rattle.si_scope.proofs.expression.+expression.Goals as goal

pub use_all-loop-expr-preserved : goal.use_all-loop-expr-preserved
use_all-loop-expr-preserved t c =
    next_used c.args.exprs.now c.loop-expr.expr-index c.expr-item.result c.args.used.now c.loop-expr.used c.use_names.new.used c.loop-expr-test.true (sym c.expr-item.is) c.loop-expr.invariant c.in_ok-use_names.ensures

pub use_all-returns : goal.use_all-returns
use_all-returns t c = last_used c.args.exprs.now c.loop-expr.expr-index c.args.used.now c.loop-expr.used c.loop-expr-test.false c.loop-expr.invariant

pub use_chain-loop-operand-preserved : goal.use_chain-loop-operand-preserved
use_chain-loop-operand-preserved t c =
    next_link c.args.links.now c.loop-operand.operand-index c.loop-operand-item.result c.args.used.now c.loop-operand.used c.use_names.new.used c.loop-operand-test.true (sym c.loop-operand-item.is) c.loop-operand.invariant c.in_ok-use_names.ensures

pub use_chain-returns : goal.use_chain-returns
use_chain-returns t c = last_link c.args.links.now c.loop-operand.operand-index c.args.used.now c.loop-operand.used c.loop-operand-test.false c.loop-operand.invariant

pub use_names-returns-in_ok-use_names-in-Binary : goal.use_names-returns-in_ok-use_names-in-Binary
use_names-returns-in_ok-use_names-in-Binary t c =
    on_ok_weaker c.use_names-in-Binary-2.result
    (both_used _ _ _ _ _ _ _ _ (binary_names c.in-Binary.field-0 c.in-Binary.left c.in-Binary.right c.args.expr.now c.in-Binary.is)
    (ap (λ (e : Expr). names_of (expr_of e)) c.deref-in-Binary.ensures) (ap (λ (e : Expr). names_of (expr_of e)) c.deref-in-Binary-2.ensures) c.in_ok-use_names-in-Binary.ensures)
    c.use_names-in-Binary-2.ensures

pub use_names-returns-in_ok-use_names-in-Call : goal.use_names-returns-in_ok-use_names-in-Call
use_names-returns-in_ok-use_names-in-Call t c =
    on_ok_weaker c.use_all.result
    (both_used _ _ _ _ _ _ _ _ (call_names c.in-Call.callee c.in-Call.field-1 c.in-Call.arguments c.args.expr.now c.in-Call.is)
    (ap (λ (e : Expr). names_of (expr_of e)) c.deref-in-Call.ensures) (ap (λ es. names_of_all (exprs_of (map expr_of es))) c.deref-in-Call-2.ensures.value) c.in_ok-use_names-in-Call.ensures)
    c.use_all.ensures

pub use_names-returns-in_ok-use_names-in-Subscript : goal.use_names-returns-in_ok-use_names-in-Subscript
use_names-returns-in_ok-use_names-in-Subscript t c =
    on_ok_weaker c.use_names-in-Subscript-2.result
    (both_used _ _ _ _ _ _ _ _ (subscript_names c.in-Subscript.object c.in-Subscript.index c.args.expr.now c.in-Subscript.is)
    (ap (λ (e : Expr). names_of (expr_of e)) c.deref-in-Subscript.ensures) (ap (λ (e : Expr). names_of (expr_of e)) c.deref-in-Subscript-2.ensures) c.in_ok-use_names-in-Subscript.ensures)
    c.use_names-in-Subscript-2.ensures

pub use_names-returns-in_ok-use_names-in-Boolean : goal.use_names-returns-in_ok-use_names-in-Boolean
use_names-returns-in_ok-use_names-in-Boolean t c =
    on_ok_weaker c.use_all-in-Boolean.result
    (both_used _ _ _ _ _ _ _ _ (boolean_names c.in-Boolean.field-0 c.in-Boolean.first c.in-Boolean.others c.args.expr.now c.in-Boolean.is)
    (ap (λ (e : Expr). names_of (expr_of e)) c.deref-in-Boolean.ensures) (ap (λ es. names_of_all (exprs_of (map expr_of es))) c.deref-in-Boolean-2.ensures.value) c.in_ok-use_names-in-Boolean.ensures)
    c.use_all-in-Boolean.ensures

pub use_names-returns-in_ok-use_names-in-Compare : goal.use_names-returns-in_ok-use_names-in-Compare
use_names-returns-in_ok-use_names-in-Compare t c =
    on_ok_weaker c.use_chain.result
    (both_used _ _ _ _ _ _ _ _ (compare_names c.in-Compare.first c.in-Compare.links c.args.expr.now c.in-Compare.is)
    (ap (λ (e : Expr). names_of (expr_of e)) c.deref-in-Compare.ensures) (ap (λ ls. names_of_chain (chain_of (map link_of ls))) c.deref-in-Compare-2.ensures.value) c.in_ok-use_names-in-Compare.ensures)
    c.use_chain.ensures

pub use_names-returns-in_ok-use_names-in-Conditional-2 : goal.use_names-returns-in_ok-use_names-in-Conditional-2
use_names-returns-in_ok-use_names-in-Conditional-2 t c =
    let parts = c.in-Conditional in
    let front = both_used (names_of (expr_of parts.test.value) ++ names_of (expr_of parts.value.value)) _ _ _ _ _ _ _ refl
    (ap (λ (e : Expr). names_of (expr_of e)) c.deref-in-Conditional.ensures) (ap (λ (e : Expr). names_of (expr_of e)) c.deref-in-Conditional-2.ensures) c.in_ok-use_names-in-Conditional.ensures c.in_ok-use_names-in-Conditional-2.ensures in
    on_ok_weaker c.use_names-in-Conditional-3.result
    (both_used _ _ _ _ _ _ _ _ (conditional_names parts.test parts.value parts.other c.args.expr.now parts.is) refl (ap (λ (e : Expr). names_of (expr_of e)) c.deref-in-Conditional-3.ensures) front)
    c.use_names-in-Conditional-3.ensures
