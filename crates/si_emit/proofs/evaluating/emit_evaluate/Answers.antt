use Rattle.std.proofs.Common.{subst}
use Rattle.std.proofs.lemmas.Result.{on_ok_weaker}
use Rattle.si_syntax.specs.Trees.{expr_of}
use Rattle.si_slots.specs.Code.{evaluate_code, expr_code}
use Rattle.si_slots.specs.Machine as machine
use Rattle.si_slots.specs.Views.{Gains, words_now}
use Rattle.si_emit.proofs.evaluating.emit_evaluate.Goals as goal

pub returns-in-None-clause-ok : goal.returns-in-None-clause-ok
returns-in-None-clause-ok c =
    let code = expr_code c.args.locals.now 0 machine.ToNowhere (expr_of c.args.expr.now) in
    on_ok_weaker c.emit_expr-in-None.result
    (λ h. subst (λ o. Gains c.args.table.now c.emit_expr-in-None.new.table (evaluate_code o code)) (c.in-None.ensures.is (words_now c.args.table.now) c.requires) h) c.emit_expr-in-None.ensures.ok
