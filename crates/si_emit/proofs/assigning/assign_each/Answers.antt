use Rattle.std.proofs.Common.{sym}
use Rattle.std.proofs.lemmas.Result.{on_ok_weaker}
use Rattle.si_syntax.specs.Trees.{expr_of}
use Rattle.si_slots.proofs.Gained.{Extends-trans, locals_kept}
use Rattle.si_slots.proofs.Growth.{Extends-same}
use Rattle.si_emit.proofs.AssignCode.{next_each, all_gains}
use Rattle.si_emit.proofs.assigning.assign_each.Goals as goal

pub loop-target-init : goal.loop-target-init
loop-target-init c = record {
  gains = λ end h. h;
  names = locals_kept c.in_ok-emit_expr.ensures.ok c.requires.names;
  extends = Extends-same c.emit_expr.new.table;
}

pub loop-target-preserved : goal.loop-target-preserved
loop-target-preserved c =
    let old = c.loop-target.invariant in
    record {
      gains = next_each c.args.locals.now c.args.last.now c.args.others.now c.loop-target.target-index c.target-item.result c.loop-target-test.true (sym c.target-item.is) old.gains c.in_ok-put.ensures.ok c.in_ok-emit_target.ensures.ok;
      names = locals_kept c.in_ok-emit_target.ensures.ok (locals_kept c.in_ok-put.ensures.ok old.names);
      extends = Extends-trans _ _ _ old.extends (Extends-trans _ _ _ c.in_ok-put.ensures.extends c.in_ok-emit_target.ensures.extends);
    }

pub returns-clause-ok : goal.returns-clause-ok
returns-clause-ok c =
    on_ok_weaker c.emit_target-2.result
    (all_gains c.args.locals.now c.args.last.now c.args.others.now c.loop-target.target-index (expr_of c.args.value.now) c.requires.some c.loop-target-test.false c.loop-target.invariant.gains c.in_ok-emit_expr.ensures.ok)
    c.emit_target-2.ensures.ok

pub returns-clause-extends : goal.returns-clause-extends
returns-clause-extends c = Extends-trans _ _ _ c.in_ok-emit_expr.ensures.extends (Extends-trans _ _ _ c.loop-target.invariant.extends c.emit_target-2.ensures.extends)
