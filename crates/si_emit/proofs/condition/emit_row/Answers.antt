use Rattle.std.proofs.Common.{refl, sym}
use Rattle.si_syntax.specs.Trees.{expr_of}
use Rattle.si_slots.proofs.Gained.{Extends-trans, locals_kept}
use Rattle.si_emit.proofs.Branches.{MakesAll-step}
use Rattle.si_emit.proofs.Conditions.{row_step, row_past, row_within, all_after}
use Rattle.si_emit.proofs.condition.emit_row.Goals as goal

pub loop-other-preserved : goal.loop-other-preserved
loop-other-preserved c =
    let old = c.loop-other.invariant in
    let ls = c.args.locals.now in
    record {
      due = λ early g rest leads. MakesAll-step c.loop-other.jumps.items _ _ _ _ c.in_ok-at.at c.in_ok-push.ensures.items
          (row_step ls c.args.soon early g rest leads c.loop-other.operand.now c.args.others.now c.loop-other.other-index c.other-item.result c.in_ok-at.at c.loop-other-test.true (sym c.other-item.is) c.in_ok-at.ensures.at c.in_ok-at.ensures.ok)
          (old.due early g rest leads);
      after = all_after ls c.args.soon (expr_of c.loop-other.operand.now) c.loop-other.jumps.items c.in_ok-at.at c.in_ok-push.ensures.items c.in_ok-at.ensures.at c.in_ok-at.ensures.ok old.extends old.after;
      names = locals_kept c.in_ok-at.ensures.ok old.names;
      extends = Extends-trans _ _ _ old.extends c.in_ok-at.ensures.extends;
    }

pub returns-clause-past : goal.returns-clause-past
returns-clause-past c =
    row_past c.args.locals.now c.args.soon c.args.when c.loop-other.jumps.items c.args.first.now c.args.others.now c.loop-other.operand.now c.loop-other.other-index c.in_ok-last.last c.loop-other-test.false c.loop-other.invariant.due c.in_ok-last.ensures.at c.in_ok-last.ensures.ok

pub returns-clause-within : goal.returns-clause-within
returns-clause-within c =
    row_within c.args.locals.now c.args.soon c.args.when c.loop-other.jumps.items c.args.first.now c.args.others.now c.loop-other.operand.now c.loop-other.other-index c.loop-other-test.false c.loop-other.invariant.due c.in_ok-last.ensures.ok

pub returns-clause-after : goal.returns-clause-after
returns-clause-after c =
    all_after c.args.locals.now c.args.when (expr_of c.loop-other.operand.now) c.loop-other.jumps.items c.in_ok-last.last refl c.in_ok-last.ensures.at c.in_ok-last.ensures.ok c.loop-other.invariant.extends c.loop-other.invariant.after
