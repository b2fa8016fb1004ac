use Rattle.std.proofs.Common.{◌≡◌, ◌+◌, ◌-◌, length, sym, arith}
use Rattle.si_slots.specs.Views.{operand_of, words_now}
use Rattle.std.proofs.lemmas.Result.{on_ok_weaker}
use Rattle.si_slots.proofs.Gained.{Extends-trans, locals_kept}
use Rattle.si_slots.proofs.Growth.{Extends-same}
use Rattle.si_slots.specs.Machine as machine
use Rattle.si_emit.proofs.TargetCode.{row_after, next_target, last_target}
use Rattle.si_emit.proofs.targets.+targets.Goals as goal

pub emit_unpack-returns-clause-ok : goal.emit_unpack-returns-clause-ok
emit_unpack-returns-clause-ok t c =
    let many : c.in_ok-count.count ≡ length c.args.targets.now = grind (arith, c.in_ok-count.ensures.cases, c.try_from.ensures) in
    on_ok_weaker c.emit_targets.result
    (λ h. row_after c.args.locals.now c.args.d (λ n. machine.Unpack (operand_of (words_now c.args.table.now) c.args.operand) c.args.d n) c.args.targets.now c.in_ok-count.count many c.in_ok-put_named.ensures.ok h)
    c.emit_targets.ensures.ok

pub emit_targets-loop-target-init : goal.emit_targets-loop-target-init
emit_targets-loop-target-init t c = record {
  gains = λ end h. h;
  above = omega (arith, c.in_ok-at.ensures, c.requires.count);
  names = c.requires.names;
  extends = Extends-same c.args.table.now;
}

pub emit_targets-loop-target-preserved : goal.emit_targets-loop-target-preserved
emit_targets-loop-target-preserved t c =
    let old = c.loop-target.invariant in
    let above : c.loop-target.at - 1 + (c.loop-target.target-index + 1) ≡ c.args.d + length c.args.targets.now = omega (arith, old.above, c.loop-target-test.true) in
    record {
      gains = next_target c.args.locals.now c.args.d _ (c.loop-target.at - 1) c.args.targets.now c.loop-target.target-index c.target-item.result c.loop-target-test.true (sym c.target-item.is) above old.gains c.in_ok-emit_target.ensures.ok;
      above = above;
      names = locals_kept c.in_ok-emit_target.ensures.ok old.names;
      extends = Extends-trans _ _ _ old.extends c.in_ok-emit_target.ensures.extends;
    }

pub emit_targets-returns-clause-ok : goal.emit_targets-returns-clause-ok
emit_targets-returns-clause-ok t c = last_target c.args.locals.now c.args.d _ c.args.targets.now c.loop-target.target-index c.loop-target-test.false c.loop-target.invariant.gains
