use Rattle.std.proofs.Common.{ap, ◌∙◌}
use Rattle.std.proofs.lemmas.Result.{on_ok_weaker}
use Rattle.si_syntax.specs.Trees.{expr_of, targets_of}
use Rattle.si_slots.specs.Code.{displayed}
use Rattle.si_emit.proofs.TargetCode.{count_row}
use Rattle.si_emit.proofs.AssignCode.{displays, unpacks}
use Rattle.si_emit.proofs.assigning.assign_row.Goals as goal

pub returns-in-Some-clause-ok : goal.returns-in-Some-clause-ok
returns-in-Some-clause-ok c =
    let v = expr_of c.args.value.now in
    let ts = c.args.targets.now in
    let is = ap (λ n. displayed n v) (count_row ts) ∙ c.in-Some.ensures.0 in
    on_ok_weaker c.assign_display.result (λ h. displays c.args.locals.now v (targets_of ts) _ is h) c.assign_display.ensures.ok

pub returns-in_ok-operand-in-None-clause-ok : goal.returns-in_ok-operand-in-None-clause-ok
returns-in_ok-operand-in-None-clause-ok c =
    let v = expr_of c.args.value.now in
    let ts = c.args.targets.now in
    let is = ap (λ n. displayed n v) (count_row ts) ∙ c.in-None.ensures in
    on_ok_weaker c.emit_unpack.result
    (λ h. unpacks c.args.locals.now v (targets_of ts) c.in_ok-operand-in-None.operand c.requires c.in_ok-operand-in-None.ensures.ok c.in_ok-operand-in-None.ensures.is h is)
    c.emit_unpack.ensures.ok
