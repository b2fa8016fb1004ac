use Rattle.std.proofs.Common.{◌≡◌, length, map, ◌∙◌}
use Rattle.std.proofs.lemmas.Result.{on_ok_weaker}
use Rattle.si_semantics.specs.Grammar.{exprs_of}
use Rattle.si_syntax.specs.Trees.{expr_of}
use Rattle.si_slots.specs.Machine as machine
use Rattle.si_slots.specs.Code.{exprs_code}
use Rattle.si_slots.proofs.Gained.{Gains-append}
use Rattle.si_emit.proofs.TargetCode.{row_after}
use Rattle.si_emit.proofs.assigning.assign_display.Goals as goal

pub returns-clause-ok : goal.returns-clause-ok
returns-clause-ok c =
    let ls = c.args.locals.now in
    let ts = c.args.targets.now in
    let many : c.in_ok-count.count ≡ length ts = c.in_ok-count.ensures.count ∙ c.requires.count in
    on_ok_weaker c.emit_targets.result
    (λ h. Gains-append _ _ _ (exprs_code ls 0 (exprs_of (map expr_of c.args.items.now))) _ c.in_ok-count.ensures.ok
    (row_after ls 0 (λ n. machine.Reverse 0 n) ts c.in_ok-count.count many c.in_ok-put.ensures.ok h))
    c.emit_targets.ensures.ok
