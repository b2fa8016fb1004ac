use Rattle.std.proofs.Common.{◌∙◌, List, ap, sym, subst, length, arith}
use Rattle.si_hub.specs.HubCode.{Past}
use Rattle.si_interp.specs.Meaning.{InterpView}
use Rattle.si_world.specs.Worlds.{world}
use Rattle.si_world.specs.Reports.{end_of, queue_items, IsRecorded}
use Rattle.si_world.proofs.Copying.{past_is, few_recorded}
use Rattle.si_world.proofs.recording.Recording.taking.Goals as goal

pub end_of_reports-end-requires : goal.end_of_reports-end-requires
end_of_reports-end-requires c =
    let n = few_recorded (world c.args.hub.past c.args.reports.items) c.requires in
    let a = c.interpreters-most.ensures.value in
    let b = c.interpreters-most.ensures.most in
    let d = ap (λ (l : _). l.interpreters) c.limits-limits.ensures in
    let e = ap (λ (xs : List InterpView). length xs) c.as_slice.ensures.value in
    omega arith

pub invariant_of-result : goal.invariant_of-result
invariant_of-result c =
    let p = c.args.hub.past in
    let vs = c.args.reports.items in
    let past = past_is p c.in_ok-script.script c.limits-limits.result c.into_journal.result.items
    (c.in_ok-script.ensures ∙ c.script.ensures) c.limits-limits.ensures c.into_journal.ensures in
    let end = c.end_of_reports-end.ensures ∙ ap (λ (xs : List InterpView). end_of p xs) c.as_slice.ensures.value in (
      c.in_ok-queues.ensures ∙ ap queue_items (sym past),
      end ∙ ap (λ (q : Past). end_of q vs) (sym past),
      subst (λ (q : Past). IsRecorded (world q vs)) (sym past) c.requires,
    )
