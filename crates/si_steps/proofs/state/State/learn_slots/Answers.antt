use Rattle.std.proofs.Common.{ap, ◌∙◌}
use Rattle.si_steps.specs.declared.state.State.{State}
use Rattle.si_steps.proofs.state.State.learn_slots.Goals as goal

pub loop-slot-preserved : goal.loop-slot-preserved
loop-slot-preserved c =
    let so_far = c.loop-slot.invariant in
    let one = c.in_ok-learn_slot.ensures in
    let new = c.learn_slot.new.self in (
      (λ w h. one.ok w (so_far.0 w h)),
      one.one,
      c.learn_slot.ensures.same ∙ ap (λ (s : State). let t : State = record s { globals = new.globals; built_ins = new.built_ins; methods = new.methods } in t) so_far.2,
    )
