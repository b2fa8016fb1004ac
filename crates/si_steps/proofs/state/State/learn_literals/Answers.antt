use Rattle.std.proofs.Common.{ap, ◌∙◌}
use Rattle.si_steps.specs.declared.state.State.{State}
use Rattle.si_steps.proofs.state.State.learn_literals.Goals as goal

pub loop-place-preserved : goal.loop-place-preserved
loop-place-preserved c =
    let so_far = c.loop-place.invariant in
    let one = c.in_ok-learn_literal.ensures in
    let new = c.learn_literal.new.self in (
      (λ w h. one.ok w (so_far.0 w h)),
      one.one,
      c.learn_literal.ensures.same ∙ ap (λ (s : State). let t : State = record s { arena = new.arena; literals = new.literals; names = new.names } in t) so_far.2,
    )
