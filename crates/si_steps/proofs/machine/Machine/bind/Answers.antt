use Rattle.std.proofs.Common.{sym, ap, subst, ◌∙◌}
use Rattle.si_steps.specs.declared.state.State.{State}
use Rattle.si_steps.specs.Machines.{Waits}
use Rattle.si_steps.proofs.machine.Machine.bind.Goals as goal

pub returns-in-Ok-clause-bound : goal.returns-in-Ok-clause-bound
returns-in-Ok-clause-bound c = λ w h.
    let waits = subst (Waits w) (sym c.self.view_is) h in
    record { idle = ap (λ (s : State). s.standing) c.in-Ok.ensures.same ∙ waits.idle; world = c.in-Ok.ensures.ok w waits.world }
