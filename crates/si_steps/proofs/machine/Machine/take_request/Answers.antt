use Rattle.std.proofs.Common.{sym, subst}
use Rattle.si_steps.specs.declared.state.State.{State}
use Rattle.si_steps.specs.Moments.{HasAction}
use Rattle.si_steps.proofs.machine.Machine.take_request.Goals as goal

pub unreachable-requires : goal.unreachable-requires
unreachable-requires g c =
    let had = subst (λ (s : State). HasAction g.c.place s.action) (sym c.self.view_is) c.requires in
    absurd (subst (HasAction g.c.place) (sym c.in-None.ensures.value) had)

pub returns-clause-asked : goal.returns-clause-asked
returns-clause-asked g c =
    let had = subst (λ (s : State). HasAction g.c.place s.action) (sym c.self.view_is) c.requires in
    subst (HasAction g.c.place) (sym c.in-Some.ensures.value) had
