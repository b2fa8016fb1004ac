use Rattle.std.proofs.Common.{◌≤◌, length, sym, subst}
use Rattle.si_steps.specs.declared.state.State.{State}
use Rattle.si_steps.proofs.Begun.{all_known}
use Rattle.si_steps.proofs.state.State.learn.Goals as goal

pub returns-clause-ok : goal.returns-clause-ok
returns-clause-ok c = λ w h.
    all_known c.learn_slots.new.self w (c.in_ok-learn_slots.ensures.ok w (c.in_ok-learn_literals.ensures.ok w h))
    (subst (λ (s : State). length s.table.literals ≤ length s.literals.items) (sym c.learn_slots.ensures.same) c.in_ok-learn_literals.ensures.all)
    c.in_ok-learn_slots.ensures.all
