use Rattle.std.proofs.Common.{arith, ap, sym, subst, ◌∙◌}
use Rattle.si_steps.specs.declared.state.State.{State}
use Rattle.si_steps.specs.Machines.{Awaits}
use Rattle.si_steps.proofs.Along.{begins}
use Rattle.si_steps.proofs.Begun.{lent_known}
use Rattle.si_steps.proofs.machine.Machine.resume.Goals as goal

pub begin_run-requires : goal.begin_run-requires
begin_run-requires g c =
    let awaits = subst (Awaits g.w c.args.table) (sym c.self.view_is) c.requires.0 in
    c.in-Ok.ensures.ok g.w (lent_known c.self.inside.state awaits.lent c.args.table g.w awaits.waits.world awaits.grown.literals awaits.grown.names)

pub returns-in-Ok-clause-stands : goal.returns-in-Ok-clause-stands
returns-in-Ok-clause-stands g c =
    begins c.args.table c.args.at g.w c.begin_run.new.self c.requires.1 c.begin_run.ensures.stands (ap (λ (s : State). s.standing) c.begin_run.ensures.state)
    (ap (λ (s : State). s.table) c.begin_run.ensures.state ∙ ap (λ (s : State). s.table) c.learn.ensures.same)
    (omega (arith, c.if-len.false, c.len.ensures))
