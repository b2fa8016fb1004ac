use Rattle.std.proofs.Common.{sym, subst}
use Rattle.si_steps.specs.Machines.{Stands, IsRunning, Steps}
use Rattle.si_steps.proofs.Along.{ready_here, leads_on, is_short, steps}
use Rattle.si_steps.proofs.machine.Machine.step.Goals as goal

pub step-requires : goal.step-requires
step-requires g c =
    let s = c.self.inside.state in
    let st = subst (Stands g.c) (sym c.self.view_is) c.requires.0 in
    let run = subst IsRunning (sym c.self.view_is) c.requires.1 in
    (ready_here g.c s st run, (leads_on g.c s st run, is_short g.c s st))

pub returns : goal.returns
returns g c =
    let s = c.self.inside.state in
    let st = subst (Stands g.c) (sym c.self.view_is) c.requires.0 in
    let run = subst IsRunning (sym c.self.view_is) c.requires.1 in
    subst (λ o. Steps g.c o c.step.new.self c.step.result) c.self.view_is (steps g.c s c.step.new.self c.step.result st run c.step.ensures)
