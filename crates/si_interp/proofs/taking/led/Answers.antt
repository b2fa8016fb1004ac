use Rattle.std.proofs.Common.{subst}
use Rattle.si_steps.specs.declared.step.Step.{Step as Line}
use Rattle.si_interp.specs.inner.Keeps.{HasAsked, IsEnded, Led}
use Rattle.si_interp.proofs.Answering.{asks_by, ended_waits, same_printed}
use Rattle.si_interp.proofs.taking.led.Goals as goal

pub told-requires : goal.told-requires
told-requires g c =
    let here : IsEnded g.c c.args.machine.now = subst (λ (k : Line). Led g.c c.args.machine.now k) c.in-Ended.is c.requires in
    here.ended

pub take_request-requires : goal.take_request-requires
take_request-requires g c =
    let here : HasAsked g.c c.args.machine.now = subst (λ (k : Line). Led g.c c.args.machine.now k) c.in-Wants.is c.requires in
    here.action

pub returns-in_ok-told-in-Ended-clause-leads : goal.returns-in_ok-told-in-Ended-clause-leads
returns-in_ok-told-in-Ended-clause-leads g c =
    let here : IsEnded g.c c.args.machine.now = subst (λ (k : Line). Led g.c c.args.machine.now k) c.in-Ended.is c.requires in
    ended_waits g.c c.args.machine.now c.in_ok-told-in-Ended.field-0 here c.in_ok-told-in-Ended.ensures

pub returns-in-Wants-clause-leads : goal.returns-in-Wants-clause-leads
returns-in-Wants-clause-leads g c =
    let here : HasAsked g.c c.args.machine.now = subst (λ (k : Line). Led g.c c.args.machine.now k) c.in-Wants.is c.requires in
    asks_by g.c c.args.machine.now c.take_request.new.self c.take_request.result here c.take_request.ensures.rest c.take_request.ensures.asked

pub returns-in-Wants-clause-printed : goal.returns-in-Wants-clause-printed
returns-in-Wants-clause-printed g c = same_printed c.args.machine.now c.take_request.new.self c.take_request.ensures.rest
