use Rattle.std.proofs.Common.{sym, subst}
use Rattle.si_parcel.specs.Shared.{answer_of}
use Rattle.si_methods.specs.Given.{answer_in}
use Rattle.si_steps.specs.Machines.{Stands, IsWaiting, Answers}
use Rattle.si_steps.proofs.Along.{awaiting_here, answers}
use Rattle.si_steps.proofs.machine.Machine.answer.Goals as goal

pub answer-requires : goal.answer-requires
answer-requires g c =
    let s = c.self.inside.state in
    let st = subst (Stands g.c) (sym c.self.view_is) c.requires.0 in
    let waits = subst IsWaiting (sym c.self.view_is) c.requires.1 in
    awaiting_here g.c s st waits

pub returns : goal.returns
returns g c =
    let s = c.self.inside.state in
    let st = subst (Stands g.c) (sym c.self.view_is) c.requires.0 in
    let waits = subst IsWaiting (sym c.self.view_is) c.requires.1 in
    let a = answer_in (answer_of c.args.answer.now) in
    subst (λ o. Answers g.c a o c.answer.new.self c.answer.result) c.self.view_is (answers a g.c s c.answer.new.self c.answer.result st waits c.answer.ensures.did c.answer.ensures.kept)
