use Rattle.std.proofs.Common.{◌≡◌, true, subst}
use Rattle.si_semantics.specs.Actions.{fits}
use Rattle.si_parcel.specs.Shared.{action_of, answer_of}
use Rattle.si_parcel.specs.declared.action.Action.{Action}
use Rattle.si_interp.proofs.Answering.{end_leads, leads_same, not_given}
use Rattle.si_interp.proofs.Standing.{awaits_answer, take_waits}
use Rattle.si_interp.proofs.taking.answered.Goals as goal

pub take-requires : goal.take-requires
take-requires g c = (take_waits g.c c.args.action.now c.args.machine.now c.in-Take.is c.requires.0, c.requires.1.0)

pub replied-requires : goal.replied-requires
replied-requires g c = awaits_answer g.c c.args.action.now c.args.machine.now c.in_default.not-Take c.in_default.not-End c.requires.0

pub unreachable-requires : goal.unreachable-requires
unreachable-requires g c =
    not_given c.args.answer.now c.in_default-answer.not-Given
    (subst (λ (a : Action). fits (answer_of c.args.answer.now) (action_of a) ≡ true) c.in-Take.is c.requires.1.1)

pub returns-in-End-clause-leads : goal.returns-in-End-clause-leads
returns-in-End-clause-leads g c =
    end_leads g.c c.args.action.now c.in-End.field-0 c.args.answer.now c.args.machine.now c.in-End.is c.requires.0 c.requires.1.1

pub returns-in_default-clause-leads : goal.returns-in_default-clause-leads
returns-in_default-clause-leads g c =
    leads_same g.c c.args.action.now c.args.answer.now c.replied.new.machine c.replied.result c.in_default.not-Take c.requires.1.1
    c.replied.ensures.leads
