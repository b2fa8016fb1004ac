use Rattle.std.proofs.Common.{◌∙◌, ◌-◌, List, ap, sym, subst}
use Rattle.std.specs.Prelude.{vec_len, vec_capacity}
use Rattle.si_slots.specs.Code.{compiled}
use Rattle.si_slots.specs.Laws.{with_answer}
use Rattle.si_slots.specs.Machine.{next}
use Rattle.si_parcel.specs.Shared.{answer_of}
use Rattle.si_interp.specs.Life.{answer_in}
use Rattle.si_interp.specs.Meaning.{InterpView, Logged}
use Rattle.si_interp.specs.inner.Keeps.{IsAsking, Leads, moment_of}
use Rattle.si_interp.proofs.Keeping.{asking, keeps_answer, keeps_lost}
use Rattle.si_interp.proofs.interp.Interp.answer.Goals as goal
use Rattle.si_interp.proofs.interp.Interp.answer.Goals.{In-Some}

at_action : (c : In-Some) → IsAsking c.self.inside.id c.self.inside.log.items c.self.inside.locals (moment_of c.self.inside.id c.self.inside.log.items c.self.inside.locals) c.self.inside.machine c.in-Some.action c.self.inside.offered (vec_capacity c.self.inside.log - vec_len c.self.inside.log)
at_action c =
    let a = c.self.inside in
    asking a.id a.machine a.log.items a.locals (vec_capacity a.log - vec_len a.log) a.state a.kept a.offered c.in-Some.action c.self.invariant (ap (λ (v : InterpView). v.taken) c.self.view_is ∙ c.requires.taken) (sym c.in-Some.ensures.value)

pub invariant_of-self : goal.invariant_of-self
invariant_of-self c =
    let s = (goal.at.invariant_of-self c).In-Some in
    keeps_lost c.self.inside.id c.self.inside.log.items c.note.new.log.items c.self.inside.locals _ _ c.self.inside.machine c.answered.new.machine c.in-Some.action c.self.inside.offered (answer_of c.args.answer) _ _
    (at_action s) c.note.ensures c.answered.ensures.printed

pub invariant_of-self-in-Err-arrive : goal.invariant_of-self-in-Err-arrive
invariant_of-self-in-Err-arrive c =
    let s = (goal.at.invariant_of-self-in-Err-arrive c).In-Some in
    keeps_lost c.self.inside.id c.self.inside.log.items c.arrive.new.log.items c.self.inside.locals _ _ c.self.inside.machine c.answered.new.machine c.in-Some.action c.self.inside.offered (answer_of c.args.answer) _ _
    (at_action s) (c.in-Err-arrive.ensures.log ∙ c.note-in-Ok.ensures) c.answered.ensures.printed

pub invariant_of-self-in-Ok-arrive : goal.invariant_of-self-in-Ok-arrive
invariant_of-self-in-Ok-arrive c =
    let s = (goal.at.invariant_of-self-in-Ok-arrive c).In-Some in
    let leads = subst (λ (x : List Logged). Leads (next compiled (with_answer (answer_in (answer_of c.args.answer)) (moment_of c.self.inside.id x c.self.inside.locals))) c.answered.new.machine c.in-Ok.next) c.as_slice.ensures.value c.in-Ok.ensures.leads in
    keeps_answer c.self.inside.id c.self.inside.log.items c.arrive.new.log.items c.self.inside.locals _ _ c.self.inside.machine c.answered.new.machine c.in-Some.action c.self.inside.offered (answer_of c.args.answer) c.in-Ok.next c.in-Ok-arrive.state _ _
    (at_action s) (c.in-Ok-arrive.ensures.log ∙ c.note-in-Ok.ensures) c.answered.ensures.printed leads c.in-Ok-arrive.ensures.ok
