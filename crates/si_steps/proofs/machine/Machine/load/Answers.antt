use Rattle.std.proofs.Common.{◌≡◌, [], arith, refl, sym, ap, subst, ◌∙◌}
use Rattle.si_semantics.specs.World.{first_world}
use Rattle.si_plain.specs.Begins.{Begins}
use Rattle.si_slots.specs.Contents.{Contents}
use Rattle.si_steps.specs.declared.state.State.{State}
use Rattle.si_slots.specs.Machine.{At}
use Rattle.si_steps.specs.Moments.{IsWorld, StandsAt, ground_of}
use Rattle.si_steps.proofs.Along.{begins}
use Rattle.si_steps.proofs.Begun.{lent_known}
use Rattle.si_steps.proofs.machine.Machine.load.Goals as goal

pub begin_run-requires : goal.begin_run-requires
begin_run-requires c =
    let s = c.new-state.result in
    let none = c.new-state.ensures.table in
    let learnt = c.learn.new.self in
    let own : learnt.own ≡ c.args.self.now.own = ap (λ (t : State). t.own) c.learn.ensures.same ∙ c.new-state.ensures.own ∙ ap (λ (t : State). t.own) c.self.view_is in
    subst (λ n. IsWorld (ground_of learnt) (first_world n)) (sym own)
    (c.in-Ok.ensures.ok (first_world c.args.self.now.own)
    (lent_known s s.table c.args.table (first_world c.args.self.now.own)
    (subst (λ (t : State). IsWorld (ground_of s) (first_world t.own)) c.self.view_is c.new-state.ensures.world)
    (subst (λ (d : Contents). Begins d.literals c.args.table.literals) (sym none) refl)
    (subst (λ (d : Contents). Begins d.names c.args.table.names) (sym none) refl)))

pub returns-in-Ok-clause-stands : goal.returns-in-Ok-clause-stands
returns-in-Ok-clause-stands c =
    let learnt = c.learn.new.self in
    let own : learnt.own ≡ c.args.self.now.own = ap (λ (t : State). t.own) c.learn.ensures.same ∙ c.new-state.ensures.own ∙ ap (λ (t : State). t.own) c.self.view_is in
    begins c.args.table c.args.at (first_world c.args.self.now.own) c.begin_run.new.self c.requires
    (subst (λ n. StandsAt (At c.args.at [] [] []) (first_world n) c.begin_run.new.self) own c.begin_run.ensures.stands)
    (ap (λ (s : State). s.standing) c.begin_run.ensures.state)
    (ap (λ (s : State). s.table) c.begin_run.ensures.state ∙ ap (λ (s : State). s.table) c.learn.ensures.same)
    (omega (arith, c.if-len.false, c.len.ensures))
