use Rattle.std.proofs.Common.{arith, ap, sym, refl, ◌∙◌, ◌∷◌}
use Rattle.si_semantics.specs.Actions.{Job}
use Rattle.si_semantics.specs.Shared.{Interpreter}
use Rattle.si_semantics.proofs.Firsts.{opened}
use Rattle.si_registry.proofs.interpreter.Interpreter.first_job.Goals as goal

pub returns-in-Some : goal.returns-in-Some
returns-in-Some c =
    let o = opened c.self.inside.inbox.items c.in-Some.waiting.now (omega (arith, c.in-Some.ensures.variant.0 refl)) c.in-Some.ensures.lookup in
    (o.0, sym (ap (λ (m : Interpreter). m.inbox) c.self.view_is) ∙ o.1 ∙ ap (λ (v : Job). v ∷ o.0) (sym c.waiting.view_is))
