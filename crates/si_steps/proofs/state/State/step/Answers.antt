use Rattle.std.proofs.Common.{◌<◌, ◌^◌, length, sym, subst}
use Rattle.si_slots.specs.Views.{code_of}
use Rattle.si_steps.specs.Moments.{Did}
use Rattle.si_steps.specs.inner.Pieces.{IsUnderWay}
use Rattle.si_steps.specs.inner.Operands.{LeadsOn, line_here, next_line}
use Rattle.si_steps.proofs.Fetching.{line_is_here}
use Rattle.si_steps.proofs.state.State.step.Goals as goal

pub other_step-requires : goal.other_step-requires
other_step-requires g c = subst (λ s. IsUnderWay s g.p × (LeadsOn (next_line s g.p) × (length (code_of s.table) < 2 ^ 63))) (sym c.in-None.ensures) c.requires

pub returns-in-Some : goal.returns-in-Some
returns-in-Some g c =
    let s = c.args.self.now in
    subst (λ l. Did l g.p s c.quick_step.new.self c.in-Some.step) (line_is_here s g.p c.requires.1.0) c.in-Some.ensures

pub returns-in-None : goal.returns-in-None
returns-in-None g c =
    let s = c.args.self.now in
    subst (λ l. Did l g.p s c.other_step.new.self c.other_step.result) (line_is_here s g.p c.requires.1.0)
    (subst (λ t. Did (line_here t g.p) g.p t c.other_step.new.self c.other_step.result) c.in-None.ensures c.other_step.ensures)
