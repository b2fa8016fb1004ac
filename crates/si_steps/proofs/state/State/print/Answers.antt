use Rattle.std.proofs.Common.{refl, ap, ◌∙◌, ◌++◌}
use Rattle.std.specs.Prelude.{string_bytes}
use Rattle.si_steps.specs.declared.state.State.{State}
use Rattle.si_steps.proofs.state.State.print.Goals as goal

pub returns-in-Ok : goal.returns-in-Ok
returns-in-Ok c = (let s : State = record c.args.self.now { printed = c.push_str.new.self } in s, refl, c.in-Ok.ensures.bytes ∙ ap (λ t. string_bytes c.args.self.now.printed ++ t) c.as_str.ensures.value, c.land.ensures)
