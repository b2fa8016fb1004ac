use Rattle.std.proofs.Common.{sym, subst}
use Rattle.si_steps.specs.declared.state.State.{State}
use Rattle.si_steps.specs.Moments.{IsSound, IsWorld, ground_of}
use Rattle.si_steps.proofs.machine.Machine.global.Goals as goal

pub show_global-requires : goal.show_global-requires
show_global-requires c = subst (λ (s : State). IsSound (ground_of s)) (sym c.self.view_is) c.requires

pub returns : goal.returns
returns c = λ w h. c.show_global.ensures w (subst (λ (s : State). IsWorld (ground_of s) w) (sym c.self.view_is) h)
