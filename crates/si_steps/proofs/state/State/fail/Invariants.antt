use Rattle.si_steps.proofs.Operated.{with_objects}
use Rattle.si_steps.proofs.state.State.fail.Given as goal

abbrev pub ghost-leave_raised : goal.ghost-leave_raised
ghost-leave_raised g a = with_objects a.self.now.arena g.p
