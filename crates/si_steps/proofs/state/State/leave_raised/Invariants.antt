use Rattle.si_steps.proofs.state.State.leave_raised.Given as goal

abbrev pub ghost-unwind : goal.ghost-unwind
ghost-unwind g a = g.p
