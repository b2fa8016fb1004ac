use Rattle.si_steps.proofs.state.State.leave_turn.Given as goal

abbrev pub ghost-leave_suite : goal.ghost-leave_suite
ghost-leave_suite g a = g.p
