use Rattle.si_steps.proofs.state.State.break_loop.Given as goal

abbrev pub ghost-leave_turn : goal.ghost-leave_turn
ghost-leave_turn g a = g.p
