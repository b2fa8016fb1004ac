use Rattle.si_steps.proofs.state.State.raise_again.Given as goal

abbrev pub ghost-leave_raised : goal.ghost-leave_raised
ghost-leave_raised g a = g.p

abbrev pub ghost-raise : goal.ghost-raise
ghost-raise g a = g.p
