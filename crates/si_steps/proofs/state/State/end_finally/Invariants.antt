use Rattle.si_steps.proofs.state.State.end_finally.Given as goal

abbrev pub ghost-go_on : goal.ghost-go_on
ghost-go_on g a = g.p
