use Rattle.si_steps.proofs.state.State.gather_dict.Given as goal

abbrev pub ghost-conclude : goal.ghost-conclude
ghost-conclude g a = g.p
