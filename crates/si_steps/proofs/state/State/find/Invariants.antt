use Rattle.si_steps.proofs.state.State.find.Given as goal

abbrev pub ghost-find_other : goal.ghost-find_other
ghost-find_other g a = g.p
