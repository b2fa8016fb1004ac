use Rattle.si_steps.proofs.state.State.find_other.Given as goal

abbrev pub ghost-find_value : goal.ghost-find_value
ghost-find_value g a = g.p
