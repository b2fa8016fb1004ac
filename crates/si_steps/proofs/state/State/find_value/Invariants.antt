use Rattle.si_steps.proofs.state.State.find_value.Given as goal

abbrev pub ghost-raise_no_attribute : goal.ghost-raise_no_attribute
ghost-raise_no_attribute g a = g.p

abbrev pub ghost-raise : goal.ghost-raise
ghost-raise g a = g.p
