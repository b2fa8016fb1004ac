use Rattle.si_steps.proofs.state.State.raise_no_attribute.Given as goal

abbrev pub ghost-raise : goal.ghost-raise
ghost-raise g a = g.p
