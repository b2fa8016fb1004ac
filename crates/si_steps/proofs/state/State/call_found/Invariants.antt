use Rattle.si_steps.proofs.state.State.call_found.Given as goal

abbrev pub ghost-raise : goal.ghost-raise
ghost-raise g a = g.p

abbrev pub ghost-raise_key : goal.ghost-raise_key
ghost-raise_key g a = g.p
