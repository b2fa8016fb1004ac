use Rattle.si_steps.proofs.state.State.raise_key.Given as goal

abbrev pub ghost-fail : goal.ghost-fail
ghost-fail g a = g.p
