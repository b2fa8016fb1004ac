use Rattle.si_steps.proofs.state.State.step.Given as goal

abbrev pub ghost-quick_step : goal.ghost-quick_step
ghost-quick_step g a = g.p

abbrev pub ghost-other_step : goal.ghost-other_step
ghost-other_step g a = g.p
