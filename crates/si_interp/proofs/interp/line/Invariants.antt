use Rattle.si_interp.proofs.interp.line.Given as goal

abbrev pub ghost-step : goal.ghost-step
ghost-step g a = g.c
