use Rattle.si_interp.proofs.arriving.told.Given as goal

abbrev pub ghost-take_outcome : goal.ghost-take_outcome
ghost-take_outcome g a = g.c
