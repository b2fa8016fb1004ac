use Rattle.si_interp.proofs.taking.answered.Given as goal

abbrev pub ghost-take : goal.ghost-take
ghost-take g a = g.c

abbrev pub ghost-replied : goal.ghost-replied
ghost-replied g a = g.c
