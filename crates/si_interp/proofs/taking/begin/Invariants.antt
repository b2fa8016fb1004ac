use Rattle.si_interp.proofs.taking.begin.Given as goal

abbrev pub ghost-resume : goal.ghost-resume
ghost-resume g a = g.c.world
