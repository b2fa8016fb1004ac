use Rattle.si_interp.proofs.taking.take.Given as goal

abbrev pub ghost-run : goal.ghost-run
ghost-run g a = g.c

abbrev pub ghost-bind_all : goal.ghost-bind_all
ghost-bind_all g a = g.c.world
