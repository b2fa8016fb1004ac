use Rattle.si_interp.proofs.taking.run.Given as goal

abbrev pub ghost-begin : goal.ghost-begin
ghost-begin g a = g.c
