use Rattle.si_interp.proofs.arriving.come_to_end.Given as goal

abbrev pub ghost-told : goal.ghost-told
ghost-told g a = g.c
