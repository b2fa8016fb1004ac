use Rattle.si_interp.proofs.taking.led.Given as goal

abbrev pub ghost-told : goal.ghost-told
ghost-told g a = g.c

abbrev pub ghost-take_request : goal.ghost-take_request
ghost-take_request g a = g.c
