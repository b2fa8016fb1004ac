use Rattle.si_interp.proofs.arriving.come_to_request.Given as goal

abbrev pub ghost-take_request : goal.ghost-take_request
ghost-take_request g a = g.c
