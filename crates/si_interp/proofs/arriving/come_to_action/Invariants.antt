use Rattle.si_interp.proofs.arriving.come_to_action.Given as goal

abbrev pub ghost-come_to_end : goal.ghost-come_to_end
ghost-come_to_end g a = g.c

abbrev pub ghost-come_to_request : goal.ghost-come_to_request
ghost-come_to_request g a = g.c
