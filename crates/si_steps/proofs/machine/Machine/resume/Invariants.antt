use Rattle.si_steps.proofs.machine.Machine.resume.Given as goal

abbrev pub ghost-begin_run : goal.ghost-begin_run
ghost-begin_run g a = g.w
