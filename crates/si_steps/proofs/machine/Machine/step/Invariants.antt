use Rattle.si_steps.proofs.Along.{here}
use Rattle.si_steps.proofs.machine.Machine.step.Given as goal

abbrev pub ghost-step : goal.ghost-step
ghost-step g a = here g.c
