use Rattle.si_steps.proofs.Along.{here, request_of}
use Rattle.si_steps.proofs.machine.Machine.answer.Given as goal

abbrev pub ghost-answer : goal.ghost-answer
ghost-answer g a = (request_of g.c.place, here g.c)
