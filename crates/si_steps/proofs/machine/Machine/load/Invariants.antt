use Rattle.si_semantics.specs.World.{first_world}
use Rattle.si_steps.proofs.machine.Machine.load.Given as goal

abbrev pub ghost-begin_run : goal.ghost-begin_run
ghost-begin_run a = first_world a.self.now.own
