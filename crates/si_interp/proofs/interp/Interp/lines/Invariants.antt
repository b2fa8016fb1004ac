use Rattle.si_slots.specs.Code.{compiled}
use Rattle.si_slots.specs.Machine.{next}
use Rattle.si_interp.specs.inner.Keeps.{moment_of}
use Rattle.si_interp.proofs.interp.Interp.lines.Given as goal

abbrev pub ghost-come_to_action : goal.ghost-come_to_action
ghost-come_to_action a = next compiled (moment_of a.id a.log.now.items a.locals)
