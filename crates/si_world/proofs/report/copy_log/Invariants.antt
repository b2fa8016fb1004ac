use Rattle.std.proofs.Common.{◌≡◌, take}
use Rattle.si_world.proofs.report.copy_log.Given as goal

abbrev pub invariant-loop-entry : goal.invariant-loop-entry
invariant-loop-entry l = l.copy.items ≡ take l.entry-index l.log
