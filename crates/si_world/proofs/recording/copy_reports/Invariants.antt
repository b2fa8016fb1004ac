use Rattle.std.proofs.Common.{◌≡◌, take}
use Rattle.si_world.proofs.recording.copy_reports.Given as goal

abbrev pub invariant-loop-i : goal.invariant-loop-i
invariant-loop-i l = l.copy.items ≡ take l.i l.interps
