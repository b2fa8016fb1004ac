use Rattle.std.proofs.Common.{◌≡◌}
use Rattle.si_world.proofs.recording.take_reports.Given as goal

abbrev pub invariant-loop-interp : goal.invariant-loop-interp
invariant-loop-interp l = l.reports.items ≡ l.yielded
