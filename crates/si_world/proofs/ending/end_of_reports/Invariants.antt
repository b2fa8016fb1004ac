use Rattle.std.proofs.Common.{◌≡◌, take}
use Rattle.si_world.specs.Reports.{end_of}
use Rattle.si_world.proofs.ending.end_of_reports.Given as goal

abbrev pub invariant-loop-i : goal.invariant-loop-i
invariant-loop-i l = l.end ≡ end_of l.hub.past (take l.i l.reports)
