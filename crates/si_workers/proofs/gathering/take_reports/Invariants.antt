use Rattle.si_workers.proofs.Taking.{IsTaken}
use Rattle.si_workers.proofs.gathering.take_reports.Given as goal

abbrev pub invariant-loop-i : goal.invariant-loop-i
invariant-loop-i l = IsTaken l.initial.worked.items l.reports.items l.worked.items l.i
