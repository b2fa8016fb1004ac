use Rattle.si_workers.specs.inner.Members.{AreFit}
use Rattle.si_workers.proofs.gathering.first_unfit.Given as goal

abbrev pub invariant-loop-i : goal.invariant-loop-i
invariant-loop-i l = AreFit l.hub.past l.worked l.i
