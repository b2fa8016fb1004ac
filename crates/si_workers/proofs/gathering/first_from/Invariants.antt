use Rattle.std.proofs.Common.{ℕ, ◌≤◌, ◌<◌}
use Rattle.si_interp.specs.Meaning.{InterpView}
use Rattle.si_workers.specs.Gathers.{IsReport}
use Rattle.si_workers.proofs.gathering.first_from.Given as goal

abbrev pub invariant-loop-k : goal.invariant-loop-k
invariant-loop-k l = (j : ℕ) (v : InterpView) → l.from ≤ j → j < l.k → IsReport l.worked l.i j v → ⊥
