use Rattle.std.proofs.Common.{ℕ, ◌<◌}
use Rattle.si_workers.specs.Sleeping.{IsToWake}
use Rattle.si_workers.proofs.sleepers.Sleepers.has_woken.Given as goal

abbrev pub invariant-loop-k : goal.invariant-loop-k
invariant-loop-k l = (i : ℕ) → i < l.k → IsToWake l.self l.book.pages i → ⊥
