-- the literals so far are known
use Rattle.std.proofs.Common.{◌≡◌, length}
use Rattle.si_steps.specs.inner.Firsts.{Knows, LearnsLiterals}
use Rattle.si_steps.proofs.state.State.learn_literals.Given as goal

abbrev pub invariant-loop-place : goal.invariant-loop-place
invariant-loop-place l = Knows l.fn.self l.self × (length l.self.literals.items ≡ l.place) × LearnsLiterals l.fn.self l.self
