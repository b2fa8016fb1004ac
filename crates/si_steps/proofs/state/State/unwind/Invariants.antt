use Rattle.std.proofs.Common.{length}
use Rattle.si_steps.specs.inner.Pieces.{Unwound}
use Rattle.si_steps.proofs.state.State.unwind.Given as goal

abbrev pub invariant-loop-self : goal.invariant-loop-self
invariant-loop-self g l = Unwound l.fn.address g.p l.fn.self l.self

abbrev pub decreases-loop-self : goal.decreases-loop-self
decreases-loop-self g l = length l.self.blocks
