-- the slots so far are known
use Rattle.std.proofs.Common.{◌≡◌, length}
use Rattle.si_steps.specs.inner.Firsts.{Knows, LearnsSlots}
use Rattle.si_steps.proofs.state.State.learn_slots.Given as goal

abbrev pub invariant-loop-slot : goal.invariant-loop-slot
invariant-loop-slot l = Knows l.fn.self l.self × (length l.self.globals.items ≡ l.slot) × LearnsSlots l.fn.self l.self
