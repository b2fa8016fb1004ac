-- the items so far are these bytes
use Rattle.si_ops.proofs.MadeBytes.{SoFar}
use Rattle.si_ops.proofs.bytes.bytes_in.Given as goal

abbrev pub invariant-loop-i : goal.invariant-loop-i
invariant-loop-i l = SoFar l.steps.start l.steps.stop l.steps.step l.i l.at l.bytes.items
