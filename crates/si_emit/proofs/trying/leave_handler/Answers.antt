use Rattle.std.proofs.Common.{arith}
use Rattle.si_slots.proofs.Gained.{length_gained}
use Rattle.si_emit.proofs.trying.leave_handler.Goals as goal

pub returns-clause-at : goal.returns-clause-at
returns-clause-at c = omega (arith, c.len-end.ensures, length_gained c.in_ok-put-2.ensures.ok)
