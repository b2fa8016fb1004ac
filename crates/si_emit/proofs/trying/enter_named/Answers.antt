use Rattle.std.proofs.Common.{arith}
use Rattle.si_slots.proofs.Gained.{length_gained}
use Rattle.si_emit.proofs.trying.enter_named.Goals as goal

pub returns-clause-at : goal.returns-clause-at
returns-clause-at c = omega (arith, c.len-enter.ensures, length_gained c.in_ok-put.ensures.ok, length_gained c.in_ok-emit_bind.ensures.ok)
