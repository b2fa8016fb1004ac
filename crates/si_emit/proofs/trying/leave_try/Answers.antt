use Rattle.std.proofs.Common.{arith}
use Rattle.si_slots.proofs.Gained.{Extends-trans, length_gained}
use Rattle.si_emit.proofs.TryCode.{skips_gains}
use Rattle.si_emit.proofs.trying.leave_try.Goals as goal

pub returns-clause-ok : goal.returns-clause-ok
returns-clause-ok c = skips_gains c.args.enter c.in_ok-put.ensures.ok c.in_ok-put-2.ensures.ok c.in_ok-aim.ensures.ok

pub returns-clause-at : goal.returns-clause-at
returns-clause-at c = omega (arith, c.len-skip.ensures, length_gained c.in_ok-put.ensures.ok)

pub returns-clause-extends : goal.returns-clause-extends
returns-clause-extends c front le before = c.in_ok-aim.ensures.extends front le (Extends-trans _ _ _ before (Extends-trans _ _ _ c.in_ok-put.ensures.extends c.in_ok-put-2.ensures.extends))
