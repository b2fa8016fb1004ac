use Rattle.std.proofs.lemmas.Result.{IfOk-weaker}
use Rattle.si_interp.proofs.Keeping.{ends_so}
use Rattle.si_interp.proofs.arriving.come_to_end.Goals as goal

pub returns-clause-ok : goal.returns-clause-ok
returns-clause-ok g c = IfOk-weaker c.arrive.result _ _ (λ s k. ends_so g.c c.in_ok-outcome.outcome s c.arrive.new.kept c.arrive.new.offered _ c.in_ok-outcome.ensures k) c.arrive.ensures.ok
