use Rattle.std.proofs.lemmas.Result.{IfOk-weaker}
use Rattle.si_interp.proofs.Keeping.{asks_so}
use Rattle.si_interp.proofs.arriving.come_to_request.Goals as goal

pub returns-clause-ok : goal.returns-clause-ok
returns-clause-ok g c =
    IfOk-weaker c.arrive.result _ _ (λ s k. asks_so g.c c.take_request-action.result s c.arrive.new.kept c.arrive.new.offered _ c.take_request-action.ensures.asked k) c.arrive.ensures.ok
