use Rattle.std.proofs.lemmas.Result.{on_ok_weaker}
use Rattle.si_slots.proofs.Gained.{Extends-trans}
use Rattle.si_emit.proofs.TryCode.{extends_put, leaves_gains}
use Rattle.si_emit.proofs.trying.leave_named.Goals as goal

pub returns-clause-ok : goal.returns-clause-ok
returns-clause-ok c = on_ok_weaker c.put.result (leaves_gains _ c.args.enter c.in_ok-start_finally.ensures.ok c.in_ok-emit_unbind.ensures.ok) c.put.ensures.ok

pub returns-clause-extends : goal.returns-clause-extends
returns-clause-extends c front le before =
    Extends-trans _ _ _ (c.in_ok-start_finally.ensures.extends front le before) (Extends-trans _ _ _ c.in_ok-emit_unbind.ensures.extends (extends_put c.put.result c.put.ensures.extends c.put.ensures.err))
