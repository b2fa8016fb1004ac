use Rattle.si_emit.proofs.TargetCode.{item_gains}
use Rattle.si_emit.proofs.targets.emit_item.Goals as goal

pub returns-clause-ok : goal.returns-clause-ok
returns-clause-ok c = λ i end h.
    item_gains c.args.locals.now c.args.d c.in_ok-above.above c.args.item.now c.deref-2.result.now c.deref-3.result.now c.deref.result.now c.lies_in_place-stays.result c.in_ok-object.object c.in_ok-index.index i
    c.deref-2.ensures c.deref-3.ensures c.deref.ensures c.in_ok-above.ensures c.lies_in_place-stays.ensures c.requires c.in_ok-object.ensures.ok c.in_ok-object.ensures.is c.in_ok-index.ensures.ok c.in_ok-index.ensures.is h
