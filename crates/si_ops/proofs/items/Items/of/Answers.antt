use Rattle.std.proofs.Common.{sym, ap, ◌∙◌, slice_get}
use Rattle.si_semantics.specs.Operations.{iterator_of, iterator_at}
use Rattle.si_ops.proofs.items.Items.of.Goals as goal

pub returns-in-Object-clause-items : goal.returns-in-Object-clause-items
returns-in-Object-clause-items c = λ w e.
    c.items_at.ensures.items c.args.arena.now ∙ ap (λ s. iterator_at c.in-Object.address (slice_get s c.in-Object.address)) (sym e) ∙ ap (λ v. iterator_of v w) c.in-Object.ensures.value
