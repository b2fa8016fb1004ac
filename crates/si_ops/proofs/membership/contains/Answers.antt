use Rattle.std.proofs.Common.{sym, ap, ◌∙◌, slice_get}
use Rattle.si_semantics.specs.Operations.{contains, is_any_of, object_contains}
use Rattle.si_arena.specs.Memory.{value_of, all_of}
use Rattle.si_ops.proofs.Tupled.{items_back}
use Rattle.si_ops.proofs.membership.contains.Goals as goal

pub returns-in-Tuple : goal.returns-in-Tuple
returns-in-Tuple c = λ w e.
    let m = c.args.arena.now in
    let item = value_of m c.args.item in
    ap (λ v. contains v item w) (sym c.in-Tuple.ensures.value) ∙ ap (λ us. is_any_of us item w) (items_back (all_of m c.in-Tuple.items.now)) ∙ c.is_any_of.ensures w e

pub returns-in-Object : goal.returns-in-Object
returns-in-Object c = λ w e.
    let m = c.args.arena.now in
    let item = value_of m c.args.item in
    ap (λ v. contains v item w) (sym c.in-Object.ensures.value) ∙ ap (λ s. object_contains (slice_get s c.in-Object.address) item w) e ∙ c.is_in_object.ensures w e
