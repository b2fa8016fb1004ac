use Rattle.std.proofs.Common.{Ok, length, FitsSigned, w64, to_z-of_z, ap, ◌∙◌, rules, slice_get}
use Rattle.std.proofs.lemmas.List.{length-map}
use Rattle.si_semantics.specs.Value as pure
use Rattle.si_semantics.specs.Subscription.{object_item, item_of, item_meant}
use Rattle.si_arena.specs.Memory.{value_of, all_of}
use Rattle.si_ops.proofs.Changing.{tells_as}
use Rattle.si_ops.proofs.subscripts.listed_at.Goals as goal

pub returns-in-Ok : goal.returns-in-Ok
returns-in-Ok c =
    let m = c.args.arena.now in
    let x = c.args.address in
    let i = c.args.index in
    let vs = all_of m c.in-Some.items.now in
    let rs = c.in-Some.items.now in
    let fits : FitsSigned w64 i = search rules in
    tells_as (λ w. object_item (slice_get w.store x) (pure.Int i) w) (λ w. item_of vs (item_meant (length rs) i) w) m (Ok c.in-Ok.item)
    (λ w e. ap (λ s. object_item (slice_get s x) (pure.Int i) w) e ∙ ap (λ o. object_item o (pure.Int i) w) c.in-Some.ensures.some.0 ∙ ap (λ n. item_of vs (item_meant n i) w) (length-map rs (value_of m)))
    (rw (to_z-of_z fits) at c.in-Ok.ensures)
