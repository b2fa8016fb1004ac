use Rattle.std.proofs.Common.{length, ap, ◌∙◌, FitsSigned, w64, to_z-of_z, rules}
use Rattle.std.proofs.lemmas.List.{length-map}
use Rattle.si_semantics.specs.Operations.{integer_in}
use Rattle.si_semantics.specs.Subscription as subscription
use Rattle.si_semantics.specs.Subscription.{item_of, item_meant}
use Rattle.si_arena.specs.Memory.{value_of, all_of, list_at}
use Rattle.si_ops.proofs.Changing.{tells_as}
use Rattle.si_ops.proofs.Holding.{list_is}
use Rattle.si_ops.proofs.subscripts.item_in_list.Goals as goal

pub returns : goal.returns
returns c =
    let m = c.args.arena.now in
    let x = c.args.address in
    let rs = c.in-Some.items.now in
    let vs = list_at m x in
    let i = c.in_ok-index.index in
    let fits : FitsSigned w64 i = search rules in
    let is = list_is m x _ c.in-Some.ensures.some.0 in
    tells_as (λ w. subscription.item_in_list vs (integer_in (value_of m c.args.index)) w) (λ w. item_of (all_of m rs) (item_meant (length rs) i) w) m c.member_in.result
    (λ w e. ap (λ j. subscription.item_in_list vs j w) c.in_ok-index.ensures.ok ∙ ap (λ us. item_of us (item_meant (length us) i) w) is ∙ ap (λ n. item_of (all_of m rs) (item_meant n i) w) (length-map rs (value_of m)))
    (rw (to_z-of_z fits) at c.member_in.ensures)

pub unreachable-requires : goal.unreachable-requires
unreachable-requires c = c.in-None.ensures.none (list_at c.args.arena.now c.args.address) c.requires.list
