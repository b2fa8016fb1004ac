use Rattle.std.proofs.Common.{◌≡◌, refl, ap, ◌∙◌, slice_get}
use Rattle.si_semantics.specs.Value as pure
use Rattle.si_semantics.specs.Operations.{integer_in}
use Rattle.si_semantics.specs.Containers as containers
use Rattle.si_arena.specs.Memory.{value_of, list_at, dict_at}
use Rattle.si_ops.proofs.Changing.{throws_wrong, takes_item_as}
use Rattle.si_ops.proofs.Popping.{here, pop_item_at, pop_item_plain}
use Rattle.si_ops.proofs.keyed.pop_item.Goals as goal

pub returns-in-List : goal.returns-in-List
returns-in-List c =
    let m = c.args.arena.now in
    let i = integer_in (value_of m c.args.index) in
    let x = c.args.address in
    let y = c.in-List.list in
    let h = c.in-List.ensures in
    let same : x ≡ y = cc (h.0) in
    takes_item_as (λ w. containers.pop_item x (slice_get w.store x) i w) (λ w. containers.pop_in_list y (list_at m y) i w) m c.pop_in_list.new.arena c.pop_in_list.result
    (λ w e. pop_item_at m x w e (pure.Items (list_at m y)) i (here m x y (pure.Items (list_at m y)) h.0 h.2) ∙ ap (λ z. containers.pop_in_list z (list_at m y) i w) same) c.pop_in_list.ensures

pub returns-in-Dict : goal.returns-in-Dict
returns-in-Dict c =
    let m = c.args.arena.now in
    let i = integer_in (value_of m c.args.index) in
    let x = c.args.address in
    let y = c.in-Dict.field-0 in
    let h = c.in-Dict.ensures in
    (throws_wrong (λ w. containers.pop_item x (slice_get w.store x) i w) m (λ w e. pop_item_at m x w e (pure.Pairs (dict_at m y)) i (here m x y (pure.Pairs (dict_at m y)) h.0 h.2)), refl)

pub returns-in-Other : goal.returns-in-Other
returns-in-Other c =
    let m = c.args.arena.now in
    let i = integer_in (value_of m c.args.index) in
    let x = c.args.address in
    (throws_wrong (λ w. containers.pop_item x (slice_get w.store x) i w) m (λ w e. pop_item_plain m x w e i c.in-Other.ensures), refl)
