use Rattle.std.proofs.Common.{◌≡◌, refl, ap, ◌∙◌, slice_get}
use Rattle.si_semantics.specs.Value as pure
use Rattle.si_semantics.specs.Dicts.{key_of}
use Rattle.si_semantics.specs.Containers as containers
use Rattle.si_arena.specs.Memory.{value_of, list_at, dict_at}
use Rattle.si_ops.proofs.Changing.{throws_wrong, takes_as}
use Rattle.si_ops.proofs.Popping.{here, pop_value_at, pop_value_plain}
use Rattle.si_ops.proofs.keyed.pop_value.Goals as goal

pub returns-in-Dict : goal.returns-in-Dict
returns-in-Dict c =
    let m = c.args.arena.now in
    let k = value_of m c.args.key in
    let x = c.args.address in
    let y = c.in-Dict.dict in
    let h = c.in-Dict.ensures in
    let same : x ≡ y = cc (h.0) in
    takes_as (λ w. containers.pop_value x (slice_get w.store x) k w) (λ w. containers.pop_in_dict y (dict_at m y) k (key_of k) w) k m c.pop_in_dict.new.arena c.pop_in_dict.result
    (λ w e. pop_value_at m x w e (pure.Pairs (dict_at m y)) k (here m x y (pure.Pairs (dict_at m y)) h.0 h.2) ∙ ap (λ z. containers.pop_in_dict z (dict_at m y) k (key_of k) w) same) c.pop_in_dict.ensures

pub returns-in-List : goal.returns-in-List
returns-in-List c =
    let m = c.args.arena.now in
    let k = value_of m c.args.key in
    let x = c.args.address in
    let y = c.in-List.field-0 in
    let h = c.in-List.ensures in
    (throws_wrong (λ w. containers.pop_value x (slice_get w.store x) k w) m (λ w e. pop_value_at m x w e (pure.Items (list_at m y)) k (here m x y (pure.Items (list_at m y)) h.0 h.2)), refl)

pub returns-in-Other : goal.returns-in-Other
returns-in-Other c =
    let m = c.args.arena.now in
    let k = value_of m c.args.key in
    let x = c.args.address in
    (throws_wrong (λ w. containers.pop_value x (slice_get w.store x) k w) m (λ w e. pop_value_plain m x w e k c.in-Other.ensures), refl)
