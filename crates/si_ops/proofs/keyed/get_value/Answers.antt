use Rattle.std.proofs.Common.{slice_get}
use Rattle.si_semantics.specs.Value as pure
use Rattle.si_semantics.specs.Dicts.{key_of}
use Rattle.si_semantics.specs.Containers as containers
use Rattle.si_arena.specs.Memory.{value_of, list_at, dict_at}
use Rattle.si_ops.proofs.Changing.{throws_wrong, tells_as}
use Rattle.si_ops.proofs.Popping.{here, get_value_at, get_value_plain}
use Rattle.si_ops.proofs.keyed.get_value.Goals as goal

pub returns-in-Dict : goal.returns-in-Dict
returns-in-Dict c =
    let m = c.args.arena.now in
    let k = value_of m c.args.key in
    let z = value_of m c.args.other in
    let x = c.args.address in
    let y = c.in-Dict.dict in
    let h = c.in-Dict.ensures in
    tells_as (λ w. containers.get_value (slice_get w.store x) k z w) (λ w. containers.get_in_dict (dict_at m y) (key_of k) z w) m c.get_in_dict.result
    (λ w e. get_value_at m x w e (pure.Pairs (dict_at m y)) k z (here m x y (pure.Pairs (dict_at m y)) h.0 h.2)) c.get_in_dict.ensures

pub returns-in-List : goal.returns-in-List
returns-in-List c =
    let m = c.args.arena.now in
    let k = value_of m c.args.key in
    let z = value_of m c.args.other in
    let x = c.args.address in
    let y = c.in-List.field-0 in
    let h = c.in-List.ensures in
    throws_wrong (λ w. containers.get_value (slice_get w.store x) k z w) m (λ w e. get_value_at m x w e (pure.Items (list_at m y)) k z (here m x y (pure.Items (list_at m y)) h.0 h.2))

pub returns-in-Other : goal.returns-in-Other
returns-in-Other c =
    let m = c.args.arena.now in
    let k = value_of m c.args.key in
    let z = value_of m c.args.other in
    let x = c.args.address in
    throws_wrong (λ w. containers.get_value (slice_get w.store x) k z w) m (λ w e. get_value_plain m x w e k z c.in-Other.ensures)
