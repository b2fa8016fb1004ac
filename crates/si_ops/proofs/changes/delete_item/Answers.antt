use Rattle.std.proofs.Common.{refl}
use Rattle.si_semantics.specs.Value as pure
use Rattle.si_semantics.specs.Dicts.{key_of}
use Rattle.si_semantics.specs.Operations.{integer_in}
use Rattle.si_semantics.specs.Containers as containers
use Rattle.si_arena.specs.Memory.{value_of, list_at, dict_at}
use Rattle.si_ops.proofs.Changing.{deletes_as, throws_wrong}
use Rattle.si_ops.proofs.Setting.{delete_at, delete_plain}
use Rattle.si_ops.proofs.changes.delete_item.Goals as goal

pub returns-in-List : goal.returns-in-List
returns-in-List c =
    let m = c.args.arena.now in
    let u = value_of m c.args.object in
    let v = value_of m c.args.index in
    let x = c.in-List.address in
    let h = c.in-List.ensures in
    deletes_as (λ w. containers.delete_item u v w) (λ w. containers.delete_in_list x (list_at m x) (integer_in v) w) v m c.delete_in_list.new.arena c.delete_in_list.result (λ w e. delete_at m u v x (pure.Items (list_at m x)) w h.0 h.2 e) c.delete_in_list.ensures

pub returns-in-Dict : goal.returns-in-Dict
returns-in-Dict c =
    let m = c.args.arena.now in
    let u = value_of m c.args.object in
    let v = value_of m c.args.index in
    let x = c.in-Dict.address in
    let h = c.in-Dict.ensures in
    deletes_as (λ w. containers.delete_item u v w) (λ w. containers.delete_in_dict x (dict_at m x) v (key_of v) w) v m c.delete_in_dict.new.arena c.delete_in_dict.result (λ w e. delete_at m u v x (pure.Pairs (dict_at m x)) w h.0 h.2 e) c.delete_in_dict.ensures

pub returns-in-Other : goal.returns-in-Other
returns-in-Other c =
    let m = c.args.arena.now in
    let u = value_of m c.args.object in
    let v = value_of m c.args.index in
    (throws_wrong (λ w. containers.delete_item u v w) m (λ w e. delete_plain m u v w c.in-Other.ensures e), refl)
