use Rattle.std.proofs.Common.{refl}
use Rattle.si_semantics.specs.Value as pure
use Rattle.si_semantics.specs.Dicts.{key_of}
use Rattle.si_semantics.specs.Operations.{integer_in}
use Rattle.si_semantics.specs.Containers as containers
use Rattle.si_arena.specs.Memory.{value_of, list_at, dict_at}
use Rattle.si_ops.proofs.Changing.{changes_as, throws_wrong}
use Rattle.si_ops.proofs.Setting.{no_dict_here, set_at, set_plain}
use Rattle.si_ops.proofs.changes.set_any.Goals as goal

pub returns-in-List-clause-changes : goal.returns-in-List-clause-changes
returns-in-List-clause-changes c =
    let m = c.args.arena.now in
    let u = value_of m c.args.object in
    let v = value_of m c.args.index in
    let z = value_of m c.args.value in
    let x = c.in-List.address in
    let h = c.in-List.ensures in
    changes_as (λ w. containers.set_item u v z w) (λ w. containers.set_in_list x (list_at m x) (integer_in v) z w) m c.set_in_list.new.arena c.set_in_list.result (λ w e. set_at m u v z x (pure.Items (list_at m x)) w h.0 h.2 e) c.set_in_list.ensures.changes

pub returns-in-Dict-clause-changes : goal.returns-in-Dict-clause-changes
returns-in-Dict-clause-changes c =
    let m = c.args.arena.now in
    let u = value_of m c.args.object in
    let v = value_of m c.args.index in
    let z = value_of m c.args.value in
    let x = c.in-Dict.address in
    let h = c.in-Dict.ensures in
    changes_as (λ w. containers.set_item u v z w) (λ w. containers.set_in_dict x (dict_at m x) (key_of v) z w) m c.set_in_dict.new.arena c.set_in_dict.result (λ w e. set_at m u v z x (pure.Pairs (dict_at m x)) w h.0 h.2 e) c.set_in_dict.ensures

pub returns-in-Other-clause-changes : goal.returns-in-Other-clause-changes
returns-in-Other-clause-changes c =
    let m = c.args.arena.now in
    let u = value_of m c.args.object in
    let v = value_of m c.args.index in
    let z = value_of m c.args.value in
    (throws_wrong (λ w. containers.set_item u v z w) m (λ w e. set_plain m u v z w c.in-Other.ensures e), refl)

pub returns-in-Dict-clause-memory : goal.returns-in-Dict-clause-memory
returns-in-Dict-clause-memory c = λ other.
    let m = c.args.arena.now in
    let h = c.in-Dict.ensures in
    absurd (no_dict_here m (value_of m c.args.object) c.in-Dict.address h.0 h.2 other)
