use Rattle.std.proofs.Common.{sym, subst}
use Rattle.si_semantics.specs.Value as pure
use Rattle.si_semantics.specs.Dicts.{key_of}
use Rattle.si_semantics.specs.Operations.{integer_in}
use Rattle.si_semantics.specs.Subscription.{subscript, item_at, item_in_list, value_in_dict}
use Rattle.si_arena.specs.Memory.{value_of, list_at, dict_at}
use Rattle.si_ops.specs.Runs.{Finds}
use Rattle.si_ops.proofs.Subscribing.{finds_of, finds_as, subscript_at, subscript_plain}
use Rattle.si_ops.proofs.subscripts.subscript_any.Goals as goal

pub returns-in-List : goal.returns-in-List
returns-in-List c =
    let m = c.args.arena.now in
    let u = value_of m c.args.object in
    let v = value_of m c.args.index in
    let x = c.in-List.address in
    let h = c.in-List.ensures in
    let f = finds_of (λ w. item_in_list (list_at m x) (integer_in v) w) v m c.item_in_list.result c.item_in_list.ensures in
    subst (Finds (λ w. subscript u v w) v m) (sym c.found.ensures) (finds_as (λ w. subscript u v w) (λ w. item_in_list (list_at m x) (integer_in v) w) v m _ (λ w e. subscript_at m u v x (pure.Items (list_at m x)) w h.0 h.2 e) f)

pub returns-in-Dict : goal.returns-in-Dict
returns-in-Dict c =
    let m = c.args.arena.now in
    let u = value_of m c.args.object in
    let v = value_of m c.args.index in
    let x = c.in-Dict.address in
    let h = c.in-Dict.ensures in
    finds_as (λ w. subscript u v w) (λ w. value_in_dict (dict_at m x) v (key_of v) w) v m c.value_in_dict.result (λ w e. subscript_at m u v x (pure.Pairs (dict_at m x)) w h.0 h.2 e) c.value_in_dict.ensures

pub returns-in-Other : goal.returns-in-Other
returns-in-Other c =
    let m = c.args.arena.now in
    let u = value_of m c.args.object in
    let v = value_of m c.args.index in
    let f = finds_of (λ w. item_at u (integer_in v) w) v m c.item_in.result c.item_in.ensures in
    subst (Finds (λ w. subscript u v w) v m) (sym c.found-in-Other.ensures) (finds_as (λ w. subscript u v w) (λ w. item_at u (integer_in v) w) v m _ (λ w e. subscript_plain m u v w c.in-Other.ensures e) f)
