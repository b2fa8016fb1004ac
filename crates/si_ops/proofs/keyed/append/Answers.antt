use Rattle.std.proofs.Common.{◌≡◌, refl, sym, subst, slice_get}
use Rattle.si_semantics.specs.Value as pure
use Rattle.si_semantics.specs.Containers as containers
use Rattle.si_arena.specs.Memory.{value_of, dict_at}
use Rattle.si_ops.specs.Changes.{Changes}
use Rattle.si_ops.proofs.Changing.{throws_wrong}
use Rattle.si_ops.proofs.Popping.{here, append_at, append_plain}
use Rattle.si_ops.proofs.keyed.append.Goals as goal

pub returns-in-List : goal.returns-in-List
returns-in-List c =
    let m = c.args.arena.now in
    let v = value_of m c.args.value in
    let h = c.in-List.ensures in
    let same : c.args.address ≡ c.in-List.list = cc (h.0) in
    subst (λ x. Changes (λ w. containers.append x (slice_get w.store x) v w) m c.append_to.new.arena c.append_to.result) (sym same) c.append_to.ensures

pub returns-in-Dict : goal.returns-in-Dict
returns-in-Dict c =
    let m = c.args.arena.now in
    let v = value_of m c.args.value in
    let x = c.args.address in
    let y = c.in-Dict.field-0 in
    let h = c.in-Dict.ensures in
    (throws_wrong (λ w. containers.append x (slice_get w.store x) v w) m (λ w e. append_at m x w e (pure.Pairs (dict_at m y)) v (here m x y (pure.Pairs (dict_at m y)) h.0 h.2)), refl)

pub returns-in-Other : goal.returns-in-Other
returns-in-Other c =
    let m = c.args.arena.now in
    let v = value_of m c.args.value in
    let x = c.args.address in
    (throws_wrong (λ w. containers.append x (slice_get w.store x) v w) m (λ w e. append_plain m x w e v c.in-Other.ensures), refl)
