use Rattle.std.proofs.Common.{FitsSigned, w64, to_z-of_z, rules, ap, subst, ◌∙◌, slice_set}
use Rattle.si_semantics.specs.Value as pure
use Rattle.si_semantics.specs.Operations.{integer_in}
use Rattle.si_semantics.specs.Containers as containers
use Rattle.si_arena.specs.Memory.{value_of, list_at, Lies}
use Rattle.si_ops.proofs.Setting.{changed_changes, set_at, item_is_set}
use Rattle.si_ops.proofs.changes.set_item.Goals as goal

pub place_in-requires : goal.place_in-requires
place_in-requires c = subst (Lies c.args.arena.now) c.in-Object-Int.is-0 c.requires.object

pub returns-in-Some-clause-changes : goal.returns-in-Some-clause-changes
returns-in-Some-clause-changes c =
    let m = c.args.arena.now in
    let x = c.in-Object-Int.address in
    let n = c.in-Object-Int.n in
    let u = value_of m c.args.object in
    let v = value_of m c.args.index in
    let z = value_of m c.args.value in
    let vs = list_at m x in
    let fits : FitsSigned w64 n = search rules in
    let hu = ap (value_of m) c.in-Object-Int.is-0 in
    let hv = ap (λ r. integer_in (value_of m r)) c.in-Object-Int.is-1 in
    let h = rw (to_z-of_z fits) at c.in-Some.ensures in
    changed_changes (λ w. containers.set_item u v z w) x (pure.Items (slice_set vs c.in-Some.at z)) m c.set_item.new.self (λ w e. set_at m u v z x (pure.Items vs) w hu h.0 e ∙ item_is_set x vs (integer_in v) n w hv z c.in-Some.at h.1) c.set_item.ensures
