use Rattle.std.proofs.Common.{Err, refl, sym, ap, subst, FitsSigned, w64, to_z-of_z, rules, slice_set}
use Rattle.si_semantics.specs.Value as pure
use Rattle.si_semantics.specs.Operations.{integer_in}
use Rattle.si_semantics.specs.Containers as containers
use Rattle.si_arena.specs.declared.cause.Cause.{Cause}
use Rattle.si_arena.specs.Memory.{value_of, list_at}
use Rattle.si_ops.proofs.Changing.{throws_wrong, throws_outside}
use Rattle.si_ops.proofs.Setting.{changed_changes, item_is_set, no_item_is_set}
use Rattle.si_ops.specs.Changes.{Changes}
use Rattle.si_arena.specs.declared.cause.Fault.TheVariants.{Raises}
use Rattle.si_ops.proofs.changes.set_in_list.Goals as goal

pub returns-in-Some-clause-changes : goal.returns-in-Some-clause-changes
returns-in-Some-clause-changes c =
    let m = c.args.arena.now in
    let x = c.args.address in
    let vs = list_at m x in
    let v = value_of m c.args.index in
    let z = value_of m c.args.value in
    let n = c.in-Ok.n in
    let fits : FitsSigned w64 n = search rules in
    let k = rw (to_z-of_z fits) at c.in-Some.ensures in
    changed_changes (λ w. containers.set_in_list x vs (integer_in v) z w) x (pure.Items (slice_set vs c.in-Some.at z)) m c.set_item.new.self (λ w e. item_is_set x vs (integer_in v) n w c.in-Ok.ensures.ok z c.in-Some.at k.1) c.set_item.ensures

pub returns-in-None-clause-changes : goal.returns-in-None-clause-changes
returns-in-None-clause-changes c =
    let m = c.args.arena.now in
    let x = c.args.address in
    let vs = list_at m x in
    let v = value_of m c.args.index in
    let z = value_of m c.args.value in
    let n = c.in-Ok.n in
    let fits : FitsSigned w64 n = search rules in
    let k = rw (to_z-of_z fits) at c.in-None.ensures in
    (throws_outside (λ w. containers.set_in_list x vs (integer_in v) z w) m (λ w e. no_item_is_set x vs (integer_in v) n w c.in-Ok.ensures.ok z (k c.requires.list)), refl)

pub returns-in-Err-clause-changes : goal.returns-in-Err-clause-changes
returns-in-Err-clause-changes c =
    let m = c.args.arena.now in
    let x = c.args.address in
    let vs = list_at m x in
    let v = value_of m c.args.index in
    let z = value_of m c.args.value in
    let P : Cause → Type 0 = λ q. Changes (λ w. containers.set_in_list x vs (integer_in v) z w) m m (Err (Raises q)) in
    subst P (sym c.in-Err.ensures.err.1) (throws_wrong (λ w. containers.set_in_list x vs (integer_in v) z w) m (λ w e. ap (λ i. containers.set_in_list x vs i z w) c.in-Err.ensures.err.0), refl)
