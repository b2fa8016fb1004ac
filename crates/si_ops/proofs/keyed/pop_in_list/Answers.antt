use Rattle.std.proofs.Common.{Err, refl, sym, ap, subst, FitsSigned, w64, to_z-of_z, rules}
use Rattle.si_semantics.specs.Value as pure
use Rattle.si_semantics.specs.Operations.{integer_in}
use Rattle.si_semantics.specs.Containers as containers
use Rattle.si_arena.specs.declared.cause.Cause.{Cause}
use Rattle.si_arena.specs.Memory.{value_of, list_at}
use Rattle.si_ops.specs.Changes.{TakesItem}
use Rattle.si_ops.proofs.Changing.{throws_wrong, throws_outside, changed_gives, extends_changed}
use Rattle.si_ops.proofs.Setting.{item_is_taken, no_item_is_taken}
use Rattle.si_ops.proofs.keyed.pop_in_list.Goals as goal

pub returns-in-Some : goal.returns-in-Some
returns-in-Some c =
    let m = c.args.arena.now in
    let x = c.args.address in
    let vs = list_at m x in
    let v = value_of m c.args.index in
    let n = c.in-Ok.n in
    let fits : FitsSigned w64 n = search rules in
    let k = rw (to_z-of_z fits) at c.in-Some.ensures in
    let o = pure.Items (containers.without_item c.in-Some.at vs) in
    let new = c.remove_item.new.self in
    let r = c.remove_item.result in
    (changed_gives (λ w. containers.pop_in_list x vs (integer_in v) w) x o (value_of new r) m new (λ w e. item_is_taken x vs (integer_in v) n w c.in-Ok.ensures.ok c.in-Some.at (value_of new r) k.1 c.remove_item.ensures.item) c.remove_item.ensures.rest, c.remove_item.ensures.lies, extends_changed m new x o c.remove_item.ensures.rest)

pub returns-in-None : goal.returns-in-None
returns-in-None c =
    let m = c.args.arena.now in
    let x = c.args.address in
    let vs = list_at m x in
    let v = value_of m c.args.index in
    let n = c.in-Ok.n in
    let fits : FitsSigned w64 n = search rules in
    let k = rw (to_z-of_z fits) at c.in-None.ensures in
    (throws_outside (λ w. containers.pop_in_list x vs (integer_in v) w) m (λ w e. no_item_is_taken x vs (integer_in v) n w c.in-Ok.ensures.ok (k c.requires.list)), refl)

pub returns-in-Err : goal.returns-in-Err
returns-in-Err c =
    let m = c.args.arena.now in
    let x = c.args.address in
    let vs = list_at m x in
    let v = value_of m c.args.index in
    let P : Cause → Type 0 = λ q. TakesItem (λ w. containers.pop_in_list x vs (integer_in v) w) m m (Err q) in
    subst P (sym c.in-Err.ensures.err.1) (throws_wrong (λ w. containers.pop_in_list x vs (integer_in v) w) m (λ w e. ap (λ i. containers.pop_in_list x vs i w) c.in-Err.ensures.err.0), refl)
