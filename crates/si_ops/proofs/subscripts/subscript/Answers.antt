use Rattle.std.proofs.Common.{FitsSigned, w64, to_z-of_z, rules, ap, subst, ◌∙◌, slice_get}
use Rattle.si_semantics.specs.Value as pure
use Rattle.si_semantics.specs.Subscription.{subscript, object_item}
use Rattle.si_arena.specs.Memory.{value_of, Lies}
use Rattle.si_ops.proofs.subscripts.subscript.Goals as goal

pub listed_at-requires : goal.listed_at-requires
listed_at-requires c = subst (Lies c.args.arena.now) c.in-Object-Int.is-0 c.requires.object

pub returns-in-Some : goal.returns-in-Some
returns-in-Some c =
    let m = c.args.arena.now in
    let x = c.in-Object-Int.address in
    let n = c.in-Object-Int.n in
    let v = value_of m c.args.index in
    let fits : FitsSigned w64 n = search rules in
    let hu = ap (value_of m) c.in-Object-Int.is-0 in
    let hv = ap (value_of m) c.in-Object-Int.is-1 in
    let h = rw (to_z-of_z fits) at c.in-Some.ensures in
    ((λ w e. ap (λ z. subscript z v w) hu ∙ ap (λ z. object_item (slice_get w.store x) z w) hv ∙ h.0 w e), h.1)
