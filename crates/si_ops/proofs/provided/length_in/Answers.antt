use Rattle.std.proofs.Common.{slice_get, ◌≡◌, ℤ, pos, length, Result, to_z, w64, rules, sym, subst, ap, ◌∙◌}
use Rattle.si_plain.specs.declared.kind.Kind.{Kind}
use Rattle.si_plain.specs.Integers.{in_range}
use Rattle.si_semantics.specs.Value as pure
use Rattle.si_semantics.specs.Operations.{gave, length_of, length_of_object, integer}
use Rattle.si_ops.specs.Runs.{Tells}
use Rattle.si_arena.specs.Memory.{value_of}
use Rattle.si_ops.proofs.Tupled.{items_length}
use Rattle.si_ops.proofs.Changing.{tells_as}
use Rattle.si_ops.proofs.provided.length_in.Goals as goal

pub returns-in-Range : goal.returns-in-Range
returns-in-Range c =
    let m = c.args.arena.now in
    let P : pure.Value → Type 0 = λ v. Tells (λ w. length_of v w) m c.integer.result in
    let Q : Result ℤ Kind → Type 0 = λ r. Tells (λ w. integer r w) m c.integer.result in
    subst P c.in-Range.ensures.value (subst Q (c.with_sign.ensures ∙ ap (λ n. in_range (pos n)) c.items_in.ensures) (c.integer.ensures m))

pub returns-in-Tuple : goal.returns-in-Tuple
returns-in-Tuple c =
    let m = c.args.arena.now in
    let rs = c.in-Tuple.items.now in
    let fits : to_z w64 (length rs) ≡ pos (length rs) = search rules in
    ((λ w e. ap (λ v. length_of v w) (sym c.in-Tuple.ensures.value) ∙ ap (λ n. gave (pure.Int (pos n)) w) (items_length m rs) ∙ ap (λ i. gave (pure.Int i) w) (sym fits)), tt)

pub returns-in-Object : goal.returns-in-Object
returns-in-Object c =
    let m = c.args.arena.now in
    let x = c.in-Object.address in
    tells_as (λ w. length_of (value_of m c.args.value) w) (λ w. length_of_object (slice_get m.store x) w) m c.length_at.result
    (λ w e. ap (λ v. length_of v w) (sym c.in-Object.ensures.value) ∙ ap (λ s. length_of_object (slice_get s x) w) e) c.length_at.ensures
