use Rattle.std.proofs.Common.{◌≡◌, slice_get, ℤ, pos, length, Some, Result, to_z, w64, rules, sym, subst, ap, ◌∙◌}
use Rattle.std.proofs.lemmas.List.{length-map}
use Rattle.si_plain.specs.declared.kind.Kind.{Kind}
use Rattle.si_plain.specs.Integers.{in_range}
use Rattle.si_semantics.specs.Value as pure
use Rattle.si_semantics.specs.Operations.{gave, length_of_object, integer}
use Rattle.si_arena.specs.Memory.{value_of, object_of, pairs_of}
use Rattle.si_ops.specs.Runs.{Tells}
use Rattle.si_ops.proofs.Equal.{plain_object}
use Rattle.si_ops.proofs.Changing.{tells_as, throws_wrong}
use Rattle.si_ops.proofs.Holding.{count_pairs, plain_length}
use Rattle.si_ops.proofs.provided.length_at.Goals as goal

pub returns-in-List : goal.returns-in-List
returns-in-List c =
    let m = c.args.arena.now in
    let rs = c.in-List.items.now in
    let fits : to_z w64 (length rs) ≡ pos (length rs) = search rules in
    ((λ w e. ap (λ o. length_of_object o w) c.in-List.ensures.object ∙ ap (λ n. gave (pure.Int (pos n)) w) (length-map rs (value_of m)) ∙ ap (λ i. gave (pure.Int i) w) (sym fits)), tt)

pub returns-in-Dict : goal.returns-in-Dict
returns-in-Dict c =
    let m = c.args.arena.now in
    let Q : Result ℤ Kind → Type 0 = λ r. Tells (λ w. integer r w) m c.integer.result in
    let count = c.with_sign.ensures ∙ ap (λ n. in_range (pos n)) (c.len.ensures ∙ sym (count_pairs m c.in-Dict.pairs.now)) in
    tells_as (λ w. length_of_object (slice_get m.store c.args.address) w) (λ w. integer (in_range (pos (length (pairs_of m c.in-Dict.pairs.now)))) w) m c.integer.result (λ w e. ap (λ o. length_of_object o w) c.in-Dict.ensures.object) (subst Q count (c.integer.ensures m))

pub returns-in-Plain : goal.returns-in-Plain
returns-in-Plain c =
    let m = c.args.arena.now in
    throws_wrong (λ w. length_of_object (slice_get m.store c.args.address) w) m (λ w e. ap (λ o. length_of_object o w) c.in-Plain.ensures.object ∙ plain_length (Some (object_of m c.in-Plain.field-0)) w (plain_object m c.in-Plain.field-0))
