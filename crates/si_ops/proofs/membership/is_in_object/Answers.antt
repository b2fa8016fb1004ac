use Rattle.std.proofs.Common.{Some, sym, ap, ◌∙◌}
use Rattle.si_semantics.specs.Dicts.{key_of}
use Rattle.si_semantics.specs.Operations.{object_contains, is_key}
use Rattle.si_arena.specs.Memory.{value_of, object_of, pairs_of}
use Rattle.si_ops.proofs.Equal.{plain_object}
use Rattle.si_ops.proofs.Holding.{dict_is, plain_contains}
use Rattle.si_ops.proofs.membership.is_in_object.Goals as goal

pub returns-in-List : goal.returns-in-List
returns-in-List c = λ w e.
    ap (λ o. object_contains o (value_of c.args.arena.now c.args.item) w) c.in-List.ensures.object ∙ c.is_any_of.ensures w e

pub returns-in-Dict : goal.returns-in-Dict
returns-in-Dict c = λ w e.
    let m = c.args.arena.now in
    let v = value_of m c.args.item in
    ap (λ o. object_contains o v w) c.in-Dict.ensures.object ∙ ap (is_key (key_of v)) (sym (dict_is m c.args.address (pairs_of m c.in-Dict.field-0.now) c.in-Dict.ensures.object)) ∙ c.is_key_at.ensures

pub returns-in-Plain : goal.returns-in-Plain
returns-in-Plain c = λ w e.
    let m = c.args.arena.now in
    ap (λ o. object_contains o (value_of m c.args.item) w) c.in-Plain.ensures.object ∙ plain_contains (Some (object_of m c.in-Plain.field-0)) (value_of m c.args.item) w (plain_object m c.in-Plain.field-0)
