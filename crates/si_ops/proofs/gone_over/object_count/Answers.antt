use Rattle.std.proofs.Common.{Some, length, sym, ap, ◌∙◌}
use Rattle.std.specs.Prelude.{option_map}
use Rattle.std.proofs.lemmas.List.{length-map}
use Rattle.si_semantics.specs.Operations.{items_of_object}
use Rattle.si_arena.specs.Memory.{value_of, object_of, pairs_of}
use Rattle.si_ops.proofs.Equal.{plain_object}
use Rattle.si_ops.proofs.Holding.{count_pairs}
use Rattle.si_ops.proofs.GoneOver.{keys_count, plain_gives}
use Rattle.si_ops.proofs.gone_over.object_count.Goals as goal

pub returns-in-List : goal.returns-in-List
returns-in-List c =
    let m = c.args.arena.now in
    ap Some (sym (length-map c.in-List.items.now (value_of m))) ∙ ap (λ o. option_map length (items_of_object o)) (sym c.in-List.ensures.object)

pub returns-in-Dict : goal.returns-in-Dict
returns-in-Dict c =
    let m = c.args.arena.now in
    let es = c.in-Dict.pairs.now in
    ap Some (c.len.ensures ∙ sym (keys_count (pairs_of m es) ∙ count_pairs m es)) ∙ ap (λ o. option_map length (items_of_object o)) (sym c.in-Dict.ensures.object)

pub returns-in-Plain : goal.returns-in-Plain
returns-in-Plain c =
    let m = c.args.arena.now in
    sym (ap (λ o. option_map length (items_of_object o)) c.in-Plain.ensures.object ∙ ap (option_map length) (plain_gives (Some (object_of m c.in-Plain.field-0)) (plain_object m c.in-Plain.field-0)))
