use Rattle.std.proofs.Common.{sym, ap, ◌∙◌}
use Rattle.si_semantics.specs.Operations.{is_true_object}
use Rattle.si_ops.proofs.Holding.{list_true, dict_true}
use Rattle.si_ops.proofs.truth.is_object_true.Goals as goal

pub returns-in-List : goal.returns-in-List
returns-in-List c =
    list_true c.args.arena.now c.in-List.items.now c.has_any.result c.has_any.ensures ∙ ap is_true_object (sym c.in-List.ensures.object)

pub returns-in-Dict : goal.returns-in-Dict
returns-in-Dict c =
    dict_true c.args.arena.now c.in-Dict.pairs.now c.len.result c.has_any-in-Dict.result c.len.ensures c.has_any-in-Dict.ensures ∙ ap is_true_object (sym c.in-Dict.ensures.object)
