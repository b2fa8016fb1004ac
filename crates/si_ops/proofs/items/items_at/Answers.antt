use Rattle.std.proofs.Common.{Some, sym, ap, ◌∙◌}
use Rattle.si_semantics.specs.Operations.{iterator_at, Keys}
use Rattle.si_arena.specs.Memory.{object_of}
use Rattle.si_ops.proofs.Equal.{plain_object}
use Rattle.si_ops.proofs.Holding.{plain_iterator, count_pairs}
use Rattle.si_ops.proofs.items.items_at.Goals as goal

pub returns-in-List-clause-items : goal.returns-in-List-clause-items
returns-in-List-clause-items c = λ m. ap (iterator_at c.args.address) (sym c.in-List.ensures.object)

pub returns-in-Dict-clause-items : goal.returns-in-Dict-clause-items
returns-in-Dict-clause-items c = λ m.
    ap (λ n. Some (Keys c.args.address 0 n)) (c.len.ensures ∙ sym (count_pairs c.args.arena.now c.in-Dict.pairs.now)) ∙ ap (iterator_at c.args.address) (sym c.in-Dict.ensures.object)

pub returns-in-Plain-clause-items : goal.returns-in-Plain-clause-items
returns-in-Plain-clause-items c = λ m.
    let a = c.args.arena.now in
    sym (ap (iterator_at c.args.address) c.in-Plain.ensures.object ∙ plain_iterator c.args.address (Some (object_of a c.in-Plain.field-0)) (plain_object a c.in-Plain.field-0))
