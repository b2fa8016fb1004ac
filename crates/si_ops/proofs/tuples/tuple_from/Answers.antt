use Rattle.std.proofs.Common.{sym, ap, ◌∙◌}
use Rattle.si_semantics.specs.Operations as operations
use Rattle.si_arena.specs.Memory.{value_of}
use Rattle.si_ops.proofs.Changing.{runs_as}
use Rattle.si_ops.proofs.tuples.tuple_from.Goals as goal

pub returns-in-Object-clause-runs : goal.returns-in-Object-clause-runs
returns-in-Object-clause-runs c =
    let m = c.args.arena.now in
    let v = value_of m c.args.value in
    let h = c.in-Object.ensures.value in
    runs_as (λ w. operations.tuple_from v w) (λ w. operations.tuple_made (operations.items_from v w) w) m c.place_gone_over.new.arena c.place_gone_over.result (λ w e. ap (λ u. operations.tuple_from u w) (sym h) ∙ ap (λ u. operations.tuple_made (operations.items_from u w) w) h) c.place_gone_over.ensures.runs
