use Rattle.std.proofs.Common.{arith}
use Rattle.si_history.specs.History.{further_id}
use Rattle.si_history.proofs.Adds.{adds_number}
use Rattle.si_history.proofs.ids.push_further_ids.Goals as goal

pub ids-preserved : goal.ids-preserved
ids-preserved c =
    adds_number further_id c.args.ids.now c.ids.id-index c.from.result _ _ _ (omega arith) c.from.ensures c.ids.invariant c.in_ok-push_numbered.ensures
