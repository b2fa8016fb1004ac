use Rattle.std.proofs.Common.{arith}
use Rattle.si_history.specs.History.{name_text}
use Rattle.si_history.proofs.Adds.{adds_piece}
use Rattle.si_history.proofs.names.push_names.Goals as goal

pub pairs-preserved : goal.pairs-preserved
pairs-preserved c =
    adds_piece name_text c.args.pairs.now c.pairs.pair-index c.pair-item.result _ _ _ (omega arith) c.pair-item.is c.pairs.invariant c.in_ok-push_name.ensures
