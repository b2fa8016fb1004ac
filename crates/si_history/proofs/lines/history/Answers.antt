use Rattle.std.proofs.Common.{arith}
use Rattle.si_history.proofs.LineEnds.{line_added}
use Rattle.si_history.proofs.lines.history.Goals as goal

pub calls-preserved : goal.calls-preserved
calls-preserved c =
    line_added c.args.journal.now c.calls.at c.index-journal-at.result _ _ _ (omega arith) c.index-journal-at.is c.calls.invariant c.in_ok-push_call.ensures
