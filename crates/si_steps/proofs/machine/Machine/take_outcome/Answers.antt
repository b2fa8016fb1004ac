use Rattle.std.proofs.Common.{sym, subst}
use Rattle.si_steps.specs.Machines.{HasEnded}
use Rattle.si_steps.proofs.Told.{told_raised}
use Rattle.si_steps.proofs.machine.Machine.take_outcome.Goals as goal

pub returns-in_ok-message-in-Raised : goal.returns-in_ok-message-in-Raised
returns-in_ok-message-in-Raised g c =
    told_raised g.c c.self.inside.state c.in-Raised.address c.kind_at-kind.result c.in_ok-message-in-Raised.message (subst (HasEnded g.c) (sym c.self.view_is) c.requires) c.in-Raised.is
    c.kind_at-kind.ensures c.in_ok-message-in-Raised.ensures
