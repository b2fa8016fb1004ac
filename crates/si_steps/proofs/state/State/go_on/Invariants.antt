use Rattle.std.proofs.Common.{drop}
use Rattle.si_steps.proofs.state.State.go_on.Given as goal

abbrev pub ghost-leave_raised : goal.ghost-leave_raised
ghost-leave_raised g a = record g.p { bs = drop 1 g.p.bs }

abbrev pub ghost-leave_suite : goal.ghost-leave_suite
ghost-leave_suite g a = record g.p { bs = drop 1 g.p.bs }
