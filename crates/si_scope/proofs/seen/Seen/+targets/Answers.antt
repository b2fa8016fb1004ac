use Rattle.std.proofs.Common.{sym}
use Rattle.si_scope.proofs.Bound.{next_target, last_target}
use Rattle.si_scope.proofs.seen.Seen.+targets.Goals as goal

pub bind_targets-loop-target-preserved : goal.bind_targets-loop-target-preserved
bind_targets-loop-target-preserved t c =
    next_target c.args.targets.now c.loop-target.target-index c.target-item.result c.args.self.now c.loop-target.self c.bind_target.new.self c.loop-target-test.true (sym c.target-item.is) c.loop-target.invariant c.in_ok-bind_target.ensures

pub bind_targets-returns : goal.bind_targets-returns
bind_targets-returns t c = last_target c.args.targets.now c.loop-target.target-index c.args.self.now c.loop-target.self c.loop-target-test.false c.loop-target.invariant
