use Rattle.std.proofs.Common.{◌≡◌, ◌+◌, ◌-◌, ◌≤◌}
use Rattle.si_steps.specs.declared.step.Step.TheVariants as line
use Rattle.si_interp.specs.inner.Keeps.{moment_of}
use Rattle.si_interp.specs.inner.Lines.{GoneOn}
use Rattle.si_interp.proofs.interp.lines.Given as goal

abbrev pub ghost-line : goal.ghost-line
ghost-line a = moment_of a.id a.log.now.items (a.locals + a.given)

abbrev pub invariant-loop-given : goal.invariant-loop-given
invariant-loop-given l = record {
  gone : GoneOn l.id l.log.items l.locals l.fn.machine l.given l.machine;
  within : l.given ≤ l.most;
  local : l.came ≡ line.Local;
}

abbrev pub decreases-loop-given : goal.decreases-loop-given
decreases-loop-given l = l.most - l.given
