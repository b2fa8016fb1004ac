use Rattle.std.proofs.Common.{◌≤◌, ◌-◌}
use Rattle.si_world.specs.inner.Serving.{Gives}
use Rattle.si_world.proofs.world.World.serial.Given as goal

abbrev pub invariant-loop-given : goal.invariant-loop-given
invariant-loop-given l = record { gives : Gives 0 l.fn.self l.given l.self 64; within : l.given ≤ l.budget }

abbrev pub decreases-loop-given : goal.decreases-loop-given
decreases-loop-given l = l.budget - l.given
