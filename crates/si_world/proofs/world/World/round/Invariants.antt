use Rattle.std.proofs.Common.{◌≡◌, ◌<◌, ◌≤◌, ◌-◌, ℕ, false}
use Rattle.si_world.specs.inner.Serving.{Gives, round_idle}
use Rattle.si_world.proofs.Resting.{Rests}
use Rattle.si_world.proofs.world.World.round.Given as goal

abbrev pub invariant-loop-i : goal.invariant-loop-i
invariant-loop-i l = record {
  gives : (t : ℕ) → t ≤ 64 → Gives t l.fn.self l.given l.self (round_idle l.moved l.i t);
  within : l.given ≤ l.left;
  stints : l.i ≤ 64;
  some : 0 < l.i → 0 < l.left → 0 < l.given;
  rests : l.moved ≡ false → l.given < l.left → Rests l.fn.self l.i l.self;
}

abbrev pub decreases-loop-i : goal.decreases-loop-i
decreases-loop-i l = 64 - l.i
