use Rattle.std.proofs.Common.{◌≡◌, ◌<◌, ◌≤◌, ◌-◌, ℕ, true, false}
use Rattle.si_world.specs.inner.Serving.{Gives}
use Rattle.si_world.proofs.Serving.{stint_far}
use Rattle.si_world.proofs.world.World.stint.Given as goal

abbrev pub invariant-loop-given : goal.invariant-loop-given
invariant-loop-given l = record {
  gives : (t : ℕ) → t ≤ 127 → Gives t l.fn.self l.given l.self (stint_far l.moved t);
  within : l.given ≤ l.left;
  first : l.moved ≡ false → l.given ≡ 0;
  same : l.moved ≡ false → l.self ≡ l.fn.self;
  some : l.moved ≡ true → 0 < l.given;
}

abbrev pub decreases-loop-given : goal.decreases-loop-given
decreases-loop-given l = l.left - l.given
