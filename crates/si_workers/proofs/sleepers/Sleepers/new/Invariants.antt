use Rattle.std.proofs.Common.{◌≡◌, replicate, false}
use Rattle.si_workers.proofs.sleepers.Sleepers.new.Given as goal

abbrev pub invariant-loop-k : goal.invariant-loop-k
invariant-loop-k l = l.asleep.items ≡ replicate l._k false
