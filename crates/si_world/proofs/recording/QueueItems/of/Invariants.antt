use Rattle.std.proofs.Common.{◌≡◌, take}
use Rattle.si_world.proofs.recording.QueueItems.of.Given as goal

abbrev pub invariant-loop-at : goal.invariant-loop-at
invariant-loop-at l = l.items.items ≡ take l.at l.queue.items
