use Rattle.std.proofs.Common.{◌≡◌, take}
use Rattle.si_world.specs.Worlds.{created}
use Rattle.si_replay.proofs.Histories.{past_at}
use Rattle.si_workers.proofs.gathering.created.Given as goal

abbrev pub invariant-loop-call : goal.invariant-loop-call
invariant-loop-call l = l.made ≡ created (past_at l.hub.past (take l.call-index l.hub.past.journal))
