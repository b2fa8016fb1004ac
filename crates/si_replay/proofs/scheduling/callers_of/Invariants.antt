use Rattle.std.proofs.Common.{◌≡◌, take}
use Rattle.si_replay.specs.Replays.{callers}
use Rattle.si_replay.proofs.scheduling.callers_of.Given as goal

abbrev pub invariant-loop-call : goal.invariant-loop-call
invariant-loop-call l = l.by.items ≡ callers (take l.call-index l.journal)
