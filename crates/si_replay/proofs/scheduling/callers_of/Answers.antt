use Rattle.std.proofs.Common.{◌∙◌, ap}
use Rattle.std.proofs.lemmas.List.{take_all}
use Rattle.si_replay.specs.Replays.{callers}
use Rattle.si_replay.proofs.scheduling.callers_of.Goals as goal

pub returns : goal.returns
returns c = c.loop-call.invariant ∙ ap callers (take_all c.loop-call.call-index c.args.journal.now c.loop-call-test.false)
