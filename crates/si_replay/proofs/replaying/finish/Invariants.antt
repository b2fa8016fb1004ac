use Rattle.si_replay.proofs.Worlds.{Finishing}
use Rattle.si_replay.proofs.replaying.finish.Given as goal

abbrev pub invariant-loop-i : goal.invariant-loop-i
invariant-loop-i l = Finishing l.fn.world l.i l.world
