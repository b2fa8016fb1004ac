use Rattle.si_replay.proofs.Worlds.{finish_none, finish_more}
use Rattle.si_replay.proofs.replaying.finish.Goals as goal

pub loop-i-init : goal.loop-i-init
loop-i-init c = finish_none c.args.world.now c.requires

pub loop-i-preserved : goal.loop-i-preserved
loop-i-preserved c = finish_more c.args.world.now c.loop-i.world c.settle.new.world c.loop-i.i c.loop-i.invariant c.in_ok-settle.ensures.ok
