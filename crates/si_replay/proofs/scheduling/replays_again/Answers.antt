use Rattle.si_replay.proofs.Worlds.{order_is, world_completes}
use Rattle.si_replay.proofs.scheduling.replays_again.Goals as goal

pub returns-clause-core : goal.returns-clause-core
returns-clause-core c = order_is c.args.world.now c.facts.ensures.world

pub returns-clause-completes : goal.returns-clause-completes
returns-clause-completes c = λ n r. world_completes c.args.world.now c.facts.ensures.world n r
