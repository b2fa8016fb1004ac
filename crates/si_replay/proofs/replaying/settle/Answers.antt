use Rattle.si_replay.proofs.Worlds.{one_more, settles}
use Rattle.si_replay.proofs.replaying.settle.Goals as goal

pub returns-in-Acted-clause-err : goal.returns-in-Acted-clause-err
returns-in-Acted-clause-err c = (c.args.i, one_more c.args.world.now c.args.i c.stretch.new.world c.requires c.in-Acted.ensures)

pub returns-in_default : goal.returns-in_default
returns-in_default c = record { ok = settles c.args.world.now c.args.i c.stretch.result c.stretch.new.world c.requires c.stretch.ensures c.in_default.not-Acted c.in_default.not-Starved; err = tt }
