use Rattle.si_arena.specs.Memory.{value_of}
use Rattle.si_ops.proofs.GoneOver.{unpacks_all, unpacks_apart, unpacks_none}
use Rattle.si_ops.proofs.gone_over.unpacks.Goals as goal

pub returns-then-items-count : goal.returns-then-items-count
returns-then-items-count c = unpacks_all c.args.count c.args.arena.now (value_of c.args.arena.now c.args.value) c.in-Some.items c.in-Some.ensures c.if-items-count.true

pub returns-else-items-count : goal.returns-else-items-count
returns-else-items-count c = unpacks_apart c.args.count c.args.arena.now (value_of c.args.arena.now c.args.value) c.in-Some.items c.in-Some.ensures c.if-items-count.false

pub returns-in-None : goal.returns-in-None
returns-in-None c = unpacks_none c.args.count c.args.arena.now (value_of c.args.arena.now c.args.value) c.in-None.ensures
