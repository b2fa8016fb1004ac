use Rattle.si_arena.specs.Memory.{value_of, all_of}
use Rattle.si_ops.proofs.Tupled.{members_are}
use Rattle.si_ops.proofs.tuples.members.Goals as goal

pub returns-in-Tuple-clause-items : goal.returns-in-Tuple-clause-items
returns-in-Tuple-clause-items c =
    let m = c.args.arena.now in
    members_are (value_of m c.args.value.now) (all_of m c.in-Tuple.items.now) c.in-Tuple.ensures.value
