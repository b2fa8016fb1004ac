use Rattle.si_arena.specs.Memory.{value_of}
use Rattle.si_ops.specs.Operands.{members_of}
use Rattle.si_ops.proofs.RunningTuples.{join_tuples_go}
use Rattle.si_ops.proofs.tuples.joined_tuples.Goals as goal

pub returns-in-Add : goal.returns-in-Add
returns-in-Add c =
    let m = c.args.arena.now in
    let us = members_of (value_of m c.args.left) in
    let vs = members_of (value_of m c.args.right) in
    let g = join_tuples_go c.args.operator us vs c.args.left c.args.right m c.join_tuples.new.arena c.join_tuples.result c.in-Add.is c.join_tuples.ensures.tuple c.join_tuples.ensures.told in
    record { runs = g.runs; memory = g.memory }
