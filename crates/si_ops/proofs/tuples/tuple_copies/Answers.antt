use Rattle.std.proofs.Math.Facts.{to_z-of_z}
use Rattle.si_arena.specs.Memory.{value_of}
use Rattle.si_ops.specs.Operands.{members_of}
use Rattle.si_ops.proofs.RunningTuples.{repeat_tuple_go}
use Rattle.si_ops.proofs.tuples.tuple_copies.Goals as goal

pub returns-in-Multiply : goal.returns-in-Multiply
returns-in-Multiply c =
    let m = c.args.arena.now in
    let vs = members_of (value_of m c.args.tuple) in
    let g = repeat_tuple_go c.args.operator vs _ c.args.count c.args.tuple m c.repeat_tuple.new.arena c.repeat_tuple.result c.in-Multiply.is (to_z-of_z c.ranges.count) c.repeat_tuple.ensures.tuple c.repeat_tuple.ensures.told in
    record { runs = g.runs; memory = g.memory }
