use Rattle.si_arena.specs.Memory.{value_of, all_of}
use Rattle.si_ops.proofs.Tupled.{tuple_back}
use Rattle.si_ops.proofs.operand.Operand.of.Goals as goal

pub returns-in-Tuple : goal.returns-in-Tuple
returns-in-Tuple c =
    let m = c.args.arena.now in
    tuple_back (value_of m c.args.value) (all_of m c.in-Tuple.field-0.now) c.in-Tuple.ensures.value
