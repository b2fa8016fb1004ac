use Rattle.si_arena.specs.Bytes.{bytes_of}
use Rattle.si_ops.proofs.RunningBytes.{join_bytes_go}
use Rattle.si_ops.proofs.bytes.joined_bytes.Goals as goal

pub returns-in-Add : goal.returns-in-Add
returns-in-Add c =
    let m = c.args.arena.now in
    let g = join_bytes_go c.args.operator (bytes_of m.texts c.args.left) (bytes_of m.texts c.args.right) c.args.left c.args.right m c.join_bytes.new.self c.join_bytes.result c.in-Add.is c.join_bytes.ensures.bytes c.join_bytes.ensures.short in
    record { runs = g.runs; memory = g.memory }
