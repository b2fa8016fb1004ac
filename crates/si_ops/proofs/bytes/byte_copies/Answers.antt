use Rattle.std.proofs.Math.Facts.{to_z-of_z}
use Rattle.si_arena.specs.Bytes.{bytes_of}
use Rattle.si_ops.proofs.RunningBytes.{repeat_bytes_go}
use Rattle.si_ops.proofs.bytes.byte_copies.Goals as goal

pub returns-in-Multiply : goal.returns-in-Multiply
returns-in-Multiply c =
    let m = c.args.arena.now in
    let g = repeat_bytes_go c.args.operator (bytes_of m.texts c.args.bytes) _ c.args.count c.args.bytes m c.repeat_bytes.new.self c.repeat_bytes.result c.in-Multiply.is (to_z-of_z c.ranges.count) c.repeat_bytes.ensures.bytes c.repeat_bytes.ensures.short in
    record { runs = g.runs; memory = g.memory }
