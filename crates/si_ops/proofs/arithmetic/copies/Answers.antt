use Rattle.std.proofs.Math.Facts.{to_z-of_z}
use Rattle.si_arena.specs.Texts.{text_of}
use Rattle.si_ops.proofs.Running.{repeat_go}
use Rattle.si_ops.proofs.arithmetic.copies.Goals as goal

pub returns-in-Multiply : goal.returns-in-Multiply
returns-in-Multiply c =
    let m = c.args.arena.now in
    let g = repeat_go c.args.operator (text_of m.texts c.args.text) _ c.args.count c.args.text m c.repeat.new.self c.repeat.result c.in-Multiply.is (to_z-of_z c.ranges.count) c.repeat.ensures.text c.repeat.ensures.short in
    record { runs = g.runs; memory = g.memory }
