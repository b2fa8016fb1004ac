use Rattle.si_arena.specs.Texts.{text_of}
use Rattle.si_ops.proofs.Running.{join_go}
use Rattle.si_ops.proofs.arithmetic.joined.Goals as goal

pub returns-in-Add : goal.returns-in-Add
returns-in-Add c =
    let m = c.args.arena.now in
    let g = join_go c.args.operator (text_of m.texts c.args.left) (text_of m.texts c.args.right) c.args.left c.args.right m c.join.new.self c.join.result c.in-Add.is c.join.ensures.text c.join.ensures.short in
    record { runs = g.runs; memory = g.memory }
