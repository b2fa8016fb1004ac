use Rattle.si_semantics.specs.Text.{line_of}
use Rattle.si_arena.specs.Memory.{all_of}
use Rattle.si_ops.specs.Writing.{line_bytes}
use Rattle.si_ops.specs.Calls.{IsSaid}
use Rattle.si_ops.proofs.Ends.{passed}
use Rattle.si_ops.proofs.Calling.{line_said}
use Rattle.si_ops.proofs.calls.print.Goals as goal

pub returns-in_err-push_line-clause-memory : goal.returns-in_err-push_line-clause-memory
returns-in_err-push_line-clause-memory c =
    let m = c.args.arena.now in
    let vs = all_of m c.args.arguments.now in
    let f = c.in_err-push_line.field-0.0 in
    λ room. passed c.from_residual.result IsSaid f c.from_residual.ensures.1 (line_said (Unit {0}) (line_of m.store vs) (line_bytes m.store vs) c.args.line.now c.push_line.new.out f c.in_err-push_line.ensures room)
