use Rattle.std.proofs.Common.{◌≡◌, length, string_bytes, arith}
use Rattle.si_semantics.specs.Text.{line_of}
use Rattle.si_arena.specs.Memory.{all_of}
use Rattle.si_ops.specs.Writing.{line_bytes}
use Rattle.si_ops.proofs.Ends.{split, begins_err}
use Rattle.si_ops.proofs.line.push_line.Goals as goal

pub truncate-requires : goal.truncate-requires
truncate-requires c =
    let m = c.args.arena.now in
    let e : c.len-start.result ≡ length (string_bytes c.args.out.now) = omega arith in
    λ _. split c.args.out.now c.add_line.new.out c.len-start.result e (begins_err (Unit {0}) (line_of m.store (all_of m c.args.arguments.now)) (line_bytes m.store (all_of m c.args.arguments.now)) c.args.out.now c.add_line.new.out c.in-Err.fault c.in-Err.ensures)
