use Rattle.std.proofs.Common.{[], ◌≡◌, length, string_bytes, arith}
use Rattle.si_semantics.specs.Text.{repr_of, repr_in, max_nested}
use Rattle.si_arena.specs.Memory.{value_of}
use Rattle.si_ops.specs.Writing.{spelled}
use Rattle.si_ops.proofs.Ends.{split, begins_err}
use Rattle.si_ops.proofs.shown.push_repr.Goals as goal

pub truncate-requires : goal.truncate-requires
truncate-requires c =
    let e : c.len-start.result ≡ length (string_bytes c.args.out.now) = omega arith in
    λ _. split c.args.out.now c.add_repr.new.out c.len-start.result e (begins_err (Unit {0}) (repr_in c.args.arena.now.store (value_of c.args.arena.now c.args.value)) (spelled (repr_of max_nested c.args.arena.now.store [] (value_of c.args.arena.now c.args.value))) c.args.out.now c.add_repr.new.out c.in-Err.fault c.in-Err.ensures)
