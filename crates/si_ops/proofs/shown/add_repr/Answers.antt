use Rattle.std.proofs.Common.{[], ◌≡◌, length, string_bytes, refl, arith}
use Rattle.si_semantics.specs.Text.{repr_of, max_nested}
use Rattle.si_arena.specs.Memory.{value_of}
use Rattle.si_ops.proofs.Ends.{seam}
use Rattle.si_ops.proofs.Puts.{judged, begins_puts}
use Rattle.si_ops.proofs.shown.add_repr.Goals as goal

pub judged-requires : goal.judged-requires
judged-requires c =
    let w = repr_of max_nested c.args.arena.now.store [] (value_of c.args.arena.now c.args.value) in
    let e : c.len-start.result ≡ length (string_bytes c.args.out.now) = omega arith in
    seam c.args.out.now c.put_repr-written.new.out c.len-start.result e (begins_puts (Unit {0}) w c.len-start.result c.args.out.now c.put_repr-written.new.out c.put_repr-written.result c.put_repr-written.ensures)

pub returns : goal.returns
returns c =
    let w = repr_of max_nested c.args.arena.now.store [] (value_of c.args.arena.now c.args.value) in
    let e : c.len-start.result ≡ length (string_bytes c.args.out.now) = omega arith in
    judged w c.len-start.result c.args.out.now c.put_repr-written.new.out _ c.put_repr-written.result c.judged.result e c.put_repr-written.ensures refl c.judged.ensures
