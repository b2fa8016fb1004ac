use Rattle.std.proofs.Common.{◌++◌, refl, sym, arith, ◌∙◌}
use Rattle.si_arena.specs.Memory.{value_of}
use Rattle.si_ops.specs.Operands.{members_of}
use Rattle.si_ops.proofs.Tupled.{joined_past, large_told}
use Rattle.si_ops.proofs.tuples.join_tuples.Goals as goal

pub returns-then-is_past-clause-tuple : goal.returns-then-is_past-clause-tuple
returns-then-is_past-clause-tuple c =
    let m = c.args.arena.now in
    let past = joined_past (value_of m c.args.left) (value_of m c.args.right) c.values_joined.result c.max.result (omega arith) (omega arith) in
    (past ∙ sym c.is_past.ensures ∙ c.if-is_past.true, refl, refl)

pub returns-in_err-items-clause-told : goal.returns-in_err-items-clause-told
returns-in_err-items-clause-told c = λ h.
    let m = c.args.arena.now in
    let u = value_of m c.args.left in
    let v = value_of m c.args.right in
    let past = joined_past u v c.values_joined.result c.max.result (omega arith) (omega arith) in
    large_told (members_of u ++ members_of v) c.from_residual.result (past ∙ sym c.is_past.ensures ∙ c.if-is_past.false) h

pub returns-clause-told : goal.returns-clause-told
returns-clause-told c = λ h.
    let m = c.args.arena.now in
    let u = value_of m c.args.left in
    let v = value_of m c.args.right in
    let past = joined_past u v c.values_joined.result c.max.result (omega arith) (omega arith) in
    large_told (members_of u ++ members_of v) c.place_tuple.result (past ∙ sym c.is_past.ensures ∙ c.if-is_past.false) h
