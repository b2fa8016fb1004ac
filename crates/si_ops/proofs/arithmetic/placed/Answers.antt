use Rattle.std.proofs.Common.{◌≡◌, ap, ◌∙◌, to_z, of_z, w64, rules}
use Rattle.si_semantics.specs.Value as pure
use Rattle.si_arena.specs.Memory.{value_of}
use Rattle.si_arena.specs.Texts.{text_of}
use Rattle.si_arena.specs.Bytes.{bytes_of}
use Rattle.si_ops.proofs.Running.{stood, goes_at, ints_go, int_truth_go, truth_int_go, truths_go, text_int_go, text_truth_go, int_text_go, truth_text_go, count_fits}
use Rattle.si_ops.proofs.RunningBytes.{bytes_int_go, bytes_truth_go, int_bytes_go, truth_bytes_go}
use Rattle.si_ops.specs.Operands.{members_of}
use Rattle.si_ops.proofs.RunningTuples.{tuple_int_go, tuple_truth_go, int_tuple_go, truth_tuple_go}
use Rattle.si_ops.proofs.arithmetic.placed.Goals as goal

pub returns-in-Integer-Integer : goal.returns-in-Integer-Integer
returns-in-Integer-Integer c =
    let m = c.args.arena.now in
    let o = c.args.operator in
    let k = c.in-Integer-Integer in
    let u = value_of m c.args.left in
    let v = value_of m c.args.right in
    let p = stood m c.args.left _ _ c.of-first.ensures k.is-0 in
    let q = stood m c.args.right _ _ c.of-second.ensures k.is-1 in
    let a : k.x ≡ to_z w64 (of_z w64 k.x) = search rules in
    let b : k.y ≡ to_z w64 (of_z w64 k.y) = search rules in
    let g = ints_go o c.args.left c.args.right m c.integers.result u v _ _ c.integers.ensures.told (c.integers.ensures.runs m) (p ∙ ap pure.Int a) (q ∙ ap pure.Int b) in
    record { runs = g.runs; memory = g.memory }

pub returns-in-Integer-Truth : goal.returns-in-Integer-Truth
returns-in-Integer-Truth c =
    let m = c.args.arena.now in
    let o = c.args.operator in
    let k = c.in-Integer-Truth in
    let u = value_of m c.args.left in
    let v = value_of m c.args.right in
    let p = stood m c.args.left _ _ c.of-first.ensures k.is-0 in
    let q = stood m c.args.right _ _ c.of-second.ensures k.is-1 in
    let a : k.x ≡ to_z w64 (of_z w64 k.x) = search rules in
    let e = c.integers-in-Integer-Truth in
    let n = c.int_of_truth in
    let g = int_truth_go o c.args.left c.args.right m e.result u v _ _ e.ensures.told (e.ensures.runs m) k.y (p ∙ ap pure.Int a) q (count_fits k.y n.result n.ensures) in
    record { runs = g.runs; memory = g.memory }

pub returns-in-Truth-Integer : goal.returns-in-Truth-Integer
returns-in-Truth-Integer c =
    let m = c.args.arena.now in
    let o = c.args.operator in
    let k = c.in-Truth-Integer in
    let u = value_of m c.args.left in
    let v = value_of m c.args.right in
    let p = stood m c.args.left _ _ c.of-first.ensures k.is-0 in
    let q = stood m c.args.right _ _ c.of-second.ensures k.is-1 in
    let b : k.y ≡ to_z w64 (of_z w64 k.y) = search rules in
    let e = c.integers-in-Truth-Integer in
    let n = c.int_of_truth-in-Truth-Integer in
    let g = truth_int_go o c.args.left c.args.right m e.result u v _ _ e.ensures.told (e.ensures.runs m) k.x p (q ∙ ap pure.Int b) (count_fits k.x n.result n.ensures) in
    record { runs = g.runs; memory = g.memory }

pub returns-in-Truth-Truth : goal.returns-in-Truth-Truth
returns-in-Truth-Truth c =
    let m = c.args.arena.now in
    let o = c.args.operator in
    let k = c.in-Truth-Truth in
    let u = value_of m c.args.left in
    let v = value_of m c.args.right in
    let p = stood m c.args.left _ _ c.of-first.ensures k.is-0 in
    let q = stood m c.args.right _ _ c.of-second.ensures k.is-1 in
    let g = truths_go o c.args.left c.args.right m c.truths.result u v k.x k.y c.truths.ensures.told (c.truths.ensures.runs m) p q in
    record { runs = g.runs; memory = g.memory }

pub returns-in-Text-Integer : goal.returns-in-Text-Integer
returns-in-Text-Integer c =
    let m = c.args.arena.now in
    let o = c.args.operator in
    let k = c.in-Text-Integer in
    let u = value_of m c.args.left in
    let v = value_of m c.args.right in
    let p = stood m c.args.left _ _ c.of-first.ensures k.is-0 in
    let q = stood m c.args.right _ _ c.of-second.ensures k.is-1 in
    let b : k.n ≡ to_z w64 (of_z w64 k.n) = search rules in
    let e = c.copies-in-Text-Integer in
    let g = text_int_go o c.args.left c.args.right m e.new.arena e.result u v (text_of m.texts c.args.left) (to_z w64 (of_z w64 k.n)) (record { runs = e.ensures.runs; memory = e.ensures.memory }) p (q ∙ ap pure.Int b) in
    record { runs = g.runs; memory = g.memory }

pub returns-in-Text-Truth : goal.returns-in-Text-Truth
returns-in-Text-Truth c =
    let m = c.args.arena.now in
    let o = c.args.operator in
    let k = c.in-Text-Truth in
    let u = value_of m c.args.left in
    let v = value_of m c.args.right in
    let p = stood m c.args.left _ _ c.of-first.ensures k.is-0 in
    let q = stood m c.args.right _ _ c.of-second.ensures k.is-1 in
    let e = c.copies-in-Text-Truth in
    let n = c.int_of_truth-in-Text-Truth in
    let g = text_truth_go o c.args.left c.args.right m e.new.arena e.result u v (text_of m.texts c.args.left) (to_z w64 (of_z w64 n.result)) k.b (record { runs = e.ensures.runs; memory = e.ensures.memory }) p q (count_fits k.b n.result n.ensures) in
    record { runs = g.runs; memory = g.memory }

pub returns-in-Integer-Text : goal.returns-in-Integer-Text
returns-in-Integer-Text c =
    let m = c.args.arena.now in
    let o = c.args.operator in
    let k = c.in-Integer-Text in
    let u = value_of m c.args.left in
    let v = value_of m c.args.right in
    let p = stood m c.args.left _ _ c.of-first.ensures k.is-0 in
    let q = stood m c.args.right _ _ c.of-second.ensures k.is-1 in
    let a : k.n ≡ to_z w64 (of_z w64 k.n) = search rules in
    let e = c.copies in
    let g = int_text_go o c.args.left c.args.right m e.new.arena e.result u v (text_of m.texts c.args.right) (to_z w64 (of_z w64 k.n)) (record { runs = e.ensures.runs; memory = e.ensures.memory }) (p ∙ ap pure.Int a) q in
    record { runs = g.runs; memory = g.memory }

pub returns-in-Truth-Text : goal.returns-in-Truth-Text
returns-in-Truth-Text c =
    let m = c.args.arena.now in
    let o = c.args.operator in
    let k = c.in-Truth-Text in
    let u = value_of m c.args.left in
    let v = value_of m c.args.right in
    let p = stood m c.args.left _ _ c.of-first.ensures k.is-0 in
    let q = stood m c.args.right _ _ c.of-second.ensures k.is-1 in
    let e = c.copies-in-Truth-Text in
    let n = c.int_of_truth-in-Truth-Text in
    let g = truth_text_go o c.args.left c.args.right m e.new.arena e.result u v (text_of m.texts c.args.right) (to_z w64 (of_z w64 n.result)) k.b (record { runs = e.ensures.runs; memory = e.ensures.memory }) p q (count_fits k.b n.result n.ensures) in
    record { runs = g.runs; memory = g.memory }

pub returns-in-Text-Text : goal.returns-in-Text-Text
returns-in-Text-Text c =
    let m = c.args.arena.now in
    let o = c.args.operator in
    let k = c.in-Text-Text in
    let u = value_of m c.args.left in
    let v = value_of m c.args.right in
    let p = stood m c.args.left _ _ c.of-first.ensures k.is-0 in
    let q = stood m c.args.right _ _ c.of-second.ensures k.is-1 in
    let e = c.joined in
    let g = goes_at o c.args.left c.args.right m e.new.arena e.result u v (pure.Str (text_of m.texts c.args.left)) (pure.Str (text_of m.texts c.args.right)) p q (record { runs = e.ensures.runs; memory = e.ensures.memory }) in
    record { runs = g.runs; memory = g.memory }

pub returns-in-Bytes-Integer : goal.returns-in-Bytes-Integer
returns-in-Bytes-Integer c =
    let m = c.args.arena.now in
    let o = c.args.operator in
    let k = c.in-Bytes-Integer in
    let u = value_of m c.args.left in
    let v = value_of m c.args.right in
    let p = stood m c.args.left _ _ c.of-first.ensures k.is-0 in
    let q = stood m c.args.right _ _ c.of-second.ensures k.is-1 in
    let b : k.n ≡ to_z w64 (of_z w64 k.n) = search rules in
    let e = c.byte_copies-in-Bytes-Integer in
    let g = bytes_int_go o c.args.left c.args.right m e.new.arena e.result u v (bytes_of m.texts c.args.left) (to_z w64 (of_z w64 k.n)) (record { runs = e.ensures.runs; memory = e.ensures.memory }) p (q ∙ ap pure.Int b) in
    record { runs = g.runs; memory = g.memory }

pub returns-in-Bytes-Truth : goal.returns-in-Bytes-Truth
returns-in-Bytes-Truth c =
    let m = c.args.arena.now in
    let o = c.args.operator in
    let k = c.in-Bytes-Truth in
    let u = value_of m c.args.left in
    let v = value_of m c.args.right in
    let p = stood m c.args.left _ _ c.of-first.ensures k.is-0 in
    let q = stood m c.args.right _ _ c.of-second.ensures k.is-1 in
    let e = c.byte_copies-in-Bytes-Truth in
    let n = c.int_of_truth-in-Bytes-Truth in
    let g = bytes_truth_go o c.args.left c.args.right m e.new.arena e.result u v (bytes_of m.texts c.args.left) (to_z w64 (of_z w64 n.result)) k.b (record { runs = e.ensures.runs; memory = e.ensures.memory }) p q (count_fits k.b n.result n.ensures) in
    record { runs = g.runs; memory = g.memory }

pub returns-in-Integer-Bytes : goal.returns-in-Integer-Bytes
returns-in-Integer-Bytes c =
    let m = c.args.arena.now in
    let o = c.args.operator in
    let k = c.in-Integer-Bytes in
    let u = value_of m c.args.left in
    let v = value_of m c.args.right in
    let p = stood m c.args.left _ _ c.of-first.ensures k.is-0 in
    let q = stood m c.args.right _ _ c.of-second.ensures k.is-1 in
    let a : k.n ≡ to_z w64 (of_z w64 k.n) = search rules in
    let e = c.byte_copies in
    let g = int_bytes_go o c.args.left c.args.right m e.new.arena e.result u v (bytes_of m.texts c.args.right) (to_z w64 (of_z w64 k.n)) (record { runs = e.ensures.runs; memory = e.ensures.memory }) (p ∙ ap pure.Int a) q in
    record { runs = g.runs; memory = g.memory }

pub returns-in-Truth-Bytes : goal.returns-in-Truth-Bytes
returns-in-Truth-Bytes c =
    let m = c.args.arena.now in
    let o = c.args.operator in
    let k = c.in-Truth-Bytes in
    let u = value_of m c.args.left in
    let v = value_of m c.args.right in
    let p = stood m c.args.left _ _ c.of-first.ensures k.is-0 in
    let q = stood m c.args.right _ _ c.of-second.ensures k.is-1 in
    let e = c.byte_copies-in-Truth-Bytes in
    let n = c.int_of_truth-in-Truth-Bytes in
    let g = truth_bytes_go o c.args.left c.args.right m e.new.arena e.result u v (bytes_of m.texts c.args.right) (to_z w64 (of_z w64 n.result)) k.b (record { runs = e.ensures.runs; memory = e.ensures.memory }) p q (count_fits k.b n.result n.ensures) in
    record { runs = g.runs; memory = g.memory }

pub returns-in-Bytes-Bytes : goal.returns-in-Bytes-Bytes
returns-in-Bytes-Bytes c =
    let m = c.args.arena.now in
    let o = c.args.operator in
    let k = c.in-Bytes-Bytes in
    let u = value_of m c.args.left in
    let v = value_of m c.args.right in
    let p = stood m c.args.left _ _ c.of-first.ensures k.is-0 in
    let q = stood m c.args.right _ _ c.of-second.ensures k.is-1 in
    let e = c.joined_bytes in
    let g = goes_at o c.args.left c.args.right m e.new.arena e.result u v (pure.Bytes (bytes_of m.texts c.args.left)) (pure.Bytes (bytes_of m.texts c.args.right)) p q (record { runs = e.ensures.runs; memory = e.ensures.memory }) in
    record { runs = g.runs; memory = g.memory }

pub returns-in-Tuple-Integer : goal.returns-in-Tuple-Integer
returns-in-Tuple-Integer c =
    let m = c.args.arena.now in
    let o = c.args.operator in
    let k = c.in-Tuple-Integer in
    let u = value_of m c.args.left in
    let v = value_of m c.args.right in
    let p = stood m c.args.left _ _ c.of-first.ensures k.is-0 in
    let q = stood m c.args.right _ _ c.of-second.ensures k.is-1 in
    let b : k.n ≡ to_z w64 (of_z w64 k.n) = search rules in
    let e = c.tuple_copies-in-Tuple-Integer in
    let g = tuple_int_go o c.args.left c.args.right m e.new.arena e.result u v (members_of u) (to_z w64 (of_z w64 k.n)) (record { runs = e.ensures.runs; memory = e.ensures.memory }) p (q ∙ ap pure.Int b) in
    record { runs = g.runs; memory = g.memory }

pub returns-in-Tuple-Truth : goal.returns-in-Tuple-Truth
returns-in-Tuple-Truth c =
    let m = c.args.arena.now in
    let o = c.args.operator in
    let k = c.in-Tuple-Truth in
    let u = value_of m c.args.left in
    let v = value_of m c.args.right in
    let p = stood m c.args.left _ _ c.of-first.ensures k.is-0 in
    let q = stood m c.args.right _ _ c.of-second.ensures k.is-1 in
    let e = c.tuple_copies-in-Tuple-Truth in
    let n = c.int_of_truth-in-Tuple-Truth in
    let g = tuple_truth_go o c.args.left c.args.right m e.new.arena e.result u v (members_of u) (to_z w64 (of_z w64 n.result)) k.b (record { runs = e.ensures.runs; memory = e.ensures.memory }) p q (count_fits k.b n.result n.ensures) in
    record { runs = g.runs; memory = g.memory }

pub returns-in-Integer-Tuple : goal.returns-in-Integer-Tuple
returns-in-Integer-Tuple c =
    let m = c.args.arena.now in
    let o = c.args.operator in
    let k = c.in-Integer-Tuple in
    let u = value_of m c.args.left in
    let v = value_of m c.args.right in
    let p = stood m c.args.left _ _ c.of-first.ensures k.is-0 in
    let q = stood m c.args.right _ _ c.of-second.ensures k.is-1 in
    let a : k.n ≡ to_z w64 (of_z w64 k.n) = search rules in
    let e = c.tuple_copies in
    let g = int_tuple_go o c.args.left c.args.right m e.new.arena e.result u v (members_of v) (to_z w64 (of_z w64 k.n)) (record { runs = e.ensures.runs; memory = e.ensures.memory }) (p ∙ ap pure.Int a) q in
    record { runs = g.runs; memory = g.memory }

pub returns-in-Truth-Tuple : goal.returns-in-Truth-Tuple
returns-in-Truth-Tuple c =
    let m = c.args.arena.now in
    let o = c.args.operator in
    let k = c.in-Truth-Tuple in
    let u = value_of m c.args.left in
    let v = value_of m c.args.right in
    let p = stood m c.args.left _ _ c.of-first.ensures k.is-0 in
    let q = stood m c.args.right _ _ c.of-second.ensures k.is-1 in
    let e = c.tuple_copies-in-Truth-Tuple in
    let n = c.int_of_truth-in-Truth-Tuple in
    let g = truth_tuple_go o c.args.left c.args.right m e.new.arena e.result u v (members_of v) (to_z w64 (of_z w64 n.result)) k.b (record { runs = e.ensures.runs; memory = e.ensures.memory }) p q (count_fits k.b n.result n.ensures) in
    record { runs = g.runs; memory = g.memory }

pub returns-in-Tuple-Tuple : goal.returns-in-Tuple-Tuple
returns-in-Tuple-Tuple c =
    let m = c.args.arena.now in
    let o = c.args.operator in
    let k = c.in-Tuple-Tuple in
    let u = value_of m c.args.left in
    let v = value_of m c.args.right in
    let p = stood m c.args.left _ _ c.of-first.ensures k.is-0 in
    let q = stood m c.args.right _ _ c.of-second.ensures k.is-1 in
    let e = c.joined_tuples in
    let g = goes_at o c.args.left c.args.right m e.new.arena e.result u v (pure.tuple_of (members_of u)) (pure.tuple_of (members_of v)) p q (record { runs = e.ensures.runs; memory = e.ensures.memory }) in
    record { runs = g.runs; memory = g.memory }
