use Rattle.std.proofs.Common.{◌≡◌, ◌∷◌, [], Result, length, string_bytes, encode_utf8_all, subst, arith}
use Rattle.si_semantics.specs.Value as pure
use Rattle.si_semantics.specs.Text.{repr_of, max_nested}
use Rattle.si_semantics.specs.Operations.{call_built_in}
use Rattle.si_arena.specs.declared.value.Ref.{Ref}
use Rattle.si_arena.specs.declared.cause.Fault.{Fault}
use Rattle.si_arena.specs.Memory.{value_of, PlacesText}
use Rattle.si_ops.specs.Runs.{Runs}
use Rattle.si_ops.specs.Writing.{spelled}
use Rattle.si_ops.proofs.Ends.{passed, seam, text_at}
use Rattle.si_ops.proofs.Calling.{text_placed, text_refused}
use Rattle.si_ops.proofs.calls.place_written_repr.Goals as goal

pub returns-in_err-push_repr-clause-runs : goal.returns-in_err-push_repr-clause-runs
returns-in_err-push_repr-clause-runs c =
    let m = c.args.arena.now in
    let v = value_of m c.args.value in
    let f = c.in_err-push_repr.field-0.0 in
    let P : Result Ref Fault → Type 0 = λ r. Runs (λ w. call_built_in pure.Repr (v ∷ []) w) m m r in
    passed c.from_residual.result P f c.from_residual.ensures.1
    (text_refused (Unit {0}) (λ s. repr_of max_nested s [] v) (spelled (repr_of max_nested m.store [] v)) c.args.line.now c.push_repr.new.out m f c.in_err-push_repr.ensures)

pub place_after-requires : goal.place_after-requires
place_after-requires c =
    let e : c.len-start.result ≡ length (string_bytes c.args.line.now) = omega arith in
    let h = c.in_ok-push_repr.ensures in
    seam c.args.line.now c.push_repr.new.out c.len-start.result e (encode_utf8_all h.0, h.2)

pub returns-clause-runs : goal.returns-clause-runs
returns-clause-runs c =
    let m = c.args.arena.now in
    let n = c.place_after.new.arena in
    let e : c.len-start.result ≡ length (string_bytes c.args.line.now) = omega arith in
    let h = c.in_ok-push_repr.ensures in
    let P : pure.Text → Type 0 = λ t. PlacesText t m n c.place_after.result in
    text_placed (λ s. repr_of max_nested s [] (value_of m c.args.value)) h.0 m n c.place_after.result h.1
    (subst P (text_at c.args.line.now c.push_repr.new.out h.0 c.len-start.result e h.2) c.place_after.ensures.text)
