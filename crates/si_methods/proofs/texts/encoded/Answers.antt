use Rattle.std.proofs.Common.{List, ℕ, Result, encode_utf8_all, sym, subst, ap, ◌∙◌}
use Rattle.si_semantics.specs.Operations.{bytes_within}
use Rattle.si_semantics.specs.Attributes.{encodes}
use Rattle.si_arena.specs.declared.cause.Fault.{Fault}
use Rattle.si_arena.specs.Memory.{value_of, PlacesBytes}
use Rattle.si_methods.specs.declared.request.Answered.{Answered}
use Rattle.si_methods.specs.Answering.{Answers, placed_of}
use Rattle.si_methods.proofs.Calling.{answers_as, bytes_placed, not_encoded}
use Rattle.si_methods.proofs.texts.encoded.Goals as goal

pub returns-in-Ok : goal.returns-in-Ok
returns-in-Ok c = λ own.
    let m = c.args.arena.now in
    let n = c.place_bytes.new.self in
    let bs = encode_utf8_all c.in-Ok.text in
    let P : List ℕ → Type 0 = λ xs. PlacesBytes xs m n c.place_bytes.result in
    let Q : Result Answered Fault → Type 0 = λ r. Answers (λ w. encodes (value_of m c.args.object) w) own m n r in
    subst Q (sym c.placed.ensures)
    (answers_as (λ w. encodes (value_of m c.args.object) w) (λ w. bytes_within bs w) own m n (placed_of c.place_bytes.result)
    (λ w e. ap (λ v. encodes v w) c.in-Ok.ensures)
    (bytes_placed bs own m n c.place_bytes.result (subst P (c.as_bytes.ensures.value ∙ c.as_str.ensures.bytes) c.place_bytes.ensures.bytes)))

pub returns-in-Err : goal.returns-in-Err
returns-in-Err c = λ own.
    let m = c.args.arena.now in
    not_encoded (value_of m c.args.object) own m c.in-Err.fault c.in-Err.ensures
