use Rattle.std.proofs.Common.{Result, sym, subst}
use Rattle.si_semantics.specs.Operations.{within}
use Rattle.si_semantics.specs.Attributes.{joins_texts, texts_in}
use Rattle.si_arena.specs.declared.cause.Fault.{Fault}
use Rattle.si_arena.specs.Memory.{value_of}
use Rattle.si_methods.specs.declared.request.Answered.{Answered}
use Rattle.si_methods.specs.Answering.{Answers, placed_of}
use Rattle.si_methods.specs.Joining.{characters_gathered}
use Rattle.si_methods.proofs.Calling.{answers_as, text_placed, not_joined}
use Rattle.si_methods.proofs.joining.join_items.Goals as goal

pub returns-in-Ok : goal.returns-in-Ok
returns-in-Ok c = λ own.
    let m = c.args.arena.now in
    let n = c.place.new.arena in
    let v = value_of m c.args.object in
    let u = value_of m c.args.items in
    let t = characters_gathered c.in-Ok.gathered in
    let Q : Result Answered Fault → Type 0 = λ r. Answers (λ w. joins_texts v (texts_in u w) w) own m n r in
    subst Q (sym c.placed.ensures)
    (answers_as (λ w. joins_texts v (texts_in u w) w) (λ w. within t w) own m n (placed_of c.place.result)
    c.in-Ok.ensures
    (text_placed t own m n c.place.result c.place.ensures))

pub returns-in-Err : goal.returns-in-Err
returns-in-Err c = λ own.
    let m = c.args.arena.now in
    not_joined (value_of m c.args.object) (value_of m c.args.items) own m c.in-Err.fault c.in-Err.ensures
