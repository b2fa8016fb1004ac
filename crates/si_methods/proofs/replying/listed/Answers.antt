use Rattle.std.proofs.Common.{List, ℕ, Ok, Result, sym, subst}
use Rattle.std.specs.declared.alloc.AllocError.{AllocError}
use Rattle.si_semantics.specs.Actions as shared
use Rattle.si_parcel.specs.declared.answer.Answer.{Answer}
use Rattle.si_parcel.specs.declared.answer.Answer.TheVariants as answer
use Rattle.si_parcel.specs.Shared.{answer_of}
use Rattle.si_methods.specs.declared.request.Awaited.TheVariants as awaited
use Rattle.si_methods.specs.declared.replying.Replied.{Replied}
use Rattle.si_methods.specs.Replying.{Replies, received_of}
use Rattle.si_methods.proofs.Made.{lists, else_list_all}
use Rattle.si_methods.proofs.replying.listed.Goals as goal

pub returns-in-Ids : goal.returns-in-Ids
returns-in-Ids c =
    let m = c.args.arena.now in
    let n = c.list_of.new.arena in
    let P : Answer → Type 0 = λ a. Replies awaited.ListAll (answer_of a) m n c.received.result in
    let Q : Result Replied AllocError → Type 0 = λ r. Replies awaited.ListAll (answer_of (answer.Ids c.in-Ids.ids)) m n r in
    let S : List ℕ → Type 0 = λ ids. Replies awaited.ListAll (shared.Ids ids) m n (received_of c.list_of.result) in
    subst P (sym c.in-Ids.is) (subst Q (sym c.received.ensures) (subst S c.as_slice.ensures (lists c.as_slice.result.now m n c.list_of.result c.list_of.ensures.ok c.list_of.ensures.err)))

pub returns-in_default : goal.returns-in_default
returns-in_default c =
    let m = c.args.arena.now in
    let P : Replied → Type 0 = λ r. Replies awaited.ListAll (answer_of c.args.answer.now) m m (Ok r) in
    subst P (sym c.nothing.ensures) (else_list_all c.args.answer.now m c.in_default.not-Ids)
