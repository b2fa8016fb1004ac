use Rattle.std.proofs.Common.{Ok, Result, refl, sym, subst}
use Rattle.std.specs.declared.alloc.AllocError.{AllocError}
use Rattle.si_parcel.specs.declared.answer.Answer.{Answer}
use Rattle.si_parcel.specs.declared.answer.Answer.TheVariants as answer
use Rattle.si_parcel.specs.Shared.{answer_of}
use Rattle.si_methods.specs.declared.request.Awaited.TheVariants as awaited
use Rattle.si_methods.specs.declared.replying.Replied.{Replied}
use Rattle.si_methods.specs.Replying.{Replies}
use Rattle.si_methods.proofs.Made.{receives, else_get}
use Rattle.si_methods.proofs.replying.item.Goals as goal

pub returns-in-Item : goal.returns-in-Item
returns-in-Item c =
    let m = c.args.arena.now in
    let n = c.copy_in.new.arena in
    let P : Answer → Type 0 = λ a. Replies awaited.Get (answer_of a) m n c.received.result in
    let Q : Result Replied AllocError → Type 0 = λ r. Replies awaited.Get (answer_of (answer.Item c.in-Item.parcel)) m n r in
    subst P (sym c.in-Item.is) (subst Q (sym c.received.ensures) (receives awaited.Get c.in-Item.parcel m n c.copy_in.result (λ n. n) (λ v w. refl) c.copy_in.ensures.copied))

pub returns-in_default : goal.returns-in_default
returns-in_default c =
    let m = c.args.arena.now in
    let P : Replied → Type 0 = λ r. Replies awaited.Get (answer_of c.args.answer.now) m m (Ok r) in
    subst P (sym c.nothing.ensures) (else_get c.args.answer.now m c.in_default.not-Item)
