use Rattle.std.proofs.Common.{Ok, Result, refl, sym, subst}
use Rattle.std.specs.declared.alloc.AllocError.{AllocError}
use Rattle.si_arena.specs.declared.cause.Cause.TheVariants.{Refused}
use Rattle.si_arena.specs.declared.refusal.Refusal.TheVariants as refusal
use Rattle.si_parcel.specs.declared.answer.Answer.{Answer}
use Rattle.si_parcel.specs.declared.answer.Answer.TheVariants as answer
use Rattle.si_parcel.specs.Shared.{answer_of}
use Rattle.si_methods.specs.declared.request.Awaited.TheVariants as awaited
use Rattle.si_methods.specs.declared.replying.Replied.{Replied}
use Rattle.si_methods.specs.Replying.{Replies}
use Rattle.si_methods.proofs.Made.{refuses, receives, else_get_now}
use Rattle.si_methods.proofs.replying.item_now.Goals as goal

pub returns-in-Item : goal.returns-in-Item
returns-in-Item c =
    let m = c.args.arena.now in
    let n = c.copy_in.new.arena in
    let P : Answer → Type 0 = λ a. Replies awaited.GetNow (answer_of a) m n c.received.result in
    let Q : Result Replied AllocError → Type 0 = λ r. Replies awaited.GetNow (answer_of (answer.Item c.in-Item.parcel)) m n r in
    subst P (sym c.in-Item.is) (subst Q (sym c.received.ensures) (receives awaited.GetNow c.in-Item.parcel m n c.copy_in.result (λ n. n) (λ v w. refl) c.copy_in.ensures.copied))

pub returns-in-Empty : goal.returns-in-Empty
returns-in-Empty c =
    let m = c.args.arena.now in
    let P : Answer → Type 0 = λ a. Replies awaited.GetNow (answer_of a) m m (Ok c.refused.result) in
    let Q : Replied → Type 0 = λ r. Replies awaited.GetNow (answer_of answer.Empty) m m (Ok r) in
    subst P (sym c.in-Empty.is) (subst Q (sym c.refused.ensures) (refuses awaited.GetNow (answer_of answer.Empty) m (Refused refusal.QueueIsEmpty) tt (λ w. refl)))

pub returns-in_default : goal.returns-in_default
returns-in_default c =
    let m = c.args.arena.now in
    let P : Replied → Type 0 = λ r. Replies awaited.GetNow (answer_of c.args.answer.now) m m (Ok r) in
    subst P (sym c.nothing.ensures) (else_get_now c.args.answer.now m c.in_default.not-Item c.in_default.not-Empty)
