use Rattle.std.proofs.Common.{Ok, refl, sym, subst}
use Rattle.si_arena.specs.declared.cause.Cause.TheVariants.{Refused}
use Rattle.si_arena.specs.declared.refusal.Refusal.TheVariants as refusal
use Rattle.si_parcel.specs.declared.answer.Answer.{Answer}
use Rattle.si_parcel.specs.declared.answer.Answer.TheVariants as answer
use Rattle.si_parcel.specs.Shared.{answer_of}
use Rattle.si_methods.specs.declared.request.Awaited.TheVariants as awaited
use Rattle.si_methods.specs.declared.replying.Replied.{Replied}
use Rattle.si_methods.specs.Replying.{Replies}
use Rattle.si_methods.proofs.Made.{refuses, else_put_now}
use Rattle.si_methods.proofs.replying.put_now.Goals as goal

pub returns-in-Full : goal.returns-in-Full
returns-in-Full c = λ m.
    let P : Answer → Type 0 = λ a. Replies awaited.PutNow (answer_of a) m m (Ok c.refused.result) in
    let Q : Replied → Type 0 = λ r. Replies awaited.PutNow (answer_of answer.Full) m m (Ok r) in
    subst P (sym c.in-Full.is) (subst Q (sym c.refused.ensures) (refuses awaited.PutNow (answer_of answer.Full) m (Refused refusal.QueueIsFull) tt (λ w. refl)))

pub returns-in_default : goal.returns-in_default
returns-in_default c = λ m.
    let P : Replied → Type 0 = λ r. Replies awaited.PutNow (answer_of c.args.answer.now) m m (Ok r) in
    subst P (sym c.nothing.ensures) (else_put_now c.args.answer.now m c.in_default.not-Full)
