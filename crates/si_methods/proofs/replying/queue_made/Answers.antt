use Rattle.std.proofs.Common.{Ok, refl, sym, subst}
use Rattle.si_arena.specs.declared.value.Ref.TheVariants as value
use Rattle.si_arena.specs.declared.cause.Cause.TheVariants.{Refused}
use Rattle.si_arena.specs.declared.refusal.Refusal.TheVariants as refusal
use Rattle.si_parcel.specs.declared.answer.Answer.{Answer}
use Rattle.si_parcel.specs.declared.answer.Answer.TheVariants as answer
use Rattle.si_parcel.specs.Shared.{answer_of}
use Rattle.si_methods.specs.declared.request.Awaited.TheVariants as awaited
use Rattle.si_methods.specs.declared.replying.Replied.{Replied}
use Rattle.si_methods.specs.declared.replying.Replied.TheVariants.{Got}
use Rattle.si_methods.specs.Replying.{Replies}
use Rattle.si_methods.proofs.Made.{got, refuses, else_create_queue}
use Rattle.si_methods.proofs.replying.queue_made.Goals as goal

pub returns-in-QueueMade : goal.returns-in-QueueMade
returns-in-QueueMade c = λ m.
    let P : Answer → Type 0 = λ a. Replies (awaited.CreateQueue c.args.maxsize) (answer_of a) m m (Ok (Got (value.Queue c.in-QueueMade.id c.args.maxsize))) in
    subst P (sym c.in-QueueMade.is) (got (awaited.CreateQueue c.args.maxsize) (answer_of (answer.QueueMade c.in-QueueMade.id)) m (value.Queue c.in-QueueMade.id c.args.maxsize) tt (λ w. refl))

pub returns-in-Limit : goal.returns-in-Limit
returns-in-Limit c = λ m.
    let P : Answer → Type 0 = λ a. Replies (awaited.CreateQueue c.args.maxsize) (answer_of a) m m (Ok c.refused.result) in
    let Q : Replied → Type 0 = λ r. Replies (awaited.CreateQueue c.args.maxsize) (answer_of answer.Limit) m m (Ok r) in
    subst P (sym c.in-Limit.is) (subst Q (sym c.refused.ensures) (refuses (awaited.CreateQueue c.args.maxsize) (answer_of answer.Limit) m (Refused refusal.TooManyQueues) tt (λ w. refl)))

pub returns-in_default : goal.returns-in_default
returns-in_default c = λ m.
    let P : Replied → Type 0 = λ r. Replies (awaited.CreateQueue c.args.maxsize) (answer_of c.args.answer.now) m m (Ok r) in
    subst P (sym c.nothing.ensures) (else_create_queue c.args.maxsize c.args.answer.now m c.in_default.not-QueueMade c.in_default.not-Limit)
