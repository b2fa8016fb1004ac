use Rattle.std.proofs.Common.{Ok, refl, sym, subst}
use Rattle.si_arena.specs.declared.value.Ref.TheVariants as value
use Rattle.si_arena.specs.declared.cause.Cause.TheVariants.{Refused}
use Rattle.si_arena.specs.declared.refusal.Refusal.TheVariants as refusal
use Rattle.si_parcel.specs.declared.answer.Answer.{Answer}
use Rattle.si_parcel.specs.declared.answer.Answer.TheVariants as answer
use Rattle.si_parcel.specs.Shared.{answer_of}
use Rattle.si_methods.specs.declared.request.Awaited.TheVariants as awaited
use Rattle.si_methods.specs.declared.replying.Replied.{Replied}
use Rattle.si_methods.specs.declared.replying.Replied.TheVariants.{Got}
use Rattle.si_methods.specs.Replying.{Replies}
use Rattle.si_methods.proofs.Made.{got, refuses, else_create}
use Rattle.si_methods.proofs.replying.created.Goals as goal

pub returns-in-Created : goal.returns-in-Created
returns-in-Created c = λ m.
    let P : Answer → Type 0 = λ a. Replies awaited.Create (answer_of a) m m (Ok (Got (value.Interpreter c.in-Created.id))) in
    subst P (sym c.in-Created.is) (got awaited.Create (answer_of (answer.Created c.in-Created.id)) m (value.Interpreter c.in-Created.id) tt (λ w. refl))

pub returns-in-Limit : goal.returns-in-Limit
returns-in-Limit c = λ m.
    let P : Answer → Type 0 = λ a. Replies awaited.Create (answer_of a) m m (Ok c.refused.result) in
    let Q : Replied → Type 0 = λ r. Replies awaited.Create (answer_of answer.Limit) m m (Ok r) in
    subst P (sym c.in-Limit.is) (subst Q (sym c.refused.ensures) (refuses awaited.Create (answer_of answer.Limit) m (Refused refusal.TooManyInterpreters) tt (λ w. refl)))

pub returns-in_default : goal.returns-in_default
returns-in_default c = λ m.
    let P : Replied → Type 0 = λ r. Replies awaited.Create (answer_of c.args.answer.now) m m (Ok r) in
    subst P (sym c.nothing.ensures) (else_create c.args.answer.now m c.in_default.not-Created c.in_default.not-Limit)
