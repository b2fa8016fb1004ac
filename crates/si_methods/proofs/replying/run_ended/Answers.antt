use Rattle.std.proofs.Common.{Ok, sym, subst}
use Rattle.si_parcel.specs.declared.answer.Answer.{Answer}
use Rattle.si_parcel.specs.declared.answer.Answer.TheVariants as answer
use Rattle.si_parcel.specs.Shared.{answer_of}
use Rattle.si_methods.specs.declared.request.Awaited.TheVariants as awaited
use Rattle.si_methods.specs.declared.replying.Replied.{Replied}
use Rattle.si_methods.specs.Replying.{Replies}
use Rattle.si_methods.proofs.Made.{else_await_exec}
use Rattle.si_methods.proofs.replying.run_ended.Goals as goal

pub returns-in-Ended : goal.returns-in-Ended
returns-in-Ended c =
    let m = c.args.arena.now in
    let P : Answer → Type 0 = λ a. Replies awaited.AwaitExec (answer_of a) m c.executed.new.arena c.executed.result in
    subst P (sym c.in-Ended.is) c.executed.ensures

pub returns-in_default : goal.returns-in_default
returns-in_default c =
    let m = c.args.arena.now in
    let P : Replied → Type 0 = λ r. Replies awaited.AwaitExec (answer_of c.args.answer.now) m m (Ok r) in
    subst P (sym c.nothing.ensures) (else_await_exec c.args.answer.now m c.in_default.not-Ended)
