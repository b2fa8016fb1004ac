use Rattle.std.proofs.Common.{Ok, sym, subst}
use Rattle.si_parcel.specs.declared.answer.Answer.TheVariants as answer
use Rattle.si_parcel.specs.Shared.{answer_of}
use Rattle.si_methods.specs.declared.request.Awaited.{Awaited}
use Rattle.si_methods.specs.declared.request.Awaited.TheVariants as awaited
use Rattle.si_methods.specs.declared.replying.Replied.{Replied}
use Rattle.si_methods.specs.Replying.{Replies}
use Rattle.std.proofs.Common.{◌<◌, length}
use Rattle.si_methods.proofs.Made.{else_put, else_join_thread}
use Rattle.si_methods.proofs.replying.reply.Goals as goal

pub returns-in-Create : goal.returns-in-Create
returns-in-Create c =
    let m = c.args.arena.now in
    let P : Awaited → Type 0 = λ k. Replies k (answer_of c.args.answer.now) m m (Ok c.created.result) in
    subst P (sym c.in-Create.is) (c.created.ensures m)

pub returns-in-CreateQueue : goal.returns-in-CreateQueue
returns-in-CreateQueue c =
    let m = c.args.arena.now in
    let P : Awaited → Type 0 = λ k. Replies k (answer_of c.args.answer.now) m m (Ok c.queue_made.result) in
    subst P (sym c.in-CreateQueue.is) (c.queue_made.ensures m)

pub returns-in-PutNow : goal.returns-in-PutNow
returns-in-PutNow c =
    let m = c.args.arena.now in
    let P : Awaited → Type 0 = λ k. Replies k (answer_of c.args.answer.now) m m (Ok c.put_now.result) in
    subst P (sym c.in-PutNow.is) (c.put_now.ensures m)

pub returns-in-Get : goal.returns-in-Get
returns-in-Get c =
    let m = c.args.arena.now in
    let P : Awaited → Type 0 = λ k. Replies k (answer_of c.args.answer.now) m c.item.new.arena c.item.result in
    subst P (sym c.in-Get.is) (c.item.ensures)

pub returns-in-GetNow : goal.returns-in-GetNow
returns-in-GetNow c =
    let m = c.args.arena.now in
    let P : Awaited → Type 0 = λ k. Replies k (answer_of c.args.answer.now) m c.item_now.new.arena c.item_now.result in
    subst P (sym c.in-GetNow.is) (c.item_now.ensures)

pub returns-in-Size : goal.returns-in-Size
returns-in-Size c =
    let m = c.args.arena.now in
    let P : Awaited → Type 0 = λ k. Replies k (answer_of c.args.answer.now) m m (Ok c.counted.result) in
    subst P (sym c.in-Size.is) (c.counted.ensures m)

pub returns-in-IsEmpty : goal.returns-in-IsEmpty
returns-in-IsEmpty c =
    let m = c.args.arena.now in
    let P : Awaited → Type 0 = λ k. Replies k (answer_of c.args.answer.now) m m (Ok c.emptiness.result) in
    subst P (sym c.in-IsEmpty.is) (c.emptiness.ensures m)

pub returns-in-IsFull : goal.returns-in-IsFull
returns-in-IsFull c =
    let m = c.args.arena.now in
    let P : Awaited → Type 0 = λ k. Replies k (answer_of c.args.answer.now) m m (Ok c.fullness.result) in
    subst P (sym c.in-IsFull.is) (c.fullness.ensures m)

pub returns-in-Prepare : goal.returns-in-Prepare
returns-in-Prepare c =
    let m = c.args.arena.now in
    let P : Awaited → Type 0 = λ k. Replies k (answer_of c.args.answer.now) m c.prepared.new.arena c.prepared.result in
    subst P (sym c.in-Prepare.is) (c.prepared.ensures)

pub returns-in-Exec : goal.returns-in-Exec
returns-in-Exec c =
    let m = c.args.arena.now in
    let P : Awaited → Type 0 = λ k. Replies k (answer_of c.args.answer.now) m c.run_started.new.arena c.run_started.result in
    subst P (sym c.in-Exec.is) (c.run_started.ensures)

pub returns-in-AwaitExec : goal.returns-in-AwaitExec
returns-in-AwaitExec c =
    let m = c.args.arena.now in
    let P : Awaited → Type 0 = λ k. Replies k (answer_of c.args.answer.now) m c.run_ended.new.arena c.run_ended.result in
    subst P (sym c.in-AwaitExec.is) (c.run_ended.ensures)

pub returns-in-StartThread : goal.returns-in-StartThread
returns-in-StartThread c =
    let m = c.args.arena.now in
    let P : Awaited → Type 0 = λ k. Replies k (answer_of c.args.answer.now) m c.thread_started.new.arena c.thread_started.result in
    subst P (sym c.in-StartThread.is) (c.thread_started.ensures)

pub returns-in-ListAll : goal.returns-in-ListAll
returns-in-ListAll c =
    let m = c.args.arena.now in
    let P : Awaited → Type 0 = λ k. Replies k (answer_of c.args.answer.now) m c.listed.new.arena c.listed.result in
    subst P (sym c.in-ListAll.is) (c.listed.ensures)

pub returns-in-IsRunning : goal.returns-in-IsRunning
returns-in-IsRunning c =
    let m = c.args.arena.now in
    let P : Awaited → Type 0 = λ k. Replies k (answer_of c.args.answer.now) m c.runs.new.arena c.runs.result in
    subst P (sym c.in-IsRunning.is) (c.runs.ensures)

pub returns-in-Close : goal.returns-in-Close
returns-in-Close c =
    let m = c.args.arena.now in
    let P : Awaited → Type 0 = λ k. Replies k (answer_of c.args.answer.now) m c.closed.new.arena c.closed.result in
    subst P (sym c.in-Close.is) (c.closed.ensures)

pub returns-in-Put : goal.returns-in-Put
returns-in-Put c =
    let m = c.args.arena.now in
    let P : Awaited → Type 0 = λ k. Replies k (answer_of c.args.answer.now) m m (Ok c.nothing.result) in
    let Q : Replied → Type 0 = λ r. Replies awaited.Put (answer_of c.args.answer.now) m m (Ok r) in
    subst P (sym c.in-Put.is) (subst Q (sym c.nothing.ensures) (else_put c.args.answer.now m))

pub returns-in-JoinThread : goal.returns-in-JoinThread
returns-in-JoinThread c =
    let m = c.args.arena.now in
    let P : Awaited → Type 0 = λ k. Replies k (answer_of c.args.answer.now) m m (Ok c.nothing-in-JoinThread.result) in
    let Q : Replied → Type 0 = λ r. Replies awaited.JoinThread (answer_of c.args.answer.now) m m (Ok r) in
    subst P (sym c.in-JoinThread.is) (subst Q (sym c.nothing-in-JoinThread.ensures) (else_join_thread c.args.answer.now m))

pub thread_started-requires : goal.thread_started-requires
thread_started-requires c =
    let lt : c.in-StartThread.thread < length c.args.arena.now.store = rw c.in-StartThread.is at c.requires in lt
