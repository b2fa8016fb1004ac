use Rattle.std.proofs.Common.{Result, sym, subst}
use Rattle.si_semantics.specs.Attributes as attributes
use Rattle.si_semantics.specs.Attributes.{call_method}
use Rattle.si_arena.specs.declared.cause.Fault.{Fault}
use Rattle.si_arena.specs.Memory.{value_of, all_of}
use Rattle.si_methods.specs.declared.method.Method.{Method}
use Rattle.si_methods.specs.declared.request.Answered.{Answered}
use Rattle.si_methods.specs.Methods.{method_in}
use Rattle.si_methods.specs.Answering.{Answers}
use Rattle.si_methods.specs.Needing.{TakesNone, IsTold}
use Rattle.si_methods.proofs.Calling.{is_told}
use Rattle.si_methods.proofs.calls.call_method.Goals as goal

pub returns-in-StartsWith-clause-answers : goal.returns-in-StartsWith-clause-answers
returns-in-StartsWith-clause-answers c =
    let m = c.args.arena.now in
    let own = c.args.own in
    let v = value_of m c.args.object in
    let vs = all_of m c.args.arguments.now in
    let names = c.args.names.now in
    let P : Method → Type 0 = λ k. Answers (λ w. call_method (method_in k) v vs names w) own m m c.told.result in
    let Q : Result Answered Fault → Type 0 = λ r. Answers (λ w. call_method attributes.StartsWith v vs names w) own m m r in
    subst P (sym c.in-StartsWith.is) (subst Q (sym c.told.ensures) (c.starts_with.ensures own))

pub returns-in-StartsWith-clause-memory : goal.returns-in-StartsWith-clause-memory
returns-in-StartsWith-clause-memory c = λ h.
    let Q : Result Answered Fault → Type 0 = λ r. IsTold r in
    subst Q (sym c.told.ensures) (is_told c.starts_with.result)

pub returns-in-EndsWith-clause-answers : goal.returns-in-EndsWith-clause-answers
returns-in-EndsWith-clause-answers c =
    let m = c.args.arena.now in
    let own = c.args.own in
    let v = value_of m c.args.object in
    let vs = all_of m c.args.arguments.now in
    let names = c.args.names.now in
    let P : Method → Type 0 = λ k. Answers (λ w. call_method (method_in k) v vs names w) own m m c.told-in-EndsWith.result in
    let Q : Result Answered Fault → Type 0 = λ r. Answers (λ w. call_method attributes.EndsWith v vs names w) own m m r in
    subst P (sym c.in-EndsWith.is) (subst Q (sym c.told-in-EndsWith.ensures) (c.ends_with.ensures own))

pub returns-in-EndsWith-clause-memory : goal.returns-in-EndsWith-clause-memory
returns-in-EndsWith-clause-memory c = λ h.
    let Q : Result Answered Fault → Type 0 = λ r. IsTold r in
    subst Q (sym c.told-in-EndsWith.ensures) (is_told c.ends_with.result)

pub returns-in-JoinTexts-clause-answers : goal.returns-in-JoinTexts-clause-answers
returns-in-JoinTexts-clause-answers c =
    let m = c.args.arena.now in
    let own = c.args.own in
    let v = value_of m c.args.object in
    let vs = all_of m c.args.arguments.now in
    let names = c.args.names.now in
    let P : Method → Type 0 = λ k. Answers (λ w. call_method (method_in k) v vs names w) own m c.join_texts.new.arena c.join_texts.result in
    subst P (sym c.in-JoinTexts.is) (c.join_texts.ensures own)

pub returns-in-JoinTexts-clause-memory : goal.returns-in-JoinTexts-clause-memory
returns-in-JoinTexts-clause-memory c = λ h.
    let T : Method → Type 0 = λ k. TakesNone (method_in k) (all_of c.args.arena.now c.args.arguments.now) in
    absurd (subst T c.in-JoinTexts.is h)

pub returns-in-Encode-clause-answers : goal.returns-in-Encode-clause-answers
returns-in-Encode-clause-answers c =
    let m = c.args.arena.now in
    let own = c.args.own in
    let v = value_of m c.args.object in
    let vs = all_of m c.args.arguments.now in
    let names = c.args.names.now in
    let P : Method → Type 0 = λ k. Answers (λ w. call_method (method_in k) v vs names w) own m c.encode.new.arena c.encode.result in
    subst P (sym c.in-Encode.is) (c.encode.ensures own names)

pub returns-in-Encode-clause-memory : goal.returns-in-Encode-clause-memory
returns-in-Encode-clause-memory c = λ h.
    let T : Method → Type 0 = λ k. TakesNone (method_in k) (all_of c.args.arena.now c.args.arguments.now) in
    absurd (subst T c.in-Encode.is h)

pub returns-in-Append-clause-answers : goal.returns-in-Append-clause-answers
returns-in-Append-clause-answers c =
    let m = c.args.arena.now in
    let own = c.args.own in
    let v = value_of m c.args.object in
    let vs = all_of m c.args.arguments.now in
    let names = c.args.names.now in
    let P : Method → Type 0 = λ k. Answers (λ w. call_method (method_in k) v vs names w) own m c.append.new.arena c.append.result in
    subst P (sym c.in-Append.is) (c.append.ensures own)

pub returns-in-Append-clause-memory : goal.returns-in-Append-clause-memory
returns-in-Append-clause-memory c = λ h.
    let T : Method → Type 0 = λ k. TakesNone (method_in k) (all_of c.args.arena.now c.args.arguments.now) in
    absurd (subst T c.in-Append.is h)

pub returns-in-PopItem-clause-answers : goal.returns-in-PopItem-clause-answers
returns-in-PopItem-clause-answers c =
    let m = c.args.arena.now in
    let own = c.args.own in
    let v = value_of m c.args.object in
    let vs = all_of m c.args.arguments.now in
    let names = c.args.names.now in
    let P : Method → Type 0 = λ k. Answers (λ w. call_method (method_in k) v vs names w) own m c.pop_item.new.arena c.told-in-PopItem.result in
    let Q : Result Answered Fault → Type 0 = λ r. Answers (λ w. call_method attributes.PopItem v vs names w) own m c.pop_item.new.arena r in
    subst P (sym c.in-PopItem.is) (subst Q (sym c.told-in-PopItem.ensures) (c.pop_item.ensures own))

pub returns-in-PopItem-clause-memory : goal.returns-in-PopItem-clause-memory
returns-in-PopItem-clause-memory c = λ h.
    let Q : Result Answered Fault → Type 0 = λ r. IsTold r in
    subst Q (sym c.told-in-PopItem.ensures) (is_told c.pop_item.result)

pub returns-in-GetValue-clause-answers : goal.returns-in-GetValue-clause-answers
returns-in-GetValue-clause-answers c =
    let m = c.args.arena.now in
    let own = c.args.own in
    let v = value_of m c.args.object in
    let vs = all_of m c.args.arguments.now in
    let names = c.args.names.now in
    let P : Method → Type 0 = λ k. Answers (λ w. call_method (method_in k) v vs names w) own m m c.told-in-GetValue.result in
    let Q : Result Answered Fault → Type 0 = λ r. Answers (λ w. call_method attributes.GetValue v vs names w) own m m r in
    subst P (sym c.in-GetValue.is) (subst Q (sym c.told-in-GetValue.ensures) (c.get_value.ensures own))

pub returns-in-GetValue-clause-memory : goal.returns-in-GetValue-clause-memory
returns-in-GetValue-clause-memory c = λ h.
    let Q : Result Answered Fault → Type 0 = λ r. IsTold r in
    subst Q (sym c.told-in-GetValue.ensures) (is_told c.get_value.result)

pub returns-in-PopValue-clause-answers : goal.returns-in-PopValue-clause-answers
returns-in-PopValue-clause-answers c =
    let m = c.args.arena.now in
    let own = c.args.own in
    let v = value_of m c.args.object in
    let vs = all_of m c.args.arguments.now in
    let names = c.args.names.now in
    let P : Method → Type 0 = λ k. Answers (λ w. call_method (method_in k) v vs names w) own m c.pop_value.new.arena c.told-in-PopValue.result in
    let Q : Result Answered Fault → Type 0 = λ r. Answers (λ w. call_method attributes.PopValue v vs names w) own m c.pop_value.new.arena r in
    subst P (sym c.in-PopValue.is) (subst Q (sym c.told-in-PopValue.ensures) (c.pop_value.ensures own))

pub returns-in-PopValue-clause-memory : goal.returns-in-PopValue-clause-memory
returns-in-PopValue-clause-memory c = λ h.
    let Q : Result Answered Fault → Type 0 = λ r. IsTold r in
    subst Q (sym c.told-in-PopValue.ensures) (is_told c.pop_value.result)

pub returns-in-Create-clause-answers : goal.returns-in-Create-clause-answers
returns-in-Create-clause-answers c =
    let m = c.args.arena.now in
    let own = c.args.own in
    let v = value_of m c.args.object in
    let vs = all_of m c.args.arguments.now in
    let names = c.args.names.now in
    let P : Method → Type 0 = λ k. Answers (λ w. call_method (method_in k) v vs names w) own m m c.told-in-Create.result in
    let Q : Result Answered Fault → Type 0 = λ r. Answers (λ w. call_method attributes.Create v vs names w) own m m r in
    subst P (sym c.in-Create.is) (subst Q (sym c.told-in-Create.ensures) (c.create.ensures m own v names))

pub returns-in-Create-clause-memory : goal.returns-in-Create-clause-memory
returns-in-Create-clause-memory c = λ h.
    let Q : Result Answered Fault → Type 0 = λ r. IsTold r in
    subst Q (sym c.told-in-Create.ensures) (is_told c.create.result)

pub returns-in-ListAll-clause-answers : goal.returns-in-ListAll-clause-answers
returns-in-ListAll-clause-answers c =
    let m = c.args.arena.now in
    let own = c.args.own in
    let v = value_of m c.args.object in
    let vs = all_of m c.args.arguments.now in
    let names = c.args.names.now in
    let P : Method → Type 0 = λ k. Answers (λ w. call_method (method_in k) v vs names w) own m m c.told-in-ListAll.result in
    let Q : Result Answered Fault → Type 0 = λ r. Answers (λ w. call_method attributes.ListAll v vs names w) own m m r in
    subst P (sym c.in-ListAll.is) (subst Q (sym c.told-in-ListAll.ensures) (c.list_all.ensures m own v names))

pub returns-in-ListAll-clause-memory : goal.returns-in-ListAll-clause-memory
returns-in-ListAll-clause-memory c = λ h.
    let Q : Result Answered Fault → Type 0 = λ r. IsTold r in
    subst Q (sym c.told-in-ListAll.ensures) (is_told c.list_all.result)

pub returns-in-GetCurrent-clause-answers : goal.returns-in-GetCurrent-clause-answers
returns-in-GetCurrent-clause-answers c =
    let m = c.args.arena.now in
    let own = c.args.own in
    let v = value_of m c.args.object in
    let vs = all_of m c.args.arguments.now in
    let names = c.args.names.now in
    let P : Method → Type 0 = λ k. Answers (λ w. call_method (method_in k) v vs names w) own m m c.told-in-GetCurrent.result in
    let Q : Result Answered Fault → Type 0 = λ r. Answers (λ w. call_method attributes.GetCurrent v vs names w) own m m r in
    subst P (sym c.in-GetCurrent.is) (subst Q (sym c.told-in-GetCurrent.ensures) (c.get_current.ensures m v names))

pub returns-in-GetCurrent-clause-memory : goal.returns-in-GetCurrent-clause-memory
returns-in-GetCurrent-clause-memory c = λ h.
    let Q : Result Answered Fault → Type 0 = λ r. IsTold r in
    subst Q (sym c.told-in-GetCurrent.ensures) (is_told c.get_current.result)

pub returns-in-GetMain-clause-answers : goal.returns-in-GetMain-clause-answers
returns-in-GetMain-clause-answers c =
    let m = c.args.arena.now in
    let own = c.args.own in
    let v = value_of m c.args.object in
    let vs = all_of m c.args.arguments.now in
    let names = c.args.names.now in
    let P : Method → Type 0 = λ k. Answers (λ w. call_method (method_in k) v vs names w) own m m c.told-in-GetMain.result in
    let Q : Result Answered Fault → Type 0 = λ r. Answers (λ w. call_method attributes.GetMain v vs names w) own m m r in
    subst P (sym c.in-GetMain.is) (subst Q (sym c.told-in-GetMain.ensures) (c.get_main.ensures m own v names))

pub returns-in-GetMain-clause-memory : goal.returns-in-GetMain-clause-memory
returns-in-GetMain-clause-memory c = λ h.
    let Q : Result Answered Fault → Type 0 = λ r. IsTold r in
    subst Q (sym c.told-in-GetMain.ensures) (is_told c.get_main.result)

pub returns-in-CreateQueue-clause-answers : goal.returns-in-CreateQueue-clause-answers
returns-in-CreateQueue-clause-answers c =
    let m = c.args.arena.now in
    let own = c.args.own in
    let v = value_of m c.args.object in
    let vs = all_of m c.args.arguments.now in
    let names = c.args.names.now in
    let P : Method → Type 0 = λ k. Answers (λ w. call_method (method_in k) v vs names w) own m m c.told-in-CreateQueue.result in
    let Q : Result Answered Fault → Type 0 = λ r. Answers (λ w. call_method attributes.CreateQueue v vs names w) own m m r in
    subst P (sym c.in-CreateQueue.is) (subst Q (sym c.told-in-CreateQueue.ensures) (c.create_queue.ensures own v))

pub returns-in-CreateQueue-clause-memory : goal.returns-in-CreateQueue-clause-memory
returns-in-CreateQueue-clause-memory c = λ h.
    let Q : Result Answered Fault → Type 0 = λ r. IsTold r in
    subst Q (sym c.told-in-CreateQueue.ensures) (is_told c.create_queue.result)

pub returns-in-IsShareable-clause-answers : goal.returns-in-IsShareable-clause-answers
returns-in-IsShareable-clause-answers c =
    let m = c.args.arena.now in
    let own = c.args.own in
    let v = value_of m c.args.object in
    let vs = all_of m c.args.arguments.now in
    let names = c.args.names.now in
    let P : Method → Type 0 = λ k. Answers (λ w. call_method (method_in k) v vs names w) own m m c.told-in-IsShareable.result in
    let Q : Result Answered Fault → Type 0 = λ r. Answers (λ w. call_method attributes.IsShareable v vs names w) own m m r in
    subst P (sym c.in-IsShareable.is) (subst Q (sym c.told-in-IsShareable.ensures) (c.is_shareable.ensures own v))

pub returns-in-IsShareable-clause-memory : goal.returns-in-IsShareable-clause-memory
returns-in-IsShareable-clause-memory c = λ h.
    let Q : Result Answered Fault → Type 0 = λ r. IsTold r in
    subst Q (sym c.told-in-IsShareable.ensures) (is_told c.is_shareable.result)

pub returns-in-MakeThread-clause-answers : goal.returns-in-MakeThread-clause-answers
returns-in-MakeThread-clause-answers c =
    let m = c.args.arena.now in
    let own = c.args.own in
    let v = value_of m c.args.object in
    let vs = all_of m c.args.arguments.now in
    let names = c.args.names.now in
    let P : Method → Type 0 = λ k. Answers (λ w. call_method (method_in k) v vs names w) own m c.make_thread.new.arena c.make_thread.result in
    subst P (sym c.in-MakeThread.is) (c.make_thread.ensures own v)

pub returns-in-MakeThread-clause-memory : goal.returns-in-MakeThread-clause-memory
returns-in-MakeThread-clause-memory c = λ h.
    let T : Method → Type 0 = λ k. TakesNone (method_in k) (all_of c.args.arena.now c.args.arguments.now) in
    absurd (subst T c.in-MakeThread.is h)

pub returns-in-Start-clause-answers : goal.returns-in-Start-clause-answers
returns-in-Start-clause-answers c =
    let m = c.args.arena.now in
    let own = c.args.own in
    let v = value_of m c.args.object in
    let vs = all_of m c.args.arguments.now in
    let names = c.args.names.now in
    let P : Method → Type 0 = λ k. Answers (λ w. call_method (method_in k) v vs names w) own m m c.start.result in
    subst P (sym c.in-Start.is) (c.start.ensures own names)

pub returns-in-Start-clause-memory : goal.returns-in-Start-clause-memory
returns-in-Start-clause-memory c = λ h.
    let T : Method → Type 0 = λ k. TakesNone (method_in k) (all_of c.args.arena.now c.args.arguments.now) in
    absurd (subst T c.in-Start.is h)

pub returns-in-Join-clause-answers : goal.returns-in-Join-clause-answers
returns-in-Join-clause-answers c =
    let m = c.args.arena.now in
    let own = c.args.own in
    let v = value_of m c.args.object in
    let vs = all_of m c.args.arguments.now in
    let names = c.args.names.now in
    let P : Method → Type 0 = λ k. Answers (λ w. call_method (method_in k) v vs names w) own m m c.told-in-Join.result in
    let Q : Result Answered Fault → Type 0 = λ r. Answers (λ w. call_method attributes.Join v vs names w) own m m r in
    subst P (sym c.in-Join.is) (subst Q (sym c.told-in-Join.ensures) (c.join.ensures own names))

pub returns-in-Join-clause-memory : goal.returns-in-Join-clause-memory
returns-in-Join-clause-memory c = λ h.
    let Q : Result Answered Fault → Type 0 = λ r. IsTold r in
    subst Q (sym c.told-in-Join.ensures) (is_told c.join.result)

pub returns-in-Execute-clause-answers : goal.returns-in-Execute-clause-answers
returns-in-Execute-clause-answers c =
    let m = c.args.arena.now in
    let own = c.args.own in
    let v = value_of m c.args.object in
    let vs = all_of m c.args.arguments.now in
    let names = c.args.names.now in
    let P : Method → Type 0 = λ k. Answers (λ w. call_method (method_in k) v vs names w) own m m c.execute.result in
    subst P (sym c.in-Execute.is) (c.execute.ensures own)

pub returns-in-Execute-clause-memory : goal.returns-in-Execute-clause-memory
returns-in-Execute-clause-memory c = λ h.
    let T : Method → Type 0 = λ k. TakesNone (method_in k) (all_of c.args.arena.now c.args.arguments.now) in
    absurd (subst T c.in-Execute.is h)

pub returns-in-IsRunning-clause-answers : goal.returns-in-IsRunning-clause-answers
returns-in-IsRunning-clause-answers c =
    let m = c.args.arena.now in
    let own = c.args.own in
    let v = value_of m c.args.object in
    let vs = all_of m c.args.arguments.now in
    let names = c.args.names.now in
    let P : Method → Type 0 = λ k. Answers (λ w. call_method (method_in k) v vs names w) own m m c.told-in-IsRunning.result in
    let Q : Result Answered Fault → Type 0 = λ r. Answers (λ w. call_method attributes.IsRunning v vs names w) own m m r in
    subst P (sym c.in-IsRunning.is) (subst Q (sym c.told-in-IsRunning.ensures) (c.is_running.ensures own names))

pub returns-in-IsRunning-clause-memory : goal.returns-in-IsRunning-clause-memory
returns-in-IsRunning-clause-memory c = λ h.
    let Q : Result Answered Fault → Type 0 = λ r. IsTold r in
    subst Q (sym c.told-in-IsRunning.ensures) (is_told c.is_running.result)

pub returns-in-Close-clause-answers : goal.returns-in-Close-clause-answers
returns-in-Close-clause-answers c =
    let m = c.args.arena.now in
    let own = c.args.own in
    let v = value_of m c.args.object in
    let vs = all_of m c.args.arguments.now in
    let names = c.args.names.now in
    let P : Method → Type 0 = λ k. Answers (λ w. call_method (method_in k) v vs names w) own m m c.told-in-Close.result in
    let Q : Result Answered Fault → Type 0 = λ r. Answers (λ w. call_method attributes.Close v vs names w) own m m r in
    subst P (sym c.in-Close.is) (subst Q (sym c.told-in-Close.ensures) (c.close.ensures own names))

pub returns-in-Close-clause-memory : goal.returns-in-Close-clause-memory
returns-in-Close-clause-memory c = λ h.
    let Q : Result Answered Fault → Type 0 = λ r. IsTold r in
    subst Q (sym c.told-in-Close.ensures) (is_told c.close.result)

pub returns-in-PrepareMain-clause-answers : goal.returns-in-PrepareMain-clause-answers
returns-in-PrepareMain-clause-answers c =
    let m = c.args.arena.now in
    let own = c.args.own in
    let v = value_of m c.args.object in
    let vs = all_of m c.args.arguments.now in
    let names = c.args.names.now in
    let P : Method → Type 0 = λ k. Answers (λ w. call_method (method_in k) v vs names w) own m m c.prepare_main.result in
    subst P (sym c.in-PrepareMain.is) (c.prepare_main.ensures own)

pub returns-in-PrepareMain-clause-memory : goal.returns-in-PrepareMain-clause-memory
returns-in-PrepareMain-clause-memory c = λ h.
    let T : Method → Type 0 = λ k. TakesNone (method_in k) (all_of c.args.arena.now c.args.arguments.now) in
    absurd (subst T c.in-PrepareMain.is h)

pub returns-in-IsEmpty-clause-answers : goal.returns-in-IsEmpty-clause-answers
returns-in-IsEmpty-clause-answers c =
    let m = c.args.arena.now in
    let own = c.args.own in
    let v = value_of m c.args.object in
    let vs = all_of m c.args.arguments.now in
    let names = c.args.names.now in
    let P : Method → Type 0 = λ k. Answers (λ w. call_method (method_in k) v vs names w) own m m c.told-in-IsEmpty.result in
    let Q : Result Answered Fault → Type 0 = λ r. Answers (λ w. call_method attributes.IsEmpty v vs names w) own m m r in
    subst P (sym c.in-IsEmpty.is) (subst Q (sym c.told-in-IsEmpty.ensures) (c.is_empty.ensures own names))

pub returns-in-IsEmpty-clause-memory : goal.returns-in-IsEmpty-clause-memory
returns-in-IsEmpty-clause-memory c = λ h.
    let Q : Result Answered Fault → Type 0 = λ r. IsTold r in
    subst Q (sym c.told-in-IsEmpty.ensures) (is_told c.is_empty.result)

pub returns-in-IsFull-clause-answers : goal.returns-in-IsFull-clause-answers
returns-in-IsFull-clause-answers c =
    let m = c.args.arena.now in
    let own = c.args.own in
    let v = value_of m c.args.object in
    let vs = all_of m c.args.arguments.now in
    let names = c.args.names.now in
    let P : Method → Type 0 = λ k. Answers (λ w. call_method (method_in k) v vs names w) own m m c.told-in-IsFull.result in
    let Q : Result Answered Fault → Type 0 = λ r. Answers (λ w. call_method attributes.IsFull v vs names w) own m m r in
    subst P (sym c.in-IsFull.is) (subst Q (sym c.told-in-IsFull.ensures) (c.is_full.ensures own names))

pub returns-in-IsFull-clause-memory : goal.returns-in-IsFull-clause-memory
returns-in-IsFull-clause-memory c = λ h.
    let Q : Result Answered Fault → Type 0 = λ r. IsTold r in
    subst Q (sym c.told-in-IsFull.ensures) (is_told c.is_full.result)

pub returns-in-Size-clause-answers : goal.returns-in-Size-clause-answers
returns-in-Size-clause-answers c =
    let m = c.args.arena.now in
    let own = c.args.own in
    let v = value_of m c.args.object in
    let vs = all_of m c.args.arguments.now in
    let names = c.args.names.now in
    let P : Method → Type 0 = λ k. Answers (λ w. call_method (method_in k) v vs names w) own m m c.told-in-Size.result in
    let Q : Result Answered Fault → Type 0 = λ r. Answers (λ w. call_method attributes.Size v vs names w) own m m r in
    subst P (sym c.in-Size.is) (subst Q (sym c.told-in-Size.ensures) (c.size.ensures own names))

pub returns-in-Size-clause-memory : goal.returns-in-Size-clause-memory
returns-in-Size-clause-memory c = λ h.
    let Q : Result Answered Fault → Type 0 = λ r. IsTold r in
    subst Q (sym c.told-in-Size.ensures) (is_told c.size.result)

pub returns-in-Put-clause-answers : goal.returns-in-Put-clause-answers
returns-in-Put-clause-answers c =
    let m = c.args.arena.now in
    let own = c.args.own in
    let v = value_of m c.args.object in
    let vs = all_of m c.args.arguments.now in
    let names = c.args.names.now in
    let P : Method → Type 0 = λ k. Answers (λ w. call_method (method_in k) v vs names w) own m m c.put.result in
    subst P (sym c.in-Put.is) (c.put.ensures.answers own)

pub returns-in-Put-clause-memory : goal.returns-in-Put-clause-memory
returns-in-Put-clause-memory c = λ h.
    let T : Method → Type 0 = λ k. TakesNone (method_in k) (all_of c.args.arena.now c.args.arguments.now) in
    c.put.ensures.memory (subst T c.in-Put.is h)

pub returns-in-PutNow-clause-answers : goal.returns-in-PutNow-clause-answers
returns-in-PutNow-clause-answers c =
    let m = c.args.arena.now in
    let own = c.args.own in
    let v = value_of m c.args.object in
    let vs = all_of m c.args.arguments.now in
    let names = c.args.names.now in
    let P : Method → Type 0 = λ k. Answers (λ w. call_method (method_in k) v vs names w) own m m c.put_now.result in
    subst P (sym c.in-PutNow.is) (c.put_now.ensures.answers own)

pub returns-in-PutNow-clause-memory : goal.returns-in-PutNow-clause-memory
returns-in-PutNow-clause-memory c = λ h.
    let T : Method → Type 0 = λ k. TakesNone (method_in k) (all_of c.args.arena.now c.args.arguments.now) in
    c.put_now.ensures.memory (subst T c.in-PutNow.is h)

pub returns-in-Get-clause-answers : goal.returns-in-Get-clause-answers
returns-in-Get-clause-answers c =
    let m = c.args.arena.now in
    let own = c.args.own in
    let v = value_of m c.args.object in
    let vs = all_of m c.args.arguments.now in
    let names = c.args.names.now in
    let P : Method → Type 0 = λ k. Answers (λ w. call_method (method_in k) v vs names w) own m m c.told-in-Get.result in
    let Q : Result Answered Fault → Type 0 = λ r. Answers (λ w. call_method attributes.Get v vs names w) own m m r in
    subst P (sym c.in-Get.is) (subst Q (sym c.told-in-Get.ensures) (c.get.ensures own names))

pub returns-in-Get-clause-memory : goal.returns-in-Get-clause-memory
returns-in-Get-clause-memory c = λ h.
    let Q : Result Answered Fault → Type 0 = λ r. IsTold r in
    subst Q (sym c.told-in-Get.ensures) (is_told c.get.result)

pub returns-in-GetNow-clause-answers : goal.returns-in-GetNow-clause-answers
returns-in-GetNow-clause-answers c =
    let m = c.args.arena.now in
    let own = c.args.own in
    let v = value_of m c.args.object in
    let vs = all_of m c.args.arguments.now in
    let names = c.args.names.now in
    let P : Method → Type 0 = λ k. Answers (λ w. call_method (method_in k) v vs names w) own m m c.told-in-GetNow.result in
    let Q : Result Answered Fault → Type 0 = λ r. Answers (λ w. call_method attributes.GetNow v vs names w) own m m r in
    subst P (sym c.in-GetNow.is) (subst Q (sym c.told-in-GetNow.ensures) (c.get_now.ensures own names))

pub returns-in-GetNow-clause-memory : goal.returns-in-GetNow-clause-memory
returns-in-GetNow-clause-memory c = λ h.
    let Q : Result Answered Fault → Type 0 = λ r. IsTold r in
    subst Q (sym c.told-in-GetNow.ensures) (is_told c.get_now.result)
