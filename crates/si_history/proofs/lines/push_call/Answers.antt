use Rattle.std.proofs.Common.{◌++◌, ℕ, List, OnOk, codes, string_bytes, subst}
use Rattle.std.specs.Fmt.{decimal}
use Rattle.std.proofs.lemmas.Result.{on_ok_weaker}
use Rattle.si_semantics.specs.History.{Call}
use Rattle.si_parcel.specs.Shared.{action_of, answer_of}
use Rattle.si_history.specs.History.{call_line, action_text, answer_text}
use Rattle.si_history.specs.inner.Adding.{Adds}
use Rattle.si_history.proofs.LineEnds.{line_parts}
use Rattle.si_history.proofs.lines.push_call.Goals as goal

pub returns : goal.returns
returns c =
    let by : ℕ = c.call.inside.by in
    let seen : Call = record { by = by; action = action_of c.call.inside.action; answer = answer_of c.call.inside.answer } in
    let numbers : List ℕ = decimal c.args.number ++ codes " " ++ decimal by ++ codes " " in
    let old : List ℕ = string_bytes c.args.out.now in
    let numbered : List ℕ = string_bytes c.push_numbers.new.out in
    let asked : List ℕ = string_bytes c.push_action.new.out in
    let between : List ℕ = string_bytes c.push_word.new.out in
    let answered : List ℕ = string_bytes c.push_answer.new.out in
    let new : List ℕ = string_bytes c.push_word-2.new.out in
    let line : OnOk c.push_word-2.result (Adds old new (call_line c.args.number seen)) =
    on_ok_weaker c.push_word-2.result
    (line_parts old numbered asked between answered new numbers (action_text seen.action) (answer_text seen.answer) c.in_ok-push_numbers.ensures c.in_ok-push_action.ensures c.in_ok-push_word.ensures c.in_ok-push_answer.ensures)
    c.push_word-2.ensures in
    subst (λ v. OnOk c.push_word-2.result (Adds old new (call_line c.args.number v))) c.call.view_is line
