-- The text of a history: a line for each call of a journal (this project's own format).
use Rattle.std.specs.Prelude.{codes, ℕ, suc, List, [], ◌∷◌, ◌++◌, true, false}
use Rattle.std.specs.List.{flat_map}
use Rattle.std.specs.Fmt.{decimal}
use Rattle.si_plain.specs.Kinds.{name_of}
use Rattle.si_plain.specs.Repr.{repr_of}
use Rattle.si_semantics.specs.Value.{Text}
use Rattle.si_semantics.specs.Parcels.{Tree, shown}
use Rattle.si_semantics.specs.Life.{Outcome, Returned, Raised}
use Rattle.si_semantics.specs.Actions.{Job, Bind, Run, Closing, Action, Create, CreateQueue, Put, PutNow, Get, GetNow, Size, Prepare, Start, Await, IsRunning, Close, ListAll, Take, End, Answer, Limit, Created, QueueMade, Started, Done, Full, Empty, Item, Count, NotFound, Running, Current, Main, Ended, Truth, Ids, Given}
use Rattle.si_semantics.specs.History.{Call}

-- how a run ended; a message by its `repr`, and so in quotes where it is empty too
abbrev pub outcome_text : Outcome → Text
outcome_text Returned = codes "returned"
outcome_text (Raised kind message) = codes "raised " ++ name_of kind ++ codes " " ++ repr_of message

-- a name to bind, by its `repr` and after a space; its parcel is not told
abbrev pub name_text : Text × Tree → Text
name_text b = codes " " ++ repr_of b.0

-- names to bind; nothing where there are none
abbrev pub names_text : List (Text × Tree) → Text
names_text bs = flat_map name_text bs

-- what was asked; the text of a run that is started is not told
abbrev pub action_text : Action → Text
action_text Create = codes "create"
action_text (CreateQueue maxsize) = codes "queue " ++ decimal maxsize
action_text (Put q p) = codes "put " ++ decimal q ++ codes " " ++ shown p
action_text (PutNow q p) = codes "putnow " ++ decimal q ++ codes " " ++ shown p
action_text (Get q) = codes "get " ++ decimal q
action_text (GetNow q) = codes "getnow " ++ decimal q
action_text (Size q) = codes "size " ++ decimal q
action_text (Prepare j bs) = codes "prepare " ++ decimal j ++ names_text bs
action_text (Start j text) = codes "start " ++ decimal j
action_text (Await r) = codes "await " ++ decimal r
action_text (IsRunning j) = codes "running " ++ decimal j
action_text (Close j) = codes "close " ++ decimal j
action_text ListAll = codes "list"
action_text Take = codes "take"
action_text (End o) = codes "end " ++ outcome_text o

-- a number after a space
abbrev pub further_id : ℕ → Text
further_id i = codes " " ++ decimal i

abbrev pub further_ids : List ℕ → Text
further_ids is = flat_map further_id is

-- numbers of interpreters with spaces between; nothing where there are none
abbrev pub ids_text : List ℕ → Text
ids_text [] = []
ids_text (i ∷ is) = decimal i ++ further_ids is

-- what an interpreter is given to do; the text of its run is not told
abbrev pub job_text : Job → Text
job_text (Bind bs) = codes "bind" ++ names_text bs
job_text (Run r text) = codes "run " ++ decimal r
job_text Closing = codes "closing"

-- what was answered
abbrev pub answer_text : Answer → Text
answer_text Limit = codes "limit"
answer_text (Created i) = codes "interpreter " ++ decimal i
answer_text (QueueMade q) = codes "queue " ++ decimal q
answer_text (Started r) = codes "run " ++ decimal r
answer_text Done = codes "done"
answer_text Full = codes "full"
answer_text Empty = codes "empty"
answer_text (Item p) = shown p
answer_text (Count n) = decimal n
answer_text NotFound = codes "notfound"
answer_text Running = codes "running"
answer_text Current = codes "current"
answer_text Main = codes "main"
answer_text (Ended o) = outcome_text o
answer_text (Truth true) = codes "True"
answer_text (Truth false) = codes "False"
answer_text (Ids is) = ids_text is
answer_text (Given j) = job_text j

-- the line of a call: its number, who asked, the action and the answer
abbrev pub call_line : (number : ℕ) → Call → Text
call_line number c = decimal number ++ codes " " ++ decimal c.by ++ codes " " ++ action_text c.action ++ codes " = " ++ answer_text c.answer ++ codes "\n"

-- the lines of these calls, of which the first has this number
abbrev pub lines_from : (number : ℕ) → List Call → Text
lines_from n [] = []
lines_from n (c ∷ cs) = call_line n c ++ lines_from (suc n) cs

-- a line for each call, with numbers from 1
abbrev pub history : List Call → Text
history cs = lines_from 1 cs
