-- The state that interpreters share, and what each shared action is answered. The calls are those of PEP 734; the
-- numbers, the limits and the order of the tests are this project's own.
use Rattle.std.specs.Prelude.{ℕ, ◌+◌, List, [], ◌∷◌, ◌++◌, length, Bool, true, false, ◌&&◌, ◌||◌, ◌==◌, nat_lt, nat_le, slice_get, slice_set, Option, Some, None, is_some, if◌then◌else◌}
use Rattle.si_semantics.specs.Value.{Text}
use Rattle.si_semantics.specs.Parcels.{Tree}
use Rattle.si_semantics.specs.Life.{Outcome}
use Rattle.si_semantics.specs.Actions.{Job, Bind, Run, Closing, Action, Create, CreateQueue, Put, PutNow, Get, GetNow, Size, Prepare, Start, Await, IsRunning, Close, ListAll, Take, End, Answer}
use Rattle.si_semantics.specs.Actions as answer

-- a queue: how many items it may hold, 0 for any number, and what it holds, the oldest first (PEP 734, "Queue Objects")
pub record Queue : Type 0 where
  pub maxsize : ℕ
  pub items : List Tree

-- what an interpreter does: nothing, a run by its number, or nothing ever again
pub data Standing : Type 0 where
  Idle : Standing
  Running : ℕ → Standing
  Closed : Standing

-- an interpreter: what it does, and the jobs that it has not taken yet, the oldest first
pub record Interpreter : Type 0 where
  pub standing : Standing
  pub inbox : List Job

-- the queues, the interpreters and the outcomes of the runs, each by its number; a run that has not ended has no outcome
pub record State : Type 0 where
  pub queues : List Queue
  pub interpreters : List Interpreter
  pub runs : List (Option Outcome)

-- an action is not enabled, or has one answer and leaves one state
pub data Reply : Type 0 where
  NotNow : Reply
  Replied : Answer → State → Reply

-- ---- words for the rows

-- what is said of a queue, an interpreter or a run by its number: a number that was never given out has no action enabled
abbrev pub if_given : {A : Type 0} → Option A → (A → Reply) → Reply
if_given None row = NotNow
if_given (Some x) row = row x

-- no more may be put in
abbrev pub is_full : Queue → Bool
is_full l = nat_lt 0 l.maxsize && nat_le l.maxsize (length l.items)

abbrev pub is_closed : Standing → Bool
is_closed Idle = false
is_closed (Running r) = false
is_closed Closed = true

abbrev pub is_running : Standing → Bool
is_running Idle = false
is_running (Running r) = true
is_running Closed = false

abbrev pub run_of : Standing → Option ℕ
run_of Idle = None
run_of (Running r) = Some r
run_of Closed = None

-- the run that an interpreter has taken: it runs, and its inbox is empty
abbrev pub run_if_empty : Standing → List Job → Option ℕ
run_if_empty standing [] = run_of standing
run_if_empty standing (j ∷ js) = None

abbrev pub taken_run : Option Interpreter → Option ℕ
taken_run None = None
taken_run (Some m) = run_if_empty m.standing m.inbox

-- a new queue, and a new interpreter
abbrev pub empty_queue : ℕ → Queue
empty_queue maxsize = record { maxsize = maxsize; items = [] }

abbrev pub idle_interpreter : Interpreter
idle_interpreter = record { standing = Idle; inbox = [] }

-- the queue with other items
abbrev pub holding : List Tree → Queue → Queue
holding items l = record { maxsize = l.maxsize; items = items }

-- queue q, which is l, has these items from now on
abbrev pub with_items : State → ℕ → Queue → List Tree → State
with_items s q l items = record s { queues = slice_set s.queues q (holding items l) }

-- an interpreter stands so from now on
abbrev pub with_interpreter : State → ℕ → Standing → List Job → State
with_interpreter s j standing inbox = record s { interpreters = slice_set s.interpreters j (record { standing = standing; inbox = inbox }) }

-- the numbers of the interpreters that are not closed, the first of which has this number
abbrev pub open_from : ℕ → List Interpreter → List ℕ
open_from n [] = []
open_from n (m ∷ ms) = if is_closed m.standing then open_from (n + 1) ms else n ∷ open_from (n + 1) ms

-- ---- the rows, one an action; answers are tested in this order

-- Create, where there may be w interpreters, closed ones counted
abbrev pub create : ℕ → State → Reply
create w s =
    if nat_le w (length s.interpreters) then Replied answer.Limit s
    else Replied (answer.Created (length s.interpreters)) (record s { interpreters = s.interpreters ++ idle_interpreter ∷ [] })

-- the most queues
abbrev pub max_queues : ℕ
max_queues = 1024

-- CreateQueue
abbrev pub create_queue : ℕ → State → Reply
create_queue maxsize s =
    if nat_le max_queues (length s.queues) then Replied answer.Limit s
    else Replied (answer.QueueMade (length s.queues)) (record s { queues = s.queues ++ empty_queue maxsize ∷ [] })

-- Put and PutNow differ in what is said where the queue is full
abbrev pub put_else : Reply → ℕ → Tree → State → Reply
put_else instead q p s = if_given (slice_get s.queues q) (λ l. if is_full l then instead else Replied answer.Done (with_items s q l (l.items ++ p ∷ [])))

-- Put: enabled while the queue is not full
abbrev pub put : ℕ → Tree → State → Reply
put q p s = put_else NotNow q p s

-- PutNow
abbrev pub put_now : ℕ → Tree → State → Reply
put_now q p s = put_else (Replied answer.Full s) q p s

-- the first item is taken away
abbrev pub take_first : Reply → ℕ → Queue → List Tree → State → Reply
take_first instead q l [] s = instead
take_first instead q l (p ∷ rest) s = Replied (answer.Item p) (with_items s q l rest)

-- Get and GetNow differ in what is said where the queue is empty
abbrev pub get_else : Reply → ℕ → State → Reply
get_else instead q s = if_given (slice_get s.queues q) (λ l. take_first instead q l l.items s)

-- Get: enabled while the queue is not empty
abbrev pub get : ℕ → State → Reply
get q s = get_else NotNow q s

-- GetNow
abbrev pub get_now : ℕ → State → Reply
get_now q s = get_else (Replied answer.Empty s) q s

-- Size
abbrev pub size : ℕ → State → Reply
size q s = if_given (slice_get s.queues q) (λ l. Replied (answer.Count (length l.items)) s)

-- Prepare, by what the target does
abbrev pub prepare_at : Standing → ℕ → List Job → List (Text × Tree) → State → Reply
prepare_at Closed j inbox binds s = Replied answer.NotFound s
prepare_at (Running r) j inbox binds s = Replied answer.Running s
prepare_at Idle j inbox binds s = Replied answer.Done (with_interpreter s j Idle (inbox ++ Bind binds ∷ []))

-- Prepare: the names are bound when the target takes the job
abbrev pub prepare : ℕ → List (Text × Tree) → State → Reply
prepare j binds s = if_given (slice_get s.interpreters j) (λ m. prepare_at m.standing j m.inbox binds s)

-- a run more, of the text for interpreter j
abbrev pub with_run : ℕ → List Job → Text → State → State
with_run j inbox text s = record (with_interpreter s j (Running (length s.runs)) (inbox ++ Run (length s.runs) text ∷ [])) { runs = s.runs ++ None ∷ [] }

-- Start, by what the target does
abbrev pub start_at : Standing → ℕ → List Job → Text → State → Reply
start_at Closed j inbox text s = Replied answer.NotFound s
start_at (Running r) j inbox text s = Replied answer.Running s
start_at Idle j inbox text s = Replied (answer.Started (length s.runs)) (with_run j inbox text s)

-- Start: the target runs from now on, and its run lies in its inbox
abbrev pub start : ℕ → Text → State → Reply
start j text s = if_given (slice_get s.interpreters j) (λ m. start_at m.standing j m.inbox text s)

-- Await: enabled once the run has an outcome
abbrev pub await : ℕ → State → Reply
await r s = if_given (slice_get s.runs r) (λ ended. if_given ended (λ o. Replied (answer.Ended o) s))

-- IsRunning
abbrev pub running : ℕ → State → Reply
running j s = if_given (slice_get s.interpreters j) (λ m. if is_closed m.standing then Replied answer.NotFound s else Replied (answer.Truth (is_running m.standing)) s)

-- Close by i; interpreter 0 is the main interpreter
abbrev pub close_at : Standing → ℕ → ℕ → List Job → State → Reply
close_at standing i j inbox s =
    if is_closed standing then Replied answer.NotFound s
    else if i == j then Replied answer.Current s
    else if j == 0 then Replied answer.Main s
    else if is_running standing then Replied answer.Running s
    else Replied answer.Done (with_interpreter s j Closed (inbox ++ Closing ∷ []))

-- Close: the target takes that it closes as its last job
abbrev pub close : ℕ → ℕ → State → Reply
close i j s = if_given (slice_get s.interpreters j) (λ m. close_at m.standing i j m.inbox s)

-- ListAll: the interpreters that are not closed, rising
abbrev pub list_all : State → Reply
list_all s = Replied (answer.Ids (open_from 0 s.interpreters)) s

-- the first job is taken away
abbrev pub take_job : Standing → ℕ → List Job → State → Reply
take_job standing i [] s = NotNow
take_job standing i (j ∷ rest) s = Replied (answer.Given j) (with_interpreter s i standing rest)

-- Take by i: enabled while its inbox is not empty
abbrev pub take : ℕ → State → Reply
take i s = if_given (slice_get s.interpreters i) (λ m. take_job m.standing i m.inbox s)

-- End by i: the run that it has taken has this outcome
abbrev pub end : ℕ → Outcome → State → Reply
end i o s = if_given (taken_run (slice_get s.interpreters i)) (λ r. Replied answer.Done (record (with_interpreter s i Idle []) { runs = slice_set s.runs r (Some o) }))

-- ---- the table

abbrev pub row : ℕ → State → ℕ → Action → Reply
row w s i Create = create w s
row w s i (CreateQueue maxsize) = create_queue maxsize s
row w s i (Put q p) = put q p s
row w s i (PutNow q p) = put_now q p s
row w s i (Get q) = get q s
row w s i (GetNow q) = get_now q s
row w s i (Size q) = size q s
row w s i (Prepare j binds) = prepare j binds s
row w s i (Start j text) = start j text s
row w s i (Await r) = await r s
row w s i (IsRunning j) = running j s
row w s i (Close j) = close i j s
row w s i ListAll = list_all s
row w s i Take = take i s
row w s i (End o) = end i o s

abbrev pub is_take : Action → Bool
is_take Take = true
is_take _ = false

-- every action but Take is for an interpreter that runs, and has taken that run
abbrev pub may_act : State → ℕ → Action → Bool
may_act s i a = is_take a || is_some (taken_run (slice_get s.interpreters i))

-- what is said to the action of interpreter i, where there may be w interpreters
unfoldable pub reply : ℕ → State → ℕ → Action → Reply
reply w s i a = if may_act s i a then row w s i a else NotNow

abbrev pub is_enabled : Reply → Bool
is_enabled NotNow = false
is_enabled (Replied r t) = true

-- at first interpreter 0 runs, and its run, of the script, lies in its inbox
abbrev pub first_state : Text → State
first_state script = record {
  queues = [];
  interpreters = record { standing = Running 0; inbox = Run 0 script ∷ [] } ∷ [];
  runs = None ∷ [];
}
