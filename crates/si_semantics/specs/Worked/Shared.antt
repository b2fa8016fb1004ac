-- Worked cases of the shared state: what actions are answered, computed from the table.
use Rattle.std.specs.Prelude.{◌≡◌, codes, ℕ, pos, List, [], ◌∷◌, replicate, true, false, Option, Some, None}
use Rattle.si_plain.specs.declared.kind.Kind.TheVariants.{ValueError}
use Rattle.si_semantics.specs.Value.{Text}
use Rattle.si_semantics.specs.Parcels.{Tree, Leaf, Int, Str}
use Rattle.si_semantics.specs.Life.{Returned, Raised}
use Rattle.si_semantics.specs.Actions.{Job, Bind, Run, Closing, Action, Create, CreateQueue, Put, PutNow, Get, GetNow, Size, Prepare, Start, Await, IsRunning, Close, ListAll, Take, End, Answer}
use Rattle.si_semantics.specs.Actions as answer
use Rattle.si_semantics.specs.Shared.{State, Queue, Interpreter, Standing, Idle, Running, Closed, Replied, reply, empty_queue, first_state}
use Rattle.si_semantics.specs.History.{Call, next_state, answer_in}
use Rattle.si_semantics.specs.SharedLaws.{IsJournal, state_by, put_into, taken_from, held_by, given, OfQueue, standing_in, call}

-- what actions are answered one after another, each by an interpreter; None where one is not enabled
abbrev pub answers_to : ℕ → State → List (ℕ × Action) → List (Option Answer)
answers_to w s [] = []
answers_to w s (a ∷ more) = answer_in (reply w s a.0 a.1) ∷ answers_to w (next_state (reply w s a.0 a.1) s) more

abbrev pub one : Tree
one = Leaf (Int (pos 1))

abbrev pub two : Tree
two = Leaf (Str (codes "two"))

-- `x = 1`
abbrev pub x_is_one : List (Text × Tree)
x_is_one = (codes "x", one) ∷ []

-- with two interpreters at most and an empty script, what 0 and 1 ask
abbrev pub asked : List (ℕ × Action)
asked =
    (0, End Returned)
    ∷ (0, Take)
    ∷ (0, Create)
    ∷ (1, Take)
    ∷ (0, Create)
    ∷ (0, Prepare 1 x_is_one)
    ∷ (0, Start 1 (codes "t"))
    ∷ (0, Close 1)
    ∷ (0, IsRunning 1)
    ∷ (0, Await 1)
    ∷ (1, End Returned)
    ∷ (1, Take)
    ∷ (1, End Returned)
    ∷ (1, Take)
    ∷ (1, End Returned)
    ∷ (0, Await 1)
    ∷ (0, Close 1)
    ∷ (1, Take)
    ∷ (0, Close 1)
    ∷ []

-- and what they are answered: fourteen calls, and five actions that were not enabled
abbrev pub answered : List (Option Answer)
answered =
    None
    ∷ Some (answer.Given (Run 0 []))
    ∷ Some (answer.Created 1)
    ∷ None
    ∷ Some answer.Limit
    ∷ Some answer.Done
    ∷ Some (answer.Started 1)
    ∷ Some answer.Running
    ∷ Some (answer.Truth true)
    ∷ None
    ∷ None
    ∷ Some (answer.Given (Bind x_is_one))
    ∷ None
    ∷ Some (answer.Given (Run 1 (codes "t")))
    ∷ Some answer.Done
    ∷ Some (answer.Ended Returned)
    ∷ Some answer.Done
    ∷ Some (answer.Given Closing)
    ∷ Some answer.NotFound
    ∷ []

-- an interpreter that stands so, with these jobs
abbrev pub interpreter : Standing → List Job → Interpreter
interpreter standing inbox = record { standing = standing; inbox = inbox }

-- a queue without a limit that is empty, a full one of one item, and one of two that holds one
abbrev pub three_queues : List Queue
three_queues = record { maxsize = 0; items = [] } ∷ record { maxsize = 1; items = one ∷ [] } ∷ record { maxsize = 2; items = one ∷ [] } ∷ []

-- 0 runs and has taken its run; 1 is idle; 2 runs and has not taken its run; 3 is closed; 4 runs and has taken its run
abbrev pub five_interpreters : List Interpreter
five_interpreters =
    interpreter (Running 0) []
    ∷ interpreter Idle []
    ∷ interpreter (Running 2) (Run 2 (codes "b") ∷ [])
    ∷ interpreter Closed []
    ∷ interpreter (Running 3) []
    ∷ []

-- three queues, five interpreters, and four runs, of which 1 has ended
abbrev pub midway : State
midway = record {
  queues = three_queues;
  interpreters = five_interpreters;
  runs = None ∷ Some (Raised ValueError (codes "done")) ∷ None ∷ None ∷ [];
}

-- what is said to an action of interpreter 0 there, where there may be eight interpreters
abbrev pub said : Action → Option Answer
said a = answer_in (reply 8 midway 0 a)

-- and the state that it leaves
abbrev pub left : Action → State
left a = next_state (reply 8 midway 0 a) midway

-- the same with other queues, or other interpreters
abbrev pub with_queues : List Queue → State
with_queues queues = record midway { queues = queues }

abbrev pub with_interpreters : List Interpreter → State
with_interpreters interpreters = record midway { interpreters = interpreters }

-- there are so many empty queues
abbrev pub with_empty : ℕ → State
with_empty n = with_queues (replicate n (empty_queue 0))

-- of a queue of two items: one and two are put in, one more is refused, and one is taken
abbrev pub queue_calls : List Call
queue_calls =
    call 0 Take (answer.Given (Run 0 []))
    ∷ call 0 (CreateQueue 2) (answer.QueueMade 0)
    ∷ call 0 (CreateQueue 0) (answer.QueueMade 1)
    ∷ call 0 (Put 0 one) answer.Done
    ∷ call 0 (Put 1 two) answer.Done
    ∷ call 0 (PutNow 0 two) answer.Done
    ∷ call 0 (PutNow 0 one) answer.Full
    ∷ call 0 (GetNow 0) (answer.Item one)
    ∷ []

-- each case has its name; what shows it is a computation
pub record SharedCases : Type 0 where
  pub fourteen_calls : answers_to 2 (first_state []) asked ≡ answered
  pub create_at_the_limit : answer_in (reply 5 midway 0 Create) ≡ Some answer.Limit
  pub create_below_the_limit : said Create ≡ Some (answer.Created 5)
  pub a_queue_is_made : reply 8 midway 0 (CreateQueue 7) ≡ Replied (answer.QueueMade 3)
      (with_queues (record { maxsize = 0; items = [] } ∷ record { maxsize = 1; items = one ∷ [] } ∷ record { maxsize = 2; items = one ∷ [] } ∷ record { maxsize = 7; items = [] } ∷ []))
  pub create_queue_at_the_limit : reply 8 (with_empty 1024) 0 (CreateQueue 7) ≡ Replied answer.Limit (with_empty 1024)
  pub create_queue_below_the_limit : answer_in (reply 8 (with_empty 1023) 0 (CreateQueue 7)) ≡ Some (answer.QueueMade 1023)
  pub put_where_full : said (Put 1 two) ≡ None
  pub put_where_not_full : reply 8 midway 0 (Put 2 two) ≡ Replied answer.Done
      (with_queues (record { maxsize = 0; items = [] } ∷ record { maxsize = 1; items = one ∷ [] } ∷ record { maxsize = 2; items = one ∷ two ∷ [] } ∷ []))
  pub put_without_a_limit : said (Put 0 two) ≡ Some answer.Done
  pub put_into_no_queue : said (Put 3 two) ≡ None
  pub put_now_where_full : reply 8 midway 0 (PutNow 1 two) ≡ Replied answer.Full midway
  pub put_now_where_not_full : said (PutNow 2 two) ≡ Some answer.Done
  pub put_now_into_no_queue : said (PutNow 3 two) ≡ None
  pub get_where_empty : said (Get 0) ≡ None
  pub get_where_not_empty : reply 8 (left (Put 2 two)) 0 (Get 2) ≡ Replied (answer.Item one)
      (with_queues (record { maxsize = 0; items = [] } ∷ record { maxsize = 1; items = one ∷ [] } ∷ record { maxsize = 2; items = two ∷ [] } ∷ []))
  pub get_from_no_queue : said (Get 3) ≡ None
  pub get_now_where_empty : reply 8 midway 0 (GetNow 0) ≡ Replied answer.Empty midway
  pub get_now_where_not_empty : said (GetNow 1) ≡ Some (answer.Item one)
  pub get_now_from_no_queue : said (GetNow 3) ≡ None
  pub size_of_a_queue : reply 8 midway 0 (Size 1) ≡ Replied (answer.Count 1) midway
  pub size_of_no_queue : said (Size 3) ≡ None
  pub prepare_a_closed_one : said (Prepare 3 x_is_one) ≡ Some answer.NotFound
  pub prepare_a_running_one : said (Prepare 4 x_is_one) ≡ Some answer.Running
  pub prepare_an_idle_one : reply 8 midway 0 (Prepare 1 x_is_one) ≡ Replied answer.Done
      (with_interpreters
      (interpreter (Running 0) []
      ∷ interpreter Idle (Bind x_is_one ∷ [])
      ∷ interpreter (Running 2) (Run 2 (codes "b") ∷ [])
      ∷ interpreter Closed []
      ∷ interpreter (Running 3) []
      ∷ []))
  pub prepare_none : said (Prepare 5 x_is_one) ≡ None
  pub start_a_closed_one : said (Start 3 (codes "t")) ≡ Some answer.NotFound
  pub start_a_running_one : said (Start 2 (codes "t")) ≡ Some answer.Running
  pub start_oneself : said (Start 0 (codes "t")) ≡ Some answer.Running
  pub start_an_idle_one : reply 8 midway 0 (Start 1 (codes "t")) ≡ Replied (answer.Started 4)
      (record {
        queues = three_queues;
        interpreters =
            interpreter (Running 0) []
            ∷ interpreter (Running 4) (Run 4 (codes "t") ∷ [])
            ∷ interpreter (Running 2) (Run 2 (codes "b") ∷ [])
            ∷ interpreter Closed []
            ∷ interpreter (Running 3) []
            ∷ [];
        runs = None ∷ Some (Raised ValueError (codes "done")) ∷ None ∷ None ∷ None ∷ [];
      })
  pub start_none : said (Start 5 (codes "t")) ≡ None
  pub await_before_the_outcome : said (Await 2) ≡ None
  pub await_the_outcome : reply 8 midway 0 (Await 1) ≡ Replied (answer.Ended (Raised ValueError (codes "done"))) midway
  pub await_no_run : said (Await 4) ≡ None
  pub is_a_closed_one_running : said (IsRunning 3) ≡ Some answer.NotFound
  pub is_an_idle_one_running : said (IsRunning 1) ≡ Some (answer.Truth false)
  pub is_one_with_its_run_in_the_inbox_running : said (IsRunning 2) ≡ Some (answer.Truth true)
  pub is_a_running_one_running : reply 8 midway 0 (IsRunning 4) ≡ Replied (answer.Truth true) midway
  pub is_none_running : said (IsRunning 5) ≡ None
  pub close_a_closed_one : said (Close 3) ≡ Some answer.NotFound
  pub close_oneself : said (Close 0) ≡ Some answer.Current
  pub close_oneself_as_another : answer_in (reply 8 midway 4 (Close 4)) ≡ Some answer.Current
  pub close_the_main_one : answer_in (reply 8 midway 4 (Close 0)) ≡ Some answer.Main
  pub close_a_running_one : said (Close 4) ≡ Some answer.Running
  pub close_one_with_its_run_in_the_inbox : said (Close 2) ≡ Some answer.Running
  pub close_an_idle_one : reply 8 (left (Prepare 1 x_is_one)) 0 (Close 1) ≡ Replied answer.Done
      (with_interpreters
      (interpreter (Running 0) []
      ∷ interpreter Closed (Bind x_is_one ∷ Closing ∷ [])
      ∷ interpreter (Running 2) (Run 2 (codes "b") ∷ [])
      ∷ interpreter Closed []
      ∷ interpreter (Running 3) []
      ∷ []))
  pub close_none : said (Close 5) ≡ None
  pub those_not_closed : reply 8 midway 0 ListAll ≡ Replied (answer.Ids (0 ∷ 1 ∷ 2 ∷ 4 ∷ [])) midway
  pub take_from_an_empty_inbox : said Take ≡ None
  pub take_a_job : reply 8 midway 2 Take ≡ Replied (answer.Given (Run 2 (codes "b")))
      (with_interpreters
      (interpreter (Running 0) []
      ∷ interpreter Idle []
      ∷ interpreter (Running 2) []
      ∷ interpreter Closed []
      ∷ interpreter (Running 3) []
      ∷ []))
  pub take_by_none : answer_in (reply 8 midway 5 Take) ≡ None
  pub a_run_ends : reply 8 midway 4 (End Returned) ≡ Replied answer.Done
      (record {
        queues = three_queues;
        interpreters =
            interpreter (Running 0) []
            ∷ interpreter Idle []
            ∷ interpreter (Running 2) (Run 2 (codes "b") ∷ [])
            ∷ interpreter Closed []
            ∷ interpreter Idle []
            ∷ [];
        runs = None ∷ Some (Raised ValueError (codes "done")) ∷ None ∷ Some Returned ∷ [];
      })
  pub idle_ones_do_nothing : answer_in (reply 8 midway 1 ListAll) ≡ None
  pub a_run_in_the_inbox_is_not_taken : answer_in (reply 8 midway 2 ListAll) ≡ None
  pub closed_ones_do_nothing : answer_in (reply 8 midway 3 ListAll) ≡ None
  pub none_does_nothing : answer_in (reply 8 midway 5 ListAll) ≡ None
  pub calls_of_a_queue : IsJournal 1 [] queue_calls
  pub put_into_a_queue : put_into 0 queue_calls ≡ one ∷ two ∷ []
  pub taken_from_a_queue : taken_from 0 queue_calls ≡ one ∷ []
  pub held_by_a_queue : held_by 0 (state_by 1 [] queue_calls) ≡ two ∷ []
  pub a_number_is_given : given (answer.QueueMade 1) ≡ Some (OfQueue 1)
  pub no_number_is_given : given (answer.Item one) ≡ None
  pub a_closed_one_stands_so : standing_in midway 3 ≡ Some Closed
  pub none_stands_so : standing_in midway 5 ≡ None
