-- Laws of the shared state: what holds of every journal, whatever the script and the limit of interpreters.
use Rattle.std.specs.Prelude.{◌≡◌, ◌≢◌, ℕ, ◌≤◌, List, [], ◌∷◌, ◌++◌, length, Bool, true, false, ◌==◌, Option, Some, None, slice_get}
use Rattle.si_semantics.specs.Value.{Text}
use Rattle.si_semantics.specs.Parcels.{Tree}
use Rattle.si_semantics.specs.Actions.{Action, Put, PutNow, Get, GetNow, Answer, Done, Item, Created, QueueMade, Started, fits}
use Rattle.si_semantics.specs.Shared.{State, Queue, Interpreter, Standing, Closed, reply, is_enabled, first_state, max_queues}
use Rattle.si_semantics.specs.History.{Call, state_after, Told}

-- calls of a script with at most w interpreters: each was enabled at its point, and was replied its answer
abbrev pub IsJournal : ℕ → Text → List Call → Type 0
IsJournal w script calls = Told w (first_state script) calls

-- the state that they leave
abbrev pub state_by : ℕ → Text → List Call → State
state_by w script calls = state_after w (first_state script) calls

-- ---- queues

-- this item, where it is one of the queue that is looked at
abbrev pub only : Bool → Tree → List Tree
only true p = p ∷ []
only false p = []

-- what a call put into queue q: the parcel of a Put or a PutNow that was done
abbrev pub put_by : ℕ → Action → Answer → List Tree
put_by q (Put k p) Done = only (k == q) p
put_by q (PutNow k p) Done = only (k == q) p
put_by q _ _ = []

-- what a call took from queue q: the item that a Get or a GetNow was answered
abbrev pub taken_by : ℕ → Action → Answer → List Tree
taken_by q (Get k) (Item p) = only (k == q) p
taken_by q (GetNow k) (Item p) = only (k == q) p
taken_by q _ _ = []

-- all that calls put into queue q, in order, and all that they took from it
abbrev pub put_into : ℕ → List Call → List Tree
put_into q [] = []
put_into q (c ∷ calls) = put_by q c.action c.answer ++ put_into q calls

abbrev pub taken_from : ℕ → List Call → List Tree
taken_from q [] = []
taken_from q (c ∷ calls) = taken_by q c.action c.answer ++ taken_from q calls

-- what queue q holds, the oldest first; nothing where it was not made
abbrev pub items_of : Option Queue → List Tree
items_of None = []
items_of (Some l) = l.items

abbrev pub held_by : ℕ → State → List Tree
held_by q s = items_of (slice_get s.queues q)

-- first in, first out (PEP 734, "Queue Objects"): what was put into a queue is what was taken from it, and then what it holds,
-- all in the order in which it was put
abbrev pub FirstInFirstOut : Type 0
FirstInFirstOut =
    (w : ℕ) (script : Text) (calls : List Call) (q : ℕ)
    → IsJournal w script calls → put_into q calls ≡ taken_from q calls ++ held_by q (state_by w script calls)

-- ---- numbers

-- the number of an interpreter, of a queue or of a run
pub data Number : Type 0 where
  OfInterpreter : ℕ → Number
  OfQueue : ℕ → Number
  OfRun : ℕ → Number

-- the number that an answer gives
abbrev pub given : Answer → Option Number
given (Created i) = Some (OfInterpreter i)
given (QueueMade q) = Some (OfQueue q)
given (Started r) = Some (OfRun r)
given _ = None

-- no number is given twice, and none that there was at first: interpreter 0 and run 0
pub record GivenOnce : Type 0 where
  pub never_twice :
      (w : ℕ) (script : Text) (before between after : List Call) (c d : Call) (x : Number)
      → IsJournal w script (before ++ c ∷ (between ++ d ∷ after)) → given c.answer ≡ Some x → given d.answer ≢ Some x
  pub no_first_interpreter :
      (w : ℕ) (script : Text) (before after : List Call) (c : Call)
      → IsJournal w script (before ++ c ∷ after) → given c.answer ≢ Some (OfInterpreter 0)
  pub no_first_run :
      (w : ℕ) (script : Text) (before after : List Call) (c : Call)
      → IsJournal w script (before ++ c ∷ after) → given c.answer ≢ Some (OfRun 0)

-- there are never more interpreters than the limit, closed ones counted, nor more than 1,024 queues
pub record WithinLimits : Type 0 where
  pub interpreters : (w : ℕ) (script : Text) (calls : List Call) → 1 ≤ w → length (state_by w script calls).interpreters ≤ w
  pub queues : (w : ℕ) (script : Text) (calls : List Call) → length (state_by w script calls).queues ≤ max_queues

-- ---- interpreters

-- what an interpreter does, if it was created
abbrev pub standing_of : Option Interpreter → Option Standing
standing_of None = None
standing_of (Some m) = Some m.standing

abbrev pub standing_in : State → ℕ → Option Standing
standing_in s i = standing_of (slice_get s.interpreters i)

-- a closed interpreter stays closed, whatever calls come after
abbrev pub ClosedStays : Type 0
ClosedStays =
    (w : ℕ) (script : Text) (before after : List Call) (i : ℕ)
    → standing_in (state_by w script before) i ≡ Some Closed → standing_in (state_by w script (before ++ after)) i ≡ Some Closed

-- ---- answers

abbrev pub call : ℕ → Action → Answer → Call
call i a r = record { by = i; action = a; answer = r }

-- who asked, and what, in order
abbrev pub asked_in : List Call → List (ℕ × Action)
asked_in [] = []
asked_in (c ∷ calls) = (c.by, c.action) ∷ asked_in calls

-- an action has an answer exactly where it is enabled, and no other; so the answers of a journal follow from what was asked;
-- and each answer is one that its action may be given
pub record OneAnswer : Type 0 where
  pub answered :
      (w : ℕ) (script : Text) (calls : List Call) (i : ℕ) (a : Action)
      → IsJournal w script calls → is_enabled (reply w (state_by w script calls) i a) ≡ true
      → (r : Answer) × IsJournal w script (calls ++ call i a r ∷ [])
  pub only_enabled :
      (w : ℕ) (script : Text) (calls : List Call) (i : ℕ) (a : Action) (r : Answer)
      → IsJournal w script (calls ++ call i a r ∷ []) → is_enabled (reply w (state_by w script calls) i a) ≡ true
  pub no_other :
      (w : ℕ) (script : Text) (calls others : List Call)
      → IsJournal w script calls → IsJournal w script others → asked_in calls ≡ asked_in others → calls ≡ others
  pub fits : (w : ℕ) (script : Text) (before after : List Call) (c : Call) → IsJournal w script (before ++ c ∷ after) → fits c.answer c.action ≡ true
