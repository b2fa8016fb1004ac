-- Shared actions: what an interpreter asks of what all interpreters share, and what it is answered (this project's own; PEP 734,
-- "Interpreter Objects" and "Queue Objects", has the calls that make them). Interpreters, queues and runs go by their numbers.
use Rattle.std.specs.Prelude.{ℕ, List, Bool, true, false}
use Rattle.si_semantics.specs.Value.{Text}
use Rattle.si_semantics.specs.Parcels.{Tree}
use Rattle.si_semantics.specs.Life.{Outcome}

pub data Action : Type 0 where
  -- a new interpreter
  Create : Action
  -- a new queue of at most so many items, 0 for no bound
  CreateQueue : (maxsize : ℕ) → Action
  -- a parcel at the end of a queue: Put waits while the queue is full, PutNow doesn't
  Put : (queue : ℕ) → Tree → Action
  PutNow : (queue : ℕ) → Tree → Action
  -- the first item of a queue: Get waits while the queue is empty, GetNow doesn't
  Get : (queue : ℕ) → Action
  GetNow : (queue : ℕ) → Action
  Size : (queue : ℕ) → Action
  -- names to bind in another interpreter
  Prepare : (interpreter : ℕ) → List (Text × Tree) → Action
  -- a run of this text in another interpreter
  Start : (interpreter : ℕ) → Text → Action
  -- the end of a run
  Await : (run : ℕ) → Action
  IsRunning : (interpreter : ℕ) → Action
  Close : (interpreter : ℕ) → Action
  ListAll : Action
  -- the next job of one's own
  Take : Action
  -- the own run ended so
  End : Outcome → Action

-- what an interpreter is given to do: names to bind, a run of this number and text, or to close
pub data Job : Type 0 where
  Bind : List (Text × Tree) → Job
  Run : (run : ℕ) → Text → Job
  Closing : Job

pub data Answer : Type 0 where
  -- there are as many as the limits allow
  Limit : Answer
  -- the number of what was made or started
  Created : (interpreter : ℕ) → Answer
  QueueMade : (queue : ℕ) → Answer
  Started : (run : ℕ) → Answer
  Done : Answer
  Full : Answer
  Empty : Answer
  Item : Tree → Answer
  Count : ℕ → Answer
  -- why nothing is done with an interpreter: it is closed, runs, is the one that asks, or is the main one
  NotFound : Answer
  Running : Answer
  Current : Answer
  Main : Answer
  -- how the run ended
  Ended : Outcome → Answer
  Truth : Bool → Answer
  Ids : List ℕ → Answer
  Given : Job → Answer

-- the answers that an action may be given
abbrev pub fits : Answer → Action → Bool
fits Limit Create = true
fits (Created i) Create = true
fits Limit (CreateQueue m) = true
fits (QueueMade q) (CreateQueue m) = true
fits Done (Put q p) = true
fits Full (PutNow q p) = true
fits Done (PutNow q p) = true
fits (Item p) (Get q) = true
fits Empty (GetNow q) = true
fits (Item p) (GetNow q) = true
fits (Count n) (Size q) = true
fits NotFound (Prepare i bs) = true
fits Running (Prepare i bs) = true
fits Done (Prepare i bs) = true
fits NotFound (Start i text) = true
fits Running (Start i text) = true
fits (Started r) (Start i text) = true
fits (Ended o) (Await r) = true
fits NotFound (IsRunning i) = true
fits (Truth b) (IsRunning i) = true
fits NotFound (Close i) = true
fits Current (Close i) = true
fits Main (Close i) = true
fits Running (Close i) = true
fits Done (Close i) = true
fits (Ids is) ListAll = true
fits (Given j) Take = true
fits Done (End o) = true
fits _ _ = false
