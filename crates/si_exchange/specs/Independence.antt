-- Which two calls of a history are independent, and what it is to exchange two neighbours of it (this project's own; the
-- actions on queues are those of PEP 734, "Queue Objects").
use Rattle.std.specs.Prelude.{◌≡◌, ◌≢◌, ◌==◌, ℕ, List, [], ◌∷◌, ◌++◌, Option, Some, None, ⊤, ◌⊎◌, if◌then◌else◌}
use Rattle.si_semantics.specs.Actions.{Action, Put, PutNow, Get, GetNow, Size}
use Rattle.si_semantics.specs.Shared.{State}
use Rattle.si_semantics.specs.History.{Call, state_after, Told}

-- the queue that an action is done on: Put, PutNow, Get, GetNow and Size have one
abbrev pub queue_of : Action → Option ℕ
queue_of (Put q p) = Some q
queue_of (PutNow q p) = Some q
queue_of (Get q) = Some q
queue_of (GetNow q) = Some q
queue_of (Size q) = Some q
queue_of _ = None

-- a question for the size of a queue
abbrev pub IsSize : Action → Type 0
IsSize (Size q) = ⊤
IsSize _ = ⊥

-- there are two queues, of different numbers
abbrev pub AreTwo : Option ℕ → Option ℕ → Type 0
AreTwo (Some q) (Some p) = q ≢ p
AreTwo _ _ = ⊥

-- two actions are apart: they are on different queues, or both ask for a size, of one queue or of two
abbrev pub AreApart : Action → Action → Type 0
AreApart a b = AreTwo (queue_of a) (queue_of b) ⊎ (IsSize a × IsSize b)

-- two calls are independent: different interpreters made them, and their actions are apart
pub record Independent (c d : Call) : Type 0 where
  pub callers : c.by ≢ d.by
  pub actions : AreApart c.action d.action

-- the calls of interpreter i among these, with their answers, in order
abbrev pub calls_of : ℕ → List Call → List Call
calls_of i [] = []
calls_of i (c ∷ calls) = if c.by == i then c ∷ calls_of i calls else calls_of i calls

-- others in place of these calls, from the state s on, where there may be w interpreters: each of them too was enabled at its
-- point and was replied its answer; they leave the same state; and each interpreter made the same calls in the same order,
-- with the same answers
pub record Exchanged (w : ℕ) (s : State) (calls others : List Call) : Type 0 where
  pub told : Told w s others
  pub state : state_after w s others ≡ state_after w s calls
  pub calls_of_each : (i : ℕ) → calls_of i others ≡ calls_of i calls

-- independent neighbours may be exchanged, wherever they stand in a history, and whatever state it begins in
abbrev pub MayExchange : Type 0
MayExchange =
    (w : ℕ) (s : State) (before after : List Call) (c d : Call)
    → Independent c d → Told w s (before ++ c ∷ (d ∷ after)) → Exchanged w s (before ++ c ∷ (d ∷ after)) (before ++ d ∷ (c ∷ after))
