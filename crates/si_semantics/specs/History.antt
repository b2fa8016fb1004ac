-- Histories: calls of shared actions, and the state that they leave (this project's own).
use Rattle.std.specs.Prelude.{◌≡◌, ℕ, List, [], ◌∷◌, Option, Some, None}
use Rattle.si_semantics.specs.Actions.{Action, Answer}
use Rattle.si_semantics.specs.Shared.{State, Reply, NotNow, Replied, reply}

-- one shared action that was done: by which interpreter, and what it was answered
pub record Call : Type 0 where
  pub by : ℕ
  pub action : Action
  pub answer : Answer

-- the state that a reply leaves; what is not enabled changes nothing
abbrev pub next_state : Reply → State → State
next_state NotNow s = s
next_state (Replied r t) s = t

-- the answer in a reply
abbrev pub answer_in : Reply → Option Answer
answer_in NotNow = None
answer_in (Replied r t) = Some r

-- the state after an action of interpreter i, where there may be w interpreters
abbrev pub state_then : ℕ → State → ℕ → Action → State
state_then w s i a = next_state (reply w s i a) s

-- the state after these calls, where there may be w interpreters
unfoldable pub state_after : ℕ → State → List Call → State
state_after w s [] = s
state_after w s (c ∷ cs) = state_after w (state_then w s c.by c.action) cs

-- each of these calls was enabled at its point, and was replied its answer
unfoldable pub Told : ℕ → State → List Call → Type 0
Told w s [] = Unit {0}
Told w s (c ∷ cs) = (reply w s c.by c.action ≡ Replied c.answer (state_then w s c.by c.action)) × Told w (state_then w s c.by c.action) cs
