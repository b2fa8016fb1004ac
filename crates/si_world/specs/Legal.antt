-- Legal histories: what was asked of what interpreters share is what their lives ask (this project's own).
use Rattle.std.specs.Prelude.{◌≡◌, ℕ, List, [], ◌∷◌, ◌++◌, map, Bool, true, false, ◌==◌, ⊤}
use Rattle.si_semantics.specs.Actions.{Action, Answer}
use Rattle.si_semantics.specs.History.{Call}
use Rattle.si_hub.specs.HubCode.{Past}
use Rattle.si_hub.specs.Hubs.{IsTold}
use Rattle.si_interp.specs.Life.{Asks, life}
use Rattle.si_interp.specs.Meaning.{Logged}

-- an action and its answer
pub record Exchange : Type 0 where
  pub action : Action
  pub answer : Answer

abbrev pub exchange : Action → Answer → Exchange
exchange a r = record { action = a; answer = r }

-- one more in front, if it is chosen
abbrev pub chosen : {A : Type 0} → Bool → A → List A → List A
chosen true x xs = x ∷ xs
chosen false x xs = xs

-- the calls of interpreter i, in order
abbrev pub calls_of : ℕ → List Call → List Exchange
calls_of i [] = []
calls_of i (c ∷ cs) = chosen (c.by == i) (exchange c.action c.answer) (calls_of i cs)

-- what they were answered
abbrev pub answers_to : ℕ → List Call → List Answer
answers_to i cs = map (λ (e : Exchange). e.answer) (calls_of i cs)

-- the calls of an interpreter's log
abbrev pub exchanges : List Logged → List Exchange
exchanges log = map (λ (l : Logged). exchange l.action l.answer) log

-- for some number of turns that each loop is given, the life of i asks this action under these answers
abbrev pub AsksSome : ℕ → List Answer → Action → Type 0
AsksSome i answers a = (n : ℕ) × ((life i n answers).fate ≡ Asks a)

-- each call's action is what the life of its caller asks under the answers that this caller had before
abbrev pub AskedIn : (done : List Call) → List Call → Type 0
AskedIn done [] = ⊤
AskedIn done (c ∷ cs) = AsksSome c.by (answers_to c.by done) c.action × AskedIn (done ++ c ∷ []) cs

-- a legal history: each call in turn is asked by the life of its caller, is enabled at its point, and has the answer of the
-- table of shared actions. So a history is determined by the script, the limits and the order of its callers.
pub record Legal (p : Past) : Type 0 where
  pub asked : AskedIn [] p.journal
  pub told : IsTold p
