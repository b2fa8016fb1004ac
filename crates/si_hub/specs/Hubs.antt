-- What contracts say of a hub.
use Rattle.std.specs.Prelude.{◌≡◌, ℕ, [], ◌∷◌, ◌++◌, Bool, true, false}
use Rattle.si_semantics.specs.Actions.{Action, Size, IsRunning, Answer}
use Rattle.si_semantics.specs.Shared.{State, Reply, Replied, reply, is_enabled, first_state}
use Rattle.si_semantics.specs.History.{Call, state_after, Told}
use Rattle.si_hub.specs.HubCode.{Past}

-- the shared state that the calls of a past leave
abbrev pub state_of : Past → State
state_of p = state_after p.limits.interpreters (first_state p.script) p.journal

-- each call of a past was enabled at its point, and was replied its answer
abbrev pub IsTold : Past → Type 0
IsTold p = Told p.limits.interpreters (first_state p.script) p.journal

-- a state is what the calls of a past leave, and these are those of the table
pub record IsReplay (s : State) (p : Past) : Type 0 where
  pub now : s ≡ state_of p
  pub told : IsTold p

-- what is said to the action of interpreter i after this past
abbrev pub reply_at : Past → ℕ → Action → Reply
reply_at p i a = reply p.limits.interpreters (state_of p) i a

abbrev pub can_act : Past → ℕ → Action → Bool
can_act p i a = is_enabled (reply_at p i a)

abbrev pub call : ℕ → Action → Answer → Call
call i a r = record { by = i; action = a; answer = r }

-- a call more
abbrev pub with_call : Call → Past → Past
with_call c p = record { script = p.script; limits = p.limits; journal = p.journal ++ c ∷ [] }

-- the action of interpreter i was replied this answer, and the call is the last of the journal now
pub record Acts (old : Past) (i : ℕ) (a : Action) (r : Answer) (new : Past) : Type 0 where
  pub replied : reply_at old i a ≡ Replied r (state_of new)
  pub journal : new ≡ with_call (call i a r) old

-- an action that is done without memory, where the journal has room
abbrev pub takes_none : Action → Bool
takes_none (Size q) = true
takes_none (IsRunning j) = true
takes_none _ = false
