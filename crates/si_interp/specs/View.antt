-- What the calls of an interpreter make of it (this project's own).
use Rattle.std.specs.Prelude.{◌≡◌, ◌≢◌, ℕ, zero, suc, ◌+◌, ◌<◌, ◌≤◌, List, [], ◌∷◌, ◌++◌, Bool, true, false, Option, Some, None}
use Rattle.si_semantics.specs.Value.{Text}
use Rattle.si_semantics.specs.Actions.{Action, Answer, fits}
use Rattle.si_interp.specs.declared.interp.Step.{Step}
use Rattle.si_interp.specs.declared.interp.Step.TheVariants as steps
use Rattle.si_interp.specs.declared.interp.State.{State}
use Rattle.si_interp.specs.declared.interp.State.TheVariants as states
use Rattle.si_interp.specs.Meaning.{Logged, Stand, Ready, At, Gone, Starved, InterpView}

-- a view, by its parts
abbrev pub view_of : (id : ℕ) → (printed : Text) → List Logged → (locals : ℕ) → Stand → (taken : Bool) → InterpView
view_of id printed log locals s taken = record { id = id; printed = printed; log = log; locals = locals; stand = s; taken = taken }

-- the action at which it stands
abbrev pub action_at : Stand → Option Action
action_at (At a) = Some a
action_at _ = None

-- it stands at an action that may be given this answer
abbrev pub FitsStand : Answer → Stand → Type 0
FitsStand r (At a) = fits r a ≡ true
FitsStand r _ = ⊥

-- the action at which it stood was answered: that is the last of the log now, and nothing else has changed but how it
-- stands
pub record Answers (old : InterpView) (r : Answer) (new : InterpView) : Type 0 where
  pub log : (a : Action) → old.stand ≡ At a → new.log ≡ old.log ++ record { action = a; answer = r; at = old.locals } ∷ []
  pub id : new.id ≡ old.id
  pub printed : new.printed ≡ old.printed
  pub locals : new.locals ≡ old.locals
  pub taken : new.taken ≡ false

-- one line was run: it counts, and the interpreter doesn't stand still for good
pub record Counts (old : InterpView) (new : InterpView) : Type 0 where
  pub id : new.id ≡ old.id
  pub log : new.log ≡ old.log
  pub locals : new.locals ≡ old.locals + 1
  pub fed : new.stand ≢ Starved
  pub taken : new.taken ≡ false

-- it stands still for good, and nothing else has changed
abbrev pub starved_view : InterpView → InterpView
starved_view v = view_of v.id v.printed v.log v.locals Starved false

-- its action was handed out, or was not, and nothing else has changed
abbrev pub taken_view : InterpView → Bool → InterpView
taken_view v b = view_of v.id v.printed v.log v.locals v.stand b

-- what a step says, by how the interpreter then stands
abbrev pub step_at : Stand → Step
step_at Ready = steps.Local
step_at (At a) = steps.Asks
step_at Gone = steps.Gone
step_at Starved = steps.Starved

-- a step from where there was a line to run; none of them leads to where it is gone
abbrev pub Stepped : InterpView → Step → InterpView → Type 0
Stepped old steps.Local new = Counts old new
Stepped old steps.Asks new = Counts old new
Stepped old steps.Gone new = ⊥
Stepped old steps.Starved new = new ≡ starved_view old

-- so many lines were run, one after the other, each from where there was one to run
abbrev pub HasRun : ℕ → InterpView → InterpView → Type 0
HasRun zero v w = w ≡ v
HasRun (suc n) v w = (u : InterpView) × HasRun n v u × (u.stand ≡ Ready) × Counts u w

-- n turns one after the other, from where there was a line to run, of at most so many, by what the last of them did: all were
-- lines, and there is another; or the last line has led to an action; or the last turn, after k lines, was refused memory. None
-- of them leads to where it is gone
abbrev pub SteppedOn : InterpView → (most n : ℕ) → Step → InterpView → Type 0
SteppedOn old most n steps.Local new = (n ≡ most) × HasRun n old new × (new.stand ≡ Ready)
SteppedOn old most n steps.Asks new = (0 < n) × (n ≤ most) × HasRun n old new × (steps.Asks ≡ step_at new.stand)
SteppedOn old most n steps.Gone new = ⊥
SteppedOn old most n steps.Starved new = (n ≤ most) × (k : ℕ) × (u : InterpView) × (n ≡ k + 1) × HasRun k old u × (u.stand ≡ Ready) × (new ≡ starved_view u)

abbrev pub state_at : Stand → State
state_at Ready = states.Ready
state_at (At a) = states.AtAction
state_at Gone = states.Gone
state_at Starved = states.Starved
