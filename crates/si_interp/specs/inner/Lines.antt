-- What lines of a machine leave that were run one after the other.
use Rattle.std.specs.Prelude.{◌≡◌, ℕ, ◌+◌, ◌<◌, List, false}
use Rattle.si_plain.specs.Characters.{characters_of}
use Rattle.si_steps.specs.declared.state.State.{State as Machine}
use Rattle.si_steps.specs.declared.step.Step.{Step as Line}
use Rattle.si_steps.specs.declared.step.Step.TheVariants as line
use Rattle.si_steps.specs.Machines.{Steps, printed_of}
use Rattle.si_interp.specs.Meaning.{Logged, Ready, InterpView}
use Rattle.si_interp.specs.View.{view_of, HasRun}
use Rattle.si_interp.specs.inner.Keeps.{moment_of, IsGoing}

-- what is seen of an interpreter with this machine that has a line to run
abbrev pub ready_view : (id : ℕ) → List Logged → (l : ℕ) → Machine → InterpView
ready_view id log l m = view_of id (characters_of (printed_of m)) log l Ready false

-- n lines have gone on, and there is another to run
pub record GoneOn (id : ℕ) (log : List Logged) (l : ℕ) (old : Machine) (n : ℕ) (new : Machine) : Type 0 where
  pub going : IsGoing id log (l + n) (moment_of id log (l + n)) new
  pub ran : HasRun n (ready_view id log l old) (ready_view id log (l + n) new)

-- after n lines that have gone on, of at most so many, comes one that did this
pub record LastLine (id : ℕ) (log : List Logged) (l : ℕ) (old : Machine) (most n : ℕ) (r : Line) (new : Machine) : Type 0 where
  pub before : Machine
  pub gone : GoneOn id log l old n before
  pub few : n < most
  pub steps : Steps (moment_of id log (l + n)) before new r

-- where at most so many lines have led, n of which have gone on, by what the last did
abbrev pub LinesLed : (id : ℕ) → List Logged → (l : ℕ) → (old : Machine) → (most n : ℕ) → Line → (new : Machine) → Type 0
LinesLed id log l old most n line.Local new = (n ≡ most) × GoneOn id log l old n new
LinesLed id log l old most n line.Ended new = LastLine id log l old most n line.Ended new
LinesLed id log l old most n line.Wants new = LastLine id log l old most n line.Wants new
LinesLed id log l old most n line.Starved new = LastLine id log l old most n line.Starved new
