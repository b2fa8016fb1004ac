-- What an interpreter keeps true.
use Rattle.std.specs.Prelude.{◌≡◌, ℕ, ◌<◌, List, [], Bool, true, false, Option, Some, None, MatchOption, encode_utf8_all, ⊤}
use Rattle.si_plain.specs.Characters.{characters_of}
use Rattle.si_semantics.specs.Value.{Text, Value}
use Rattle.si_semantics.specs.Tree.{Function}
use Rattle.si_semantics.specs.World.{World, bind_all}
use Rattle.si_semantics.specs.Life.{joined}
use Rattle.si_semantics.specs.Actions.{Action, Take, End}
use Rattle.si_slots.specs.Machine.{Course, Closed, start}
use Rattle.si_slots.specs.Correct.{Knows}
use Rattle.si_slots.specs.Shows.{texts}
use Rattle.si_slots.specs.Views.{table_of}
use Rattle.si_steps.specs.declared.state.State.{State as Machine}
use Rattle.si_steps.specs.declared.step.Step.{Step as Line}
use Rattle.si_steps.specs.declared.step.Step.TheVariants as line
use Rattle.si_steps.specs.Machines as machines
use Rattle.si_steps.specs.Machines.{Stands, IsRunning, Waits, HasEnded, printed_of}
use Rattle.si_steps.specs.Moments.{HasAction}
use Rattle.si_parcel.specs.Shared.{action_of, outcome_of}
use Rattle.si_parcel.specs.declared.action.Action.{Action as Shared}
use Rattle.si_parcel.specs.declared.action.Action.TheVariants as action
use Rattle.si_interp.specs.declared.arriving.Next.{Next}
use Rattle.si_interp.specs.declared.arriving.Next.TheVariants as next
use Rattle.si_interp.specs.declared.interp.State.{State}
use Rattle.si_interp.specs.declared.interp.State.TheVariants as states
use Rattle.si_interp.specs.Course.{go}
use Rattle.si_interp.specs.Meaning.{Logged, Stand, Ready, At, Gone, Starved, stand_of, ShowsMeaning}
use Rattle.si_interp.specs.inner.Track.{inputs, Track}

-- The moment of the course at which an interpreter of this number, log and lines is.
unfoldable pub moment_of : (id : ℕ) → List Logged → ℕ → Course
moment_of id log l = go l (start id (inputs log))

-- a machine has printed what a course has
abbrev pub Prints : Course → Machine → Type 0
Prints c m = printed_of m ≡ encode_utf8_all (joined (texts c.printed))

-- a machine runs at a moment of a course
pub record IsUnderWay (c : Course) (m : Machine) : Type 0 where
  pub stands : Stands c m
  pub running : IsRunning m

-- a course stands at an action, with no answer left, and a machine waits there between runs, with the course's code and world
pub record IsWaiting (c : Course) (a : Action) (m : Machine) : Type 0 where
  pub at : stand_of c.place ≡ At a
  pub answers : c.answers ≡ []
  pub waits : Waits c.world m
  pub table : table_of m.table ≡ c.table

-- a machine awaits the answer to the request at which a course stands
pub record IsAwaiting (c : Course) (m : Machine) : Type 0 where
  pub stands : Stands c m
  pub waiting : machines.IsWaiting m

-- a course stands at a request that this action makes, and a machine awaits the answer to it
pub record IsCalling (c : Course) (a : Action) (m : Machine) : Type 0 where
  pub at : stand_of c.place ≡ At a
  pub awaits : IsAwaiting c m

-- a course stands at an action, with no answer left, and its machine with it
abbrev pub StandsBy : Course → Action → Machine → Type 0
StandsBy c Take m = IsWaiting c Take m
StandsBy c (End o) m = IsWaiting c (End o) m
StandsBy c a m = IsCalling c a m

-- a course knows the functions that were read
abbrev pub KnowsSome : Course → Type 0
KnowsSome c = (functions : List Function) × Knows c.table functions

-- a world in which names are bound to values
abbrev pub with_values : List (Text × Value) → World → World
with_values bs w = record w { globals = bind_all bs w.globals }

-- where a course and its machine have come to
abbrev pub Leads : Course → Machine → Next → Type 0
Leads c m next.Runs = IsUnderWay c m
Leads c m next.Takes = IsWaiting c Take m
Leads c m (next.Asks action) = StandsBy c (action_of action) m
Leads c m (next.Ends outcome) = IsWaiting c (End (outcome_of outcome)) m
Leads c m next.Gone = c.place ≡ Closed

-- an action is kept twice, and there is room in a log for its answer
pub record IsKept (a : Shared) (s : State) (kept offered : Option Shared) (room : ℕ) : Type 0 where
  pub state : s ≡ states.AtAction
  pub kept_is : kept ≡ Some a
  pub offered_is : offered ≡ Some a
  pub has_room : 0 < room

-- how an interpreter stands that has come there
abbrev pub Arrived : Next → State → (kept offered : Option Shared) → (room : ℕ) → Type 0
Arrived next.Runs s kept offered room = s ≡ states.Ready
Arrived next.Takes s kept offered room = IsKept action.Take s kept offered room
Arrived (next.Asks a) s kept offered room = IsKept a s kept offered room
Arrived (next.Ends outcome) s kept offered room = IsKept (action.End outcome) s kept offered room
Arrived next.Gone s kept offered room = s ≡ states.Gone

-- a machine's run has ended as a course has, and it has the course's code
pub record IsEnded (c : Course) (m : Machine) : Type 0 where
  pub ended : HasEnded c m
  pub table : table_of m.table ≡ c.table

-- a machine has asked a request at which a course stands, whose action is there
pub record HasAsked (c : Course) (m : Machine) : Type 0 where
  pub awaits : IsAwaiting c m
  pub action : HasAction c.place m.action

-- where an answer has led a course and its machine
abbrev pub Led : Course → Machine → Line → Type 0
Led c m line.Local = IsUnderWay c m
Led c m line.Ended = IsEnded c m
Led c m line.Wants = HasAsked c m
Led c m line.Starved = ⊤

-- a line has led a machine to an action at which its course stands: to the end of a run, or to a request
abbrev pub Comes : Course → Machine → Line → Type 0
Comes c m line.Local = ⊥
Comes c m line.Ended = HasEnded c m
Comes c m line.Wants = HasAction c.place m.action
Comes c m line.Starved = ⊥

-- the action of a request is taken out of the machine, which else stays as it was
abbrev pub Leaves : Line → (old new : Machine) → Type 0
Leaves line.Wants old new = new ≡ record old { action = None }
Leaves _ old new = new ≡ old

-- a course has come to an action, and it is kept
pub record ComesSo (c : Course) (s : State) (kept offered : Option Shared) (room : ℕ) : Type 0 where
  pub action : Shared
  pub at : stand_of c.place ≡ At (action_of action)
  pub arrived : IsKept action s kept offered room

-- a standing, by what an interpreter has
abbrev pub stand_in : State → Option Shared → Stand
stand_in states.Ready kept = Ready
stand_in states.AtAction (Some a) = At (action_of a)
stand_in states.AtAction None = Starved
stand_in states.Gone kept = Gone
stand_in states.Starved kept = Starved

-- whether its action was handed out
abbrev pub taken_in : State → Option Shared → Bool
taken_in states.AtAction None = true
taken_in _ _ = false

-- an interpreter has a line to run
pub record IsGoing (id : ℕ) (log : List Logged) (l : ℕ) (c : Course) (m : Machine) : Type 0 where
  pub track : Track id log l c
  pub prints : Prints c m
  pub under : IsUnderWay c m

-- it stands at an action
pub record IsAsking (id : ℕ) (log : List Logged) (l : ℕ) (c : Course) (m : Machine) (a : Shared) (offered : Option Shared) (room : ℕ) : Type 0 where
  pub track : Track id log l c
  pub prints : Prints c m
  pub standing : StandsBy c (action_of a) m
  pub offer : MatchOption offered ⊤ (λ b. b ≡ a)
  pub has_room : 0 < room

-- what is known of its course and its machine
abbrev pub Goes : (id : ℕ) → List Logged → (l : ℕ) → Course → Machine → State → (kept offered : Option Shared) → (room : ℕ) → Type 0
Goes id log l c m states.Ready kept offered room = IsGoing id log l c m
Goes id log l c m states.AtAction (Some a) offered room = IsAsking id log l c m a offered room
Goes id log l c m states.AtAction None offered room = ⊥
Goes id log l c m states.Gone kept offered room = ⊤
Goes id log l c m states.Starved kept offered room = ⊤

-- it shows its meaning, and its machine is where its course is
pub record Keeps (id : ℕ) (m : Machine) (log : List Logged) (l room : ℕ) (s : State) (kept offered : Option Shared) : Type 0 where
  pub shows : ShowsMeaning id log (characters_of (printed_of m)) l (stand_in s kept)
  pub goes : Goes id log l (moment_of id log l) m s kept offered room
