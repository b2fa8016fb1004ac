-- What it means to carry out a command (this project's own).
use Rattle.std.specs.Prelude.{◌≡◌, ◌≢◌, ◌⊎◌, ◌<◌, ℕ, Bool, true, false, List, [], ◌∷◌, IfSome, IsUtf8, Option, bytes_eq, codes, drop, encode_utf8_all, if◌then◌else◌, is_some, length, take}
use Rattle.std.specs.Io.KnownBytes.{Appends, Keeps}
use Rattle.si_plain.specs.Characters.{characters_of}
use Rattle.si_plain.specs.Ranges.{Numbers}
use Rattle.si_semantics.specs.Tree.{Stmts}
use Rattle.si_reading.specs.Taken.{IsTaken}
use Rattle.si_schedule.specs.Schedules.{Schedule, IsSchedule, text_of}
use Rattle.si_schedule.specs.BadLines.{IsBadLine}
use Rattle.si_history.specs.History.{history}
use Rattle.si_world.specs.Worlds.{WorldView}
use Rattle.si_world.specs.Reports.{recorded}
use Rattle.si_replay.specs.Replays.{schedule_in, limits_for, core_after, Completes, IsReplayed, IsOfTurns, IsFault, IsWantOfMemory}
use Rattle.si_workers.specs.Gathers.{IsGathered}
use Rattle.si_workers.specs.declared.fault.RunFault.TheVariants as run_faults
use Rattle.si_replay.specs.declared.fault.ReplayFault.{ReplayFault}
use Rattle.si_replay.specs.declared.fault.ReplayFault.TheVariants as replay_faults
use Rattle.si_cli.specs.declared.fault.CliFault.{CliFault}
use Rattle.si_cli.specs.declared.fault.CliFault.TheVariants.{Write, Script, Schedule as BadSchedule, Replay as NotFollowed, Run as NotRun, NoMemory, Input, TooLong}
use Rattle.si_cli.specs.declared.asked.Request.{Request}
use Rattle.si_cli.specs.declared.asked.Request.TheVariants.{Serial, Run, Check, Replay, History}
use Rattle.si_cli.specs.Report.{report_of, status_of}
use Rattle.si_cli.specs.Runs.{IsRunOf}

-- a byte order mark in UTF-8
abbrev pub mark : List ℕ
mark = 239 ∷ 187 ∷ 191 ∷ []

-- the bytes less one byte order mark at their front (Language Reference, 2.1.4)
abbrev pub without_mark : List ℕ → List ℕ
without_mark bytes = if bytes_eq (take 3 bytes) mark then drop 3 bytes else bytes

-- the bytes of a script are read as a tree: they are UTF-8, the tokens of their text derive it, and it is well scoped
abbrev pub IsScript : List ℕ → Stmts → Type 0
IsScript bytes body = IsUtf8 (without_mark bytes) × IsTaken (without_mark bytes) body

-- the fault of a script that is not read
abbrev pub IsRefusal : CliFault → Type 0
IsRefusal (Script line) = Unit {0}
IsRefusal _ = ⊥

-- a script is read as some tree
abbrev pub IsReadable : List ℕ → Type 0
IsReadable script = (body : Stmts) × IsScript script body

-- a world of a script that is read, within these limits, after all turns that `serial` gives
pub record HasRun (limits : Numbers) (script : List ℕ) (world : WorldView) : Type 0 where
  pub body : Stmts
  pub read : IsScript script body
  pub run : IsRunOf (characters_of (without_mark script)) limits world

-- a world is reported: the writer grew by its report, and the status is its
pub record IsReported (world : WorldView) (old new : Option (List ℕ)) (answer : ℕ) : Type 0 where
  pub report : Appends old new (encode_utf8_all (report_of (recorded world)))
  pub status_is : answer ≡ status_of (recorded world)

-- where it is asked for, a world's schedule is saved: the writer grew by its text
abbrev pub Saves : Bool → WorldView → Option (List ℕ) → Option (List ℕ) → Type 0
Saves true world old new = Appends old new (text_of (schedule_in world))
Saves false world old new = Keeps old new

-- the run of a script that is read, within these limits, is reported, and its schedule saved where it is asked for
pub record Reports (limits : Numbers) (is_saved : Bool) (script : List ℕ) (old new saved_old saved_new : Option (List ℕ)) (answer : ℕ) : Type 0 where
  pub world : WorldView
  pub run : HasRun limits script world
  pub reported : IsReported world old new answer
  pub saved : Saves is_saved world saved_old saved_new

-- a script is told to be well formed: it is read, the writer grew by the line `ok` and by nothing else, and the status is 0
pub record SaysOk (script : List ℕ) (old new : Option (List ℕ)) (answer : ℕ) : Type 0 where
  pub body : Stmts
  pub read : IsScript script body
  pub told : Appends old new (codes "ok\n")
  pub status_is : answer ≡ 0

-- the bytes of a schedule are its text
abbrev pub IsPlan : List ℕ → Schedule → Type 0
IsPlan bytes plan = IsSchedule plan × (bytes ≡ text_of plan)

-- a recording of the run of a script that is read which has just the calls of a schedule, in their order, and after them no
-- interpreter can move; whatever turns complete the schedule, this is what they leave. There may be as many interpreters as
-- the schedule says
pub record IsRepeated (limits : Numbers) (script schedule : List ℕ) (recording : WorldView) : Type 0 where
  pub body : Stmts
  pub read : IsScript script body
  pub plan : Schedule
  pub is_plan : IsPlan schedule plan
  pub replayed : IsReplayed (characters_of (without_mark script)) (limits_for limits plan) plan.callers recording
  pub only : (turns : List ℕ) → Completes (characters_of (without_mark script)) (limits_for limits plan) plan.callers turns
      → IsOfTurns (core_after (characters_of (without_mark script)) (limits_for limits plan) turns) recording

-- such a run is reported: the writer grew by its report, and the status is its
pub record ReportsAgain (limits : Numbers) (script schedule : List ℕ) (old new : Option (List ℕ)) (answer : ℕ) : Type 0 where
  pub recording : WorldView
  pub repeated : IsRepeated limits script schedule recording
  pub report : Appends old new (encode_utf8_all (report_of recording))
  pub status_is : answer ≡ status_of recording

-- its history is told: the writer grew by the lines of its calls, and the status is its
pub record TellsHistory (limits : Numbers) (script schedule : List ℕ) (old new : Option (List ℕ)) (answer : ℕ) : Type 0 where
  pub recording : WorldView
  pub repeated : IsRepeated limits script schedule recording
  pub lines : Appends old new (encode_utf8_all (history recording.past.journal))
  pub status_is : answer ≡ status_of recording

-- what is recorded of a run by worker threads of a script that is read, within these limits
pub record HasWorked (limits : Numbers) (script : List ℕ) (recording : WorldView) : Type 0 where
  pub body : Stmts
  pub read : IsScript script body
  pub gathered : IsGathered (characters_of (without_mark script)) limits recording

-- such a run is reported, and its schedule saved where it is asked for
pub record ReportsWorked (limits : Numbers) (is_saved : Bool) (script : List ℕ) (old new saved_old saved_new : Option (List ℕ)) (answer : ℕ) : Type 0 where
  pub recording : WorldView
  pub worked : HasWorked limits script recording
  pub report : Appends old new (encode_utf8_all (report_of recording))
  pub status_is : answer ≡ status_of recording
  pub saved : Saves is_saved recording saved_old saved_new

-- a request is that of `run`, which is carried out by worker threads, and no other is
abbrev pub IsOfThreads : Request → Type 0
IsOfThreads (Run path limits at) = Unit {0}
IsOfThreads _ = ⊥

-- a request of `run` is carried out: the run of the script by worker threads is reported, and its schedule saved where a path
-- for it is named
abbrev pub Works : Request → (script : List ℕ) → (old new saved_old saved_new : Option (List ℕ)) → ℕ → Type 0
Works (Run path limits at) script old new saved_old saved_new answer = ReportsWorked limits (is_some at) script old new saved_old saved_new answer
Works _ script old new saved_old saved_new answer = ⊥

-- a request is carried out: `serial` reports the run of the script, and saves its schedule where a path for it is named;
-- `check` tells that it is well formed, and runs nothing of it; `replay` reports the run that has the schedule, and `history`
-- tells its history. These three save nothing. `run` is carried out by worker threads (`Works`)
abbrev pub Answers : Request → (script schedule : List ℕ) → (old new saved_old saved_new : Option (List ℕ)) → ℕ → Type 0
Answers (Serial path limits at) script schedule old new saved_old saved_new answer = Reports limits (is_some at) script old new saved_old saved_new answer
Answers (Run path limits at) script schedule old new saved_old saved_new answer = ⊥
Answers (Check path) script schedule old new saved_old saved_new answer = SaysOk script old new answer × Keeps saved_old saved_new
Answers (Replay path plan limits) script schedule old new saved_old saved_new answer = ReportsAgain limits script schedule old new answer × Keeps saved_old saved_new
Answers (History path plan limits) script schedule old new saved_old saved_new answer = TellsHistory limits script schedule old new answer × Keeps saved_old saved_new

-- ---- faults

-- a fault of reading the script
abbrev pub IsOfScript : CliFault → Type 0
IsOfScript (Script line) = Unit {0}
IsOfScript NoMemory = Unit {0}
IsOfScript _ = ⊥

-- a fault of reading at most so many bytes of what a reader had left: only of more is it told that they are too many
abbrev pub IsOfInput : (limit : ℕ) → (left : Option (List ℕ)) → CliFault → Type 0
IsOfInput limit left Input = Unit {0}
IsOfInput limit left TooLong = IfSome left (λ bytes. limit < length bytes)
IsOfInput limit left NoMemory = Unit {0}
IsOfInput limit left _ = ⊥

-- a fault of running a script and reporting it
abbrev pub IsOfRun : CliFault → Type 0
IsOfRun (Script line) = Unit {0}
IsOfRun NoMemory = Unit {0}
IsOfRun Write = Unit {0}
IsOfRun _ = ⊥

-- bytes are no schedule's: they are not UTF-8, which counts as their first line, or this is their first bad line
abbrev pub IsBadSchedule : List ℕ → ℕ → Type 0
IsBadSchedule bytes line = ((¬ IsUtf8 bytes) × (line ≡ 1)) ⊎ IsBadLine bytes line

-- a fault of reading a schedule
abbrev pub IsOfSchedule : List ℕ → CliFault → Type 0
IsOfSchedule bytes (BadSchedule line) = IsBadSchedule bytes line
IsOfSchedule bytes NoMemory = Unit {0}
IsOfSchedule bytes _ = ⊥

-- the schedule can't be followed, for this fault; where some turns complete it, memory was refused. Where that was for the world
-- or its recording, the fault is NoMemory, and not this one
pub record IsNotFollowed (limits : Numbers) (script schedule : List ℕ) (fault : ReplayFault) : Type 0 where
  pub plan : Schedule
  pub is_plan : IsPlan schedule plan
  pub fault_is : IsFault (characters_of (without_mark script)) (limits_for limits plan) plan.callers fault
  pub memory : (turns : List ℕ) → Completes (characters_of (without_mark script)) (limits_for limits plan) plan.callers turns
      → IsWantOfMemory fault
  pub other : fault ≢ replay_faults.NoMemory

-- why a run is not made again: of a schedule that is none this is a bad line, and one that can't be followed is not followed
abbrev pub IsNotRepeated : Numbers → (script schedule : List ℕ) → CliFault → Type 0
IsNotRepeated limits script schedule (BadSchedule line) = IsBadSchedule schedule line
IsNotRepeated limits script schedule (NotFollowed fault) = IsNotFollowed limits script schedule fault
IsNotRepeated limits script schedule Input = ⊥
IsNotRepeated limits script schedule TooLong = ⊥
IsNotRepeated limits script schedule (NotRun fault) = ⊥
IsNotRepeated limits script schedule _ = Unit {0}

-- of schedules only the two commands tell a fault that read one
abbrev pub IsOfPlan : Request → (script schedule : List ℕ) → CliFault → Type 0
IsOfPlan (Serial path limits at) script schedule fault = IsOfRun fault
IsOfPlan (Run path limits at) script schedule fault = ⊥
IsOfPlan (Check path) script schedule fault = IsOfRun fault
IsOfPlan (Replay path plan limits) script schedule fault = IsNotRepeated limits script schedule fault
IsOfPlan (History path plan limits) script schedule fault = IsNotRepeated limits script schedule fault

-- a fault that leaves the writer as it was, unless it is that of a write
abbrev pub LeavesAlone : Option (List ℕ) → Option (List ℕ) → CliFault → Type 0
LeavesAlone old new Write = Unit {0}
LeavesAlone old new (Script line) = Keeps old new
LeavesAlone old new (BadSchedule line) = Keeps old new
LeavesAlone old new (NotFollowed fault) = Keeps old new
LeavesAlone old new (NotRun fault) = Keeps old new
LeavesAlone old new NoMemory = Keeps old new
LeavesAlone old new Input = ⊥
LeavesAlone old new TooLong = ⊥

-- the schedule of a world that a run has left is saved
pub record IsSaved (script : List ℕ) (limits : Numbers) (old new : Option (List ℕ)) : Type 0 where
  pub world : WorldView
  pub run : HasRun limits script world
  pub saved : Appends old new (text_of (schedule_in world))

-- after a fault of a write the report is not begun, or the schedule is saved, where it is asked for; after another nothing is
-- saved, nor where it is not asked for
abbrev pub SavesFirst : Bool → List ℕ → Numbers → (old new saved_old saved_new : Option (List ℕ)) → CliFault → Type 0
SavesFirst true script limits old new saved_old saved_new Write = Keeps old new ⊎ IsSaved script limits saved_old saved_new
SavesFirst is_saved script limits old new saved_old saved_new fault = Keeps saved_old saved_new

abbrev pub LeavesSaved : Request → List ℕ → (old new saved_old saved_new : Option (List ℕ)) → CliFault → Type 0
LeavesSaved (Serial path limits at) script old new saved_old saved_new fault = SavesFirst (is_some at) script limits old new saved_old saved_new fault
LeavesSaved request script old new saved_old saved_new fault = Keeps saved_old saved_new

-- a fault of a run by worker threads, and of reporting it; where memory was refused, that is told as `NoMemory`
abbrev pub IsOfWork : CliFault → Type 0
IsOfWork (Script line) = Unit {0}
IsOfWork (NotRun run_faults.NoMemory) = ⊥
IsOfWork (NotRun fault) = Unit {0}
IsOfWork NoMemory = Unit {0}
IsOfWork Write = Unit {0}
IsOfWork _ = ⊥

-- the schedule of a run by worker threads is saved
pub record IsWorkSaved (script : List ℕ) (limits : Numbers) (old new : Option (List ℕ)) : Type 0 where
  pub recording : WorldView
  pub worked : HasWorked limits script recording
  pub saved : Appends old new (text_of (schedule_in recording))

-- after a fault of a write the report is not begun, or the schedule is saved, where it is asked for; after another nothing is
-- saved, nor where it is not asked for
abbrev pub SavesWork : Bool → List ℕ → Numbers → (old new saved_old saved_new : Option (List ℕ)) → CliFault → Type 0
SavesWork true script limits old new saved_old saved_new Write = Keeps old new ⊎ IsWorkSaved script limits saved_old saved_new
SavesWork is_saved script limits old new saved_old saved_new fault = Keeps saved_old saved_new

abbrev pub LeavesWork : Request → List ℕ → (old new saved_old saved_new : Option (List ℕ)) → CliFault → Type 0
LeavesWork (Run path limits at) script old new saved_old saved_new fault = SavesWork (is_some at) script limits old new saved_old saved_new fault
LeavesWork request script old new saved_old saved_new fault = Keeps saved_old saved_new
