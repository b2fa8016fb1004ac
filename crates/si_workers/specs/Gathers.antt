-- What workers leave when all is over, and why there is no recording of it (this project's own).
use Rattle.std.specs.Prelude.{◌≡◌, ◌≢◌, ◌<◌, ◌⊎◌, ℕ, List, slice_get, Some, ⊤}
use Rattle.si_plain.specs.Ranges.{Numbers}
use Rattle.si_semantics.specs.Value.{Text}
use Rattle.si_hub.specs.HubCode.{Past}
use Rattle.si_interp.specs.Meaning.{InterpView}
use Rattle.si_world.specs.Legal.{Legal, calls_of, exchanges}
use Rattle.si_world.specs.Worlds.{WorldView, IsWorld, created}
use Rattle.si_world.specs.Marks.{CanMove, AtRest}
use Rattle.si_world.specs.Reports.{end_of, recorded}
use Rattle.si_world.specs.declared.ending.End.TheVariants as end
use Rattle.si_replay.specs.Replays.{callers, core_after, Completes, IsOfTurns}
use Rattle.si_replay.specs.Order.{order_of}
use Rattle.si_workers.specs.declared.fault.RunFault.{RunFault}
use Rattle.si_workers.specs.declared.fault.RunFault.TheVariants as fault

-- these turns leave what is recorded: the same calls, texts, standings and so the same queues. They complete the schedule of the
-- recording, so a replay of it leaves the same again, unless memory is wanting
pub record LeavesAgain (script : Text) (limits : Numbers) (turns : List ℕ) (r : WorldView) : Type 0 where
  pub same : IsOfTurns (core_after script limits turns) r
  pub completes : Completes script limits (callers r.past.journal) turns

-- what is recorded of a run of a script within these limits: of a world whose calls are a legal history, in which each interpreter
-- shows its meaning, under the answers that the journal gave it and no others, and can't be moved; where memory was refused to none,
-- one order of turns on one thread leaves the same
pub record IsGathered (script : Text) (limits : Numbers) (r : WorldView) : Type 0 where
  pub left : WorldView
  pub seen : r ≡ recorded left
  pub script_is : left.past.script ≡ script
  pub limits_are : left.past.limits ≡ limits
  pub world : IsWorld left
  pub legal : Legal left.past
  pub rest : AtRest left
  pub again : end_of r.past r.interps ≢ end.Starved → LeavesAgain script limits (order_of left) r

-- v, at place k of these reports, is that of interpreter i
pub record IsReport (worked : List InterpView) (i k : ℕ) (v : InterpView) : Type 0 where
  pub at : slice_get worked k ≡ Some v
  pub id : v.id ≡ i

-- a recording has the calls of this past, and each of its reports is one of these
pub record IsOfReports (p : Past) (worked : List InterpView) (r : WorldView) : Type 0 where
  pub past : r.past ≡ p
  pub each : (i : ℕ) (v : InterpView) → slice_get r.interps i ≡ Some v → (k : ℕ) × IsReport worked i k v

-- ---- faults

-- interpreter i has no report
abbrev pub IsMissing : List InterpView → ℕ → Type 0
IsMissing worked i = (k : ℕ) (v : InterpView) → IsReport worked i k v → ⊥

-- it has two
pub record IsDoubled (worked : List InterpView) (i : ℕ) : Type 0 where
  pub one : ℕ
  pub other : ℕ
  pub apart : one ≢ other
  pub first : InterpView
  pub second : InterpView
  pub there : IsReport worked i one first
  pub again : IsReport worked i other second

-- its report has other calls than the journal has of it
pub record Disagrees (p : Past) (worked : List InterpView) (i : ℕ) : Type 0 where
  pub place : ℕ
  pub seen : InterpView
  pub report : IsReport worked i place seen
  pub differs : calls_of i p.journal ≢ exchanges seen.log

-- it has more lines than there are turns
pub record IsPastItsTurns (p : Past) (worked : List InterpView) (i : ℕ) : Type 0 where
  pub place : ℕ
  pub seen : InterpView
  pub report : IsReport worked i place seen
  pub more : p.limits.turns < seen.locals

-- why what is left of interpreter i doesn't fit the journal
abbrev pub IsUnfit : Past → List InterpView → ℕ → Type 0
IsUnfit p worked i = IsMissing worked i ⊎ (IsDoubled worked i ⊎ (Disagrees p worked i ⊎ IsPastItsTurns p worked i))

-- the hub is of another script, or of other limits
abbrev pub IsStrange : Past → Text → Numbers → Type 0
IsStrange p script limits = (p.script ≢ script) ⊎ (p.limits ≢ limits)

-- some interpreter that was created can be moved
pub record IsOpen (p : Past) (worked : List InterpView) : Type 0 where
  pub who : ℕ
  pub place : ℕ
  pub seen : InterpView
  pub report : IsReport worked who place seen
  pub made : who < created p
  pub moves : CanMove p who seen

-- why the run is broken at i
abbrev pub IsBroken : Past → List InterpView → Text → Numbers → ℕ → Type 0
IsBroken p worked script limits i = ((i ≡ 0) × (IsStrange p script limits ⊎ IsOpen p worked)) ⊎ ((i < p.limits.interpreters) × IsUnfit p worked i)

-- when each fault comes of what is left. Where memory is refused, nothing more is said
abbrev pub IsRunFault : Past → List InterpView → Text → Numbers → RunFault → Type 0
IsRunFault p worked script limits fault.NoMemory = ⊤
IsRunFault p worked script limits fault.NoThread = ⊥
IsRunFault p worked script limits (fault.Broken i) = IsBroken p worked script limits i
