-- Replays: what one leaves, and when it fails (this project's own).
--
-- A schedule says how many interpreters there may be, and whose shared actions are taken in which order. It says nothing
-- of the turns between them: these have no choice, since the lines that an interpreter runs before its next action follow
-- from the answers that it had. All is said by lists of turns, and by the cores to which they lead.
use Rattle.std.specs.Prelude.{◌≡◌, ℕ, ◌+◌, ◌<◌, ◌≤◌, List, ◌∷◌, ◌++◌, length, map, true, false, ⊤, ◌⊎◌, slice_get, slice_index, Some}
use Rattle.si_plain.specs.Ranges.{Numbers}
use Rattle.si_semantics.specs.Value.{Text}
use Rattle.si_semantics.specs.Actions.{Action}
use Rattle.si_semantics.specs.History.{Call}
use Rattle.si_hub.specs.Hubs.{can_act}
use Rattle.si_schedule.specs.Schedules.{Schedule}
use Rattle.si_interp.specs.Meaning.{InterpView, Ready, At, Gone}
use Rattle.si_world.specs.declared.mark.Mark.{Mark}
use Rattle.si_world.specs.Legal.{calls_of, exchanges}
use Rattle.si_world.specs.Worlds.{WorldView, created, first_of}
use Rattle.si_world.specs.Marks.{Ran, AtRest}
use Rattle.si_world.specs.Core.{Core, core_run, core_of, core_stand, core_text, NoneStarved}
use Rattle.si_world.specs.Reports.{recorded}
use Rattle.si_replay.specs.declared.fault.ReplayFault.{ReplayFault}
use Rattle.si_replay.specs.declared.fault.ReplayFault.TheVariants as faults

-- who made these calls, in order
abbrev pub callers : List Call → List ℕ
callers cs = map (λ (c : Call). c.by) cs

-- the schedule of a world: how many interpreters its limits allow, and who made its calls
abbrev pub schedule_in : WorldView → Schedule
schedule_in w = record { interpreters = w.past.limits.interpreters; callers = callers w.past.journal }

-- the limits under which a schedule is replayed: there may be as many interpreters as it says
abbrev pub limits_for : Numbers → Schedule → Numbers
limits_for limits s = record { interpreters = s.interpreters; turns = limits.turns }

-- ---- where turns lead, if memory is never refused

-- the core of a script under these limits, after the turns of a list
abbrev pub core_after : Text → Numbers → List ℕ → Core
core_after script limits turns = (core_run (core_of (first_of script limits)) turns).1

abbrev pub IsCreated : Core → ℕ → Type 0
IsCreated c i = i < created c.past

-- a turn can move interpreter i: it has a line to run and turns left, or its action is enabled
abbrev pub CoreCanMove : Core → ℕ → Type 0
CoreCanMove c i = ((core_stand c i ≡ Ready) × (slice_index c.locals i < c.past.limits.turns)) ⊎ ((a : Action) × (core_stand c i ≡ At a) × (can_act c.past i a ≡ true))

-- no interpreter that was created can move
abbrev pub CoreAtRest : Core → Type 0
CoreAtRest c = (i : ℕ) → IsCreated c i → CoreCanMove c i → ⊥

-- some list of turns leads to this core, and its calls were made by these interpreters, in this order
pub record Reached (script : Text) (limits : Numbers) (by : List ℕ) (c : Core) : Type 0 where
  pub turns : List ℕ
  pub leads : core_after script limits turns ≡ c
  pub calls : callers c.past.journal ≡ by

-- these turns complete the entries of a schedule: the calls were made by just these, in their order, and then no
-- interpreter can move
pub record Completes (script : Text) (limits : Numbers) (entries turns : List ℕ) : Type 0 where
  pub calls : callers (core_after script limits turns).past.journal ≡ entries
  pub rest : CoreAtRest (core_after script limits turns)

-- ---- what a replay leaves

-- a recording of a world to which some turns lead from the first one of the script: its calls were made by the entries, in
-- their order, memory was refused to no interpreter, and no interpreter can move
pub record IsReplayed (script : Text) (limits : Numbers) (entries : List ℕ) (r : WorldView) : Type 0 where
  pub left : WorldView
  pub turns : List ℕ
  pub marks : List Mark
  pub ran : Ran (first_of script limits) turns marks left
  pub calls : callers left.past.journal ≡ entries
  pub fed : NoneStarved left
  pub rest : AtRest left
  pub seen : r ≡ recorded left

-- what is recorded of interpreter i is what this core has of it
pub record IsInCore (c : Core) (i : ℕ) (v : InterpView) : Type 0 where
  pub id : v.id ≡ i
  pub log : exchanges v.log ≡ calls_of i c.past.journal
  pub locals : v.locals ≡ slice_index c.locals i
  pub printed : v.printed ≡ core_text c i
  pub stand : v.stand ≡ core_stand c i

-- a recording of just this core: its calls with their answers, and each interpreter that was created
pub record IsOfTurns (c : Core) (r : WorldView) : Type 0 where
  pub past : r.past ≡ c.past
  pub count : length r.interps ≡ created c.past
  pub each : (i : ℕ) (v : InterpView) → slice_get r.interps i ≡ Some v → IsInCore c i v

-- ---- why there is none

-- entry k, from 1, is interpreter i, and these are the entries before it
pub record IsEntry (entries before : List ℕ) (k i : ℕ) : Type 0 where
  pub rest : List ℕ
  pub split : entries ≡ before ++ i ∷ rest
  pub number : k ≡ length before + 1

-- after the calls of the entries before entry k, its interpreter stands so
pub record StopsAt (script : Text) (limits : Numbers) (entries : List ℕ) (k : ℕ) (why : Core → ℕ → Type 0) : Type 0 where
  pub core : Core
  pub caller : ℕ
  pub before : List ℕ
  pub entry : IsEntry entries before k caller
  pub reached : Reached script limits before core
  pub because : why core caller

-- it stands at an action that is not enabled
abbrev pub IsDisabled : Core → ℕ → Type 0
IsDisabled c i = IsCreated c i × ((a : Action) × (core_stand c i ≡ At a) × (can_act c.past i a ≡ false))

-- it was not created, or is gone
abbrev pub IsNobody : Core → ℕ → Type 0
IsNobody c i = (created c.past ≤ i) ⊎ (core_stand c i ≡ Gone)

-- it has a line to run, and no turn left for it
abbrev pub IsSpent : Core → ℕ → Type 0
IsSpent c i = IsCreated c i × (core_stand c i ≡ Ready) × (c.past.limits.turns ≤ slice_index c.locals i)

-- it stands at an action that is enabled
abbrev pub IsEnabled : Core → ℕ → Type 0
IsEnabled c i = IsCreated c i × ((a : Action) × (core_stand c i ≡ At a) × (can_act c.past i a ≡ true))

-- after the calls of all entries, some interpreter stands at an action that is enabled
pub record IsUnfinished (script : Text) (limits : Numbers) (entries : List ℕ) : Type 0 where
  pub core : Core
  pub caller : ℕ
  pub reached : Reached script limits entries core
  pub enabled : IsEnabled core caller

-- when each fault comes. Of the two that come where memory was refused, nothing is said.
abbrev pub IsFault : Text → Numbers → List ℕ → ReplayFault → Type 0
IsFault script limits entries (faults.NotEnabled k) = StopsAt script limits entries k IsDisabled
IsFault script limits entries (faults.Nobody k) = StopsAt script limits entries k IsNobody
IsFault script limits entries (faults.Spent k) = StopsAt script limits entries k IsSpent
IsFault script limits entries faults.Starved = ⊤
IsFault script limits entries faults.Unfinished = IsUnfinished script limits entries
IsFault script limits entries faults.NoMemory = ⊤

-- a fault that comes only where memory was refused
abbrev pub IsWantOfMemory : ReplayFault → Type 0
IsWantOfMemory faults.Starved = ⊤
IsWantOfMemory faults.NoMemory = ⊤
IsWantOfMemory _ = ⊥
