-- What each part of a replay leaves.
use Rattle.std.specs.Prelude.{◌≡◌, ◌≢◌, ℕ, ◌<◌, List, ⊤, slice_get, Some}
use Rattle.si_plain.specs.Ranges.{Numbers}
use Rattle.si_semantics.specs.Value.{Text}
use Rattle.si_semantics.specs.Actions.{Action, Answer}
use Rattle.si_semantics.specs.History.{Call}
use Rattle.si_hub.specs.HubCode.{Past}
use Rattle.si_hub.specs.Hubs.{with_call, call}
use Rattle.si_interp.specs.Meaning.{InterpView}
use Rattle.si_world.specs.declared.mark.Mark.{Mark}
use Rattle.si_world.specs.declared.mark.Mark.TheVariants as marks
use Rattle.si_world.specs.Worlds.{WorldView, IsWorld, created, first_of}
use Rattle.si_world.specs.Marks.{CanMove, Turned, Ran, AtRest}
use Rattle.si_world.specs.Core.{Core, core_of, NoneStarved}
use Rattle.si_replay.specs.declared.fault.ReplayFault.{ReplayFault}
use Rattle.si_replay.specs.declared.fault.ReplayFault.TheVariants as faults
use Rattle.si_replay.specs.Replays.{callers, IsDisabled, IsNobody, IsSpent, IsEnabled}

-- the past of a script under limits, with these calls
abbrev pub past_with : Text → Numbers → List Call → Past
past_with script limits journal = record { script = script; limits = limits; journal = journal }

-- some list of turns leads from one world to another
pub record Leads (old new : WorldView) : Type 0 where
  pub turns : List ℕ
  pub marks : List Mark
  pub ran : Ran old turns marks new

-- some local turns of interpreter i: no call was made, and memory was refused to none
pub record Steps (old : WorldView) (i : ℕ) (new : WorldView) : Type 0 where
  pub past : new.past ≡ old.past
  pub fed : NoneStarved old → NoneStarved new
  pub leads : Leads old new
  pub others : (k : ℕ) → k ≢ i → slice_get new.interps k ≡ slice_get old.interps k

-- and a last turn, marked otherwise. What every world keeps true is known of the world before it where memory was refused in none
-- of them
pub record Stretched (old : WorldView) (i : ℕ) (m : Mark) (new : WorldView) : Type 0 where
  pub before : WorldView
  pub is : m ≢ marks.Starved → IsWorld before
  pub steps : Steps old i before
  pub last : Turned before i m new
  pub other : m ≢ marks.Local

-- one call of interpreter i
pub record Entered (old : WorldView) (i : ℕ) (new : WorldView) : Type 0 where
  pub action : Action
  pub answer : Answer
  pub past : new.past ≡ with_call (call i action answer) old.past
  pub fed : NoneStarved new
  pub leads : Leads old new

-- a world of this past in which interpreter i stands so
pub record Stops (p : Past) (i : ℕ) (why : Core → ℕ → Type 0) : Type 0 where
  pub before : WorldView
  pub is : IsWorld before
  pub past : before.past ≡ p
  pub because : why (core_of before) i

-- why the call of entry k, of interpreter i, could not be made after this past
abbrev pub IsEntryFault : Past → (i k : ℕ) → ReplayFault → Type 0
IsEntryFault p i k (faults.NotEnabled n) = (n ≡ k) × Stops p i IsDisabled
IsEntryFault p i k (faults.Nobody n) = (n ≡ k) × Stops p i IsNobody
IsEntryFault p i k (faults.Spent n) = (n ≡ k) × Stops p i IsSpent
IsEntryFault p i k faults.Starved = ⊤
IsEntryFault p i k _ = ⊥

-- interpreter i was brought to where it can't move, if it was created
pub record Settled (old : WorldView) (i : ℕ) (new : WorldView) : Type 0 where
  pub steps : Steps old i new
  pub still : i < created new.past → (v : InterpView) → slice_get new.interps i ≡ Some v → CanMove new.past i v → ⊥

-- so was each
pub record Rested (old new : WorldView) : Type 0 where
  pub past : new.past ≡ old.past
  pub fed : NoneStarved new
  pub leads : Leads old new
  pub rest : AtRest new

-- why none of them was
abbrev pub IsTailFault : Past → ReplayFault → Type 0
IsTailFault p faults.Starved = ⊤
IsTailFault p faults.Unfinished = (i : ℕ) × Stops p i IsEnabled
IsTailFault p _ = ⊥

-- the calls of these entries were made
pub record Walked (old : WorldView) (entries : List ℕ) (new : WorldView) : Type 0 where
  pub script : new.past.script ≡ old.past.script
  pub limits : new.past.limits ≡ old.past.limits
  pub calls : callers new.past.journal ≡ entries
  pub fed : NoneStarved new
  pub leads : Leads old new

-- a world that a replay of these entries leaves
pub record IsLeft (script : Text) (limits : Numbers) (entries : List ℕ) (w : WorldView) : Type 0 where
  pub script_is : w.past.script ≡ script
  pub limits_are : w.past.limits ≡ limits
  pub calls : callers w.past.journal ≡ entries
  pub fed : NoneStarved w
  pub leads : Leads (first_of script limits) w
  pub rest : AtRest w
