-- What a host finds of a plug-in (this example's own).
use Rattle.std.specs.Prelude.{◌≡◌, ◌≢◌, ◌<◌, ℕ, List, [], ◌∷◌, Bool, true, false, Option, Some, None, Result, Ok, Err, slice_get}
use Rattle.si_plain.specs.Ranges.{Numbers}
use Rattle.si_plain.specs.declared.kind.Kind.{Kind}
use Rattle.si_semantics.specs.Value.{Text}
use Rattle.si_semantics.specs.Life as life
use Rattle.si_semantics.specs.Actions as actions
use Rattle.si_interp.specs.Meaning.{InterpView, Logged}
use Rattle.si_interp.specs.Globals.{globals_of, shown_of}
use Rattle.si_world.specs.Worlds.{WorldView, IsWorld, first_of}
use Rattle.si_world.specs.Legal.{Legal}
use Rattle.si_world.specs.Marks.{AtRest}
use Rattle.si_world.specs.Rounds.{Serves}
use Rattle.si_world.specs.Reports.{end_of, members}
use Rattle.si_world.specs.declared.ending.End.{End}
use Rattle.si_world.specs.declared.ending.End.TheVariants as end
use Rattle.host_example.specs.declared.finding.Finding.{Finding}
use Rattle.host_example.specs.declared.finding.Finding.TheVariants as finding

-- an action that ends a run says how; after any other it is said later, if at all
abbrev pub ended_by : actions.Action → (later : Option life.Outcome) → Option life.Outcome
ended_by (actions.End o) later = Some o
ended_by _ later = later

-- how the first run of an interpreter ended, by its log, if it did
abbrev pub first_end : List Logged → Option life.Outcome
first_end [] = None
first_end (l ∷ ls) = ended_by l.action (first_end ls)

-- an exception left that run
abbrev pub is_raised : Option life.Outcome → Bool
is_raised (Some (life.Raised k message)) = true
is_raised _ = false

-- no exception left the first run of an interpreter, and this is what a global of it denotes
pub record Leaves (v : InterpView) (global : Text) (shown : Option (Result Text Kind)) : Type 0 where
  pub returned : is_raised (first_end v.log) ≡ false
  pub denotes : shown_of (globals_of v) global ≡ shown

-- what a finding says of an interpreter whose plug-in is over
abbrev pub Tells : InterpView → (global : Text) → Finding → Type 0
Tells v global (finding.Shown t) = Leaves v global (Some (Ok t))
Tells v global finding.Unbound = Leaves v global None
Tells v global (finding.NotShown k) = Leaves v global (Some (Err k))
Tells v global (finding.Raised k message) = first_end v.log ≡ Some (life.Raised k message)
Tells v global (finding.Unfinished e) = ⊥

-- how a world ends, of what stands there now
abbrev pub end_at : WorldView → End
end_at w = end_of w.past (members w)

-- what a finding says of a world: that it ended otherwise, or is over, and what interpreter 0 left
abbrev pub Says : WorldView → (global : Text) → Finding → Type 0
Says w global (finding.Unfinished e) = (end_at w ≡ e) × (e ≢ end.Finished)
Says w global f = (end_at w ≡ end.Finished) × (v : InterpView) × (slice_get w.interps 0 ≡ Some v) × Tells v global f

-- a finding speaks of a world of the script, to which some turns lead, and in which nothing can be moved any more (unless so many
-- turns were given as 64 bits can count). Its journal is a legal history of the script's meaning, and each of its interpreters
-- shows its meaning under the answers that this history gave it.
pub record Finds (script : Text) (limits : Numbers) (global : Text) (f : Finding) : Type 0 where
  pub turns : ℕ
  pub left : WorldView
  pub served : Serves (first_of script limits) turns left
  pub rest : turns < 18446744073709551615 → AtRest left
  pub legal : Legal left.past
  pub shows : IsWorld left
  pub says : Says left global f
