-- All interpreters of a script, and what they share (this project's own).
use Rattle.std.specs.Prelude.{◌≡◌, ℕ, zero, suc, ◌+◌, ◌≤◌, List, [], ◌∷◌, length, false, slice_get, Option, Some, option_and_then}
use Rattle.si_plain.specs.Ranges.{Numbers}
use Rattle.si_semantics.specs.Value.{Text}
use Rattle.si_semantics.specs.World.{World}
use Rattle.si_semantics.specs.Actions.{Take}
use Rattle.si_hub.specs.HubCode.{Past}
use Rattle.si_hub.specs.Hubs.{IsTold, state_of}
use Rattle.si_interp.specs.Meaning.{InterpView, At, Shows}
use Rattle.si_interp.specs.View.{view_of}
use Rattle.si_interp.specs.Globals.{globals_of}
use Rattle.si_world.specs.Legal.{calls_of, exchanges}

-- what contracts see of a world: the script, the limits and the calls that were made, and all interpreters that the limits
-- allow, by their numbers; those that were not created yet stand there as new ones
pub record WorldView : Type 0 where
  pub past : Past
  pub interps : List InterpView

abbrev pub world : Past → List InterpView → WorldView
world p vs = record { past = p; interps = vs }

-- how many interpreters were created, closed ones counted
abbrev pub created : Past → ℕ
created p = length (state_of p).interpreters

-- a new interpreter waits for its first job
abbrev pub first_view : ℕ → InterpView
first_view i = view_of i [] [] 0 (At Take) false

-- so many of them, numbered from i on
abbrev pub first_views : (i : ℕ) → (count : ℕ) → List InterpView
first_views i zero = []
first_views i (suc count) = first_view i ∷ first_views (i + 1) count

-- the world of a script before any turn
abbrev pub first_of : Text → Numbers → WorldView
first_of script limits = world (record { script = script; limits = limits; journal = [] }) (first_views 0 limits.interpreters)

-- what the globals of interpreter i denote: its names with their values, and its objects with what they hold
abbrev pub globals_at : WorldView → (i : ℕ) → Option World
globals_at w i = option_and_then globals_of (slice_get w.interps i)

-- interpreter i after a past: it shows its meaning, under the answers that the journal gave it and no others, within its
-- turns
pub record IsMember (p : Past) (i : ℕ) (v : InterpView) : Type 0 where
  pub id : v.id ≡ i
  pub shows : Shows v
  pub log : calls_of i p.journal ≡ exchanges v.log
  pub taken : v.taken ≡ false
  pub locals : v.locals ≤ p.limits.turns

-- what every world keeps true: each call had the answer of the table; there is an interpreter for each number that the
-- limits allow, and no others made calls; and interpreter 0 was created, and no more than the limits allow
pub record IsWorld (w : WorldView) : Type 0 where
  pub told : IsTold w.past
  pub count : length w.interps ≡ w.past.limits.interpreters
  pub some : 1 ≤ created w.past
  pub few : created w.past ≤ w.past.limits.interpreters
  pub each : (i : ℕ) (v : InterpView) → slice_get w.interps i ≡ Some v → IsMember w.past i v
  pub others : (i : ℕ) → length w.interps ≤ i → calls_of i w.past.journal ≡ []
