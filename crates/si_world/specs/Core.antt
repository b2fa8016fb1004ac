-- What turns leave where no memory is refused (this project's own): a function of the script, the limits and the turns.
use Rattle.std.specs.Prelude.{◌≡◌, ◌≢◌, ℕ, ◌+◌, List, [], ◌∷◌, map, nat_le, if◌then◌else◌, slice_get, slice_set, slice_index, Some}
use Rattle.si_semantics.specs.Value.{Text}
use Rattle.si_semantics.specs.Actions.{Action}
use Rattle.si_semantics.specs.Shared.{Reply, NotNow, Replied}
use Rattle.si_hub.specs.HubCode.{Past}
use Rattle.si_hub.specs.Hubs.{reply_at, with_call, call}
use Rattle.si_interp.specs.Meaning.{InterpView, Stand, Ready, At, Gone, Starved, course_stand, course_text}
use Rattle.si_world.specs.declared.mark.Mark.{Mark}
use Rattle.si_world.specs.declared.mark.Mark.TheVariants as marks
use Rattle.si_world.specs.Legal.{answers_to}
use Rattle.si_world.specs.Worlds.{WorldView, created}

-- a world in which nothing starves, by its calls and the lines that each interpreter has run: texts and standings are
-- those of the machines' courses
pub record Core : Type 0 where
  pub past : Past
  pub locals : List ℕ

abbrev pub core : Past → List ℕ → Core
core p ls = record { past = p; locals = ls }

-- how interpreter i stands, and what it has printed
abbrev pub core_stand : Core → ℕ → Stand
core_stand c i = course_stand i (answers_to i c.past.journal) (slice_index c.locals i)

abbrev pub core_text : Core → ℕ → Text
core_text c i = course_text i (answers_to i c.past.journal) (slice_index c.locals i)

-- a turn of an interpreter that stands at an action, by the reply to it
abbrev pub core_acts : Core → ℕ → Action → Reply → Mark × Core
core_acts c i a NotNow = (marks.Waited, c)
core_acts c i a (Replied r s) = (marks.Acted, core (with_call (call i a r) c.past) c.locals)

-- a turn of an interpreter that was created, by how it stands
abbrev pub core_moves : Core → ℕ → Stand → Mark × Core
core_moves c i Ready =
    if nat_le c.past.limits.turns (slice_index c.locals i) then (marks.Spent, c)
    else (marks.Local, core c.past (slice_set c.locals i (slice_index c.locals i + 1)))
core_moves c i (At a) = core_acts c i a (reply_at c.past i a)
core_moves c i Gone = (marks.Nobody, c)
core_moves c i Starved = (marks.Nobody, c)

-- one turn: its mark, and what it leaves
unfoldable pub core_turn : Core → ℕ → Mark × Core
core_turn c i = if nat_le (created c.past) i then (marks.Nobody, c) else core_moves c i (core_stand c i)

-- the turns of a list: their marks, and what they leave
abbrev pub core_run : Core → List ℕ → List Mark × Core
core_run c [] = ([], c)
core_run c (i ∷ is) = ((core_turn c i).0 ∷ (core_run (core_turn c i).1 is).0, (core_run (core_turn c i).1 is).1)

-- a world without its texts and standings
abbrev pub core_of : WorldView → Core
core_of w = core w.past (map (λ (v : InterpView). v.locals) w.interps)

-- memory was refused to no interpreter
abbrev pub NoneStarved : WorldView → Type 0
NoneStarved w = (i : ℕ) (v : InterpView) → slice_get w.interps i ≡ Some v → v.stand ≢ Starved

-- each interpreter has printed, and stands, as the core says
abbrev pub IsOfCore : WorldView → Type 0
IsOfCore w = (i : ℕ) (v : InterpView) → slice_get w.interps i ≡ Some v → (v.printed ≡ core_text (core_of w) i) × (v.stand ≡ core_stand (core_of w) i)
