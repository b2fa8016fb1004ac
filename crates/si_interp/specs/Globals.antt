-- What the globals of an interpreter denote (this project's own).
use Rattle.std.specs.Prelude.{ℕ, List, map, Option, Some, None, Result, option_and_then}
use Rattle.si_plain.specs.declared.kind.Kind.{Kind}
use Rattle.si_semantics.specs.Value.{Text}
use Rattle.si_semantics.specs.World.{World}
use Rattle.si_semantics.specs.Actions.{Answer}
use Rattle.si_slots.specs.Machine.{start}
use Rattle.si_steps.specs.Shown.{shown_in}
use Rattle.si_interp.specs.Life.{answer_in}
use Rattle.si_interp.specs.Course.{go}
use Rattle.si_interp.specs.Meaning.{Stand, Ready, At, Gone, Starved, InterpView, answers_of}

-- What scripts see after l lines of the machine's code under these answers: the names with their values, and the objects with
-- what they hold.
unfoldable pub course_world : (id : ℕ) → List Answer → (l : ℕ) → World
course_world id answers l = (go l (start id (map answer_in answers))).world

-- the same of an interpreter that stands so: one that is gone or stands still for good runs no script any more, and its globals
-- denote nothing
abbrev pub world_at : Stand → World → Option World
world_at Ready w = Some w
world_at (At a) w = Some w
world_at Gone w = None
world_at Starved w = None

-- what the globals of an interpreter denote: a function of its number, its log, its lines and how it stands
abbrev pub globals_of : InterpView → Option World
globals_of v = world_at v.stand (course_world v.id (answers_of v.log) v.locals)

-- what is shown of one of them, by its name
abbrev pub shown_of : Option World → Text → Option (Result Text Kind)
shown_of globals x = option_and_then (λ w. shown_in w x) globals
