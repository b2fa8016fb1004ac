-- The course of an interpreter's machine by the lines that it has run (this project's own).
use Rattle.std.specs.Prelude.{ℕ, zero, suc, List, [], ◌∷◌, Option, Some}
use Rattle.si_semantics.specs.World.{Answer}
use Rattle.si_semantics.specs.Life as language
use Rattle.si_slots.specs.Machine.{Course, next}
use Rattle.si_slots.specs.Code.{compiled}
use Rattle.si_slots.specs.Shows.{standing_of}

-- a course takes its answers as soon as it stands at an action, one after the other
abbrev pub settle : Option (Option language.Action) → List Answer → Course → Course
settle at [] c = c
settle (Some (Some b)) (a ∷ more) c = settle (standing_of (next compiled c).place) more (next compiled c)
settle at (a ∷ more) c = c

abbrev pub settled : Course → Course
settled c = settle (standing_of c.place) c.answers c

-- after so many lines of the machine's code, with the answers taken that it then can take; where no line comes, it stays
-- as it is
abbrev pub go : ℕ → Course → Course
go zero c = settled c
go (suc l) c = go l (next compiled (settled c))
