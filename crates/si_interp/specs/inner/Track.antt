-- Where an interpreter's course is.
use Rattle.std.specs.Prelude.{◌≡◌, ℕ, ◌<◌, List, [], map}
use Rattle.si_semantics.specs.Tree.{Function}
use Rattle.si_semantics.specs.World as language
use Rattle.si_semantics.specs.Life.{joined}
use Rattle.si_slots.specs.Machine.{Course, start}
use Rattle.si_slots.specs.Correct.{Knows}
use Rattle.si_slots.specs.Interpreter.{IsAfter}
use Rattle.si_slots.specs.Shows.{texts}
use Rattle.si_interp.specs.Life.{answer_in}
use Rattle.si_interp.specs.Course.{go}
use Rattle.si_interp.specs.Meaning.{Logged, Ready, course_stand, Asked, Stood, answers_of}

-- the answers of a log, as the language takes them
abbrev pub inputs : List Logged → List language.Answer
inputs log = map answer_in (answers_of log)

-- an interpreter of this number, log and lines is at a moment of its course; all but its text and its standing, which are
-- the moment's
pub record Track (id : ℕ) (log : List Logged) (l : ℕ) (c : Course) : Type 0 where
  pub after : IsAfter id (inputs log) c
  pub ran : go l (start id (inputs log)) ≡ c
  pub lines : c.lines ≡ l
  pub asked : Asked id [] log (joined (texts c.printed))
  pub stood : Stood id [] 0 log l
  pub ready : (k : ℕ) → k < l → course_stand id (answers_of log) k ≡ Ready
  -- the functions that were read
  pub functions : List Function
  pub knows : Knows c.table functions
