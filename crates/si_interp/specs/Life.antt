-- The life of one interpreter under the answers that its shared actions are given: the life of the language, which takes
-- trees and values (si_semantics/specs/Life.antt), under texts and parcels (this project's own).
use Rattle.std.specs.Prelude.{ℕ, List, [], ◌∷◌, map, Bool, true, nat_lt, Option, Some}
use Rattle.std.specs.List.{list_all}
use Rattle.si_semantics.specs.Value.{Text, Value}
use Rattle.si_semantics.specs.Parcels.{Tree}
use Rattle.si_semantics.specs.Shareable.{value_of_parcel}
use Rattle.si_semantics.specs.World as language
use Rattle.si_semantics.specs.Meaning.{Piece}
use Rattle.si_semantics.specs.Life as language_life
use Rattle.si_semantics.specs.Life.{Told, Stops, IsGone, IsCut, life_of}
use Rattle.si_semantics.specs.Actions.{Action, Take, End, Job, Bind, Run, Closing, Answer, Given}
use Rattle.si_reading.specs.Texts.{tree_of_text}
use Rattle.si_methods.specs.Requests.{action_of}
use Rattle.si_methods.specs.Given as requests

-- each character is ASCII (The Unicode Standard 16.0, 5.7)
abbrev pub is_ascii : Text → Bool
is_ascii x = list_all (λ c. nat_lt c 128) x

-- a name with its value, where the name is ASCII, as each name of a script is, and the parcel has a value
abbrev pub bound : Bool → Text → Option Value → List (Text × Value) → List (Text × Value)
bound true x (Some v) bs = (x, v) ∷ bs
bound _ x _ bs = bs

-- the values that names are bound to. Scripts can't speak of a name that is not ASCII: such a pair binds nothing (this
-- project's own)
abbrev pub values_of : List (Text × Tree) → List (Text × Value)
values_of [] = []
values_of (b ∷ bs) = bound (is_ascii b.0) b.0 (value_of_parcel b.1) (values_of bs)

-- a job, with the tree of its text, if it is read, and the values of its parcels
abbrev pub job_in : Job → language.Job
job_in (Bind bs) = language.Bind (values_of bs)
job_in (Run run text) = language.Run (tree_of_text text)
job_in Closing = language.Closing

-- an answer, as the language takes it: a job with the tree of its text and the values of its parcels, and what answers a request
-- as requests take it
abbrev pub answer_in : Answer → language.Answer
answer_in (Given job) = language.Taken (job_in job)
answer_in r = requests.answer_in r

-- an action, as it is asked of what all share
abbrev pub asked : language_life.Action → Action
asked language_life.Take = Take
asked (language_life.Calls r) = action_of r
asked (language_life.End o) = End o

-- what a life comes to: it asks an action, it is gone, or a loop wants one turn too many
pub data Fate : Type 0 where
  Asks : Action → Fate
  Leaves : Fate
  Cut : Fate

-- a life: what it comes to, what it prints up to there, and the visits begun
pub record Life : Type 0 where
  pub fate : Fate
  pub pieces : List Piece
  pub visits : ℕ

-- a life, by what the language tells of it
abbrev pub life_told : Told → Life
life_told (Stops a s) = record { fate = Asks (asked a); pieces = s.pieces; visits = s.visits }
life_told (IsGone s) = record { fate = Leaves; pieces = s.pieces; visits = s.visits }
life_told (IsCut s) = record { fate = Cut; pieces = s.pieces; visits = s.visits }

-- The life of the interpreter of this number under these answers, each loop at most n turns.
unfoldable pub life : (id n : ℕ) → List Answer → Life
life id n answers = life_told (life_of id n (map answer_in answers))
