-- What an interpreter shows of its meaning (this project's own).
use Rattle.std.specs.Prelude.{◌≡◌, ◌≢◌, ℕ, ◌*◌, ◌<◌, ◌≤◌, List, [], ◌∷◌, ◌++◌, length, map, Bool, Option, Some, None, ⊤}
use Rattle.si_semantics.specs.Value.{Text}
use Rattle.si_semantics.specs.Meaning.{Piece}
use Rattle.si_semantics.specs.Life as language
use Rattle.si_semantics.specs.Actions.{Action, Answer}
use Rattle.si_slots.specs.Machine.{Place, start}
use Rattle.si_slots.specs.Shows.{standing_of, texts}
use Rattle.si_interp.specs.Life.{Fate, Asks, Leaves, Cut, life, answer_in, asked}
use Rattle.si_interp.specs.Course.{go}

-- a shared action that was answered, with the lines that were run before its answer
pub record Logged : Type 0 where
  pub action : Action
  pub answer : Answer
  pub at : ℕ

-- how an interpreter stands: it has a line to run, stands at an action, is gone, or stands still for good, since memory
-- was refused or it was told to
pub data Stand : Type 0 where
  Ready : Stand
  At : Action → Stand
  Gone : Stand
  Starved : Stand

abbrev pub stand_at : Option (Option language.Action) → Stand
stand_at None = Ready
stand_at (Some (Some a)) = At (asked a)
stand_at (Some None) = Gone

-- how an interpreter stands whose machine is at a place
abbrev pub stand_of : Place → Stand
stand_of place = stand_at (standing_of place)

-- The text and the standing after l lines of the machine's code under these answers.
unfoldable pub course_text : (id : ℕ) → List Answer → (l : ℕ) → Text
course_text id answers l = language.joined (texts (go l (start id (map answer_in answers))).printed)

unfoldable pub course_stand : (id : ℕ) → List Answer → (l : ℕ) → Stand
course_stand id answers l = stand_of (go l (start id (map answer_in answers))).place

-- the texts of pieces, one after the other
abbrev pub joined : List Piece → Text
joined ps = language.joined (map (λ (p : Piece). p.text) ps)

-- a text begins with another
abbrev pub BeginsWith : (text front : Text) → Type 0
BeginsWith text front = (rest : Text) × (front ++ rest ≡ text)

-- how what a life comes to and a standing agree
abbrev pub StandsAs : Fate → Stand → Type 0
StandsAs (Asks a) s = s ≡ At a
StandsAs Leaves s = s ≡ Gone
StandsAs Cut s = ⊥

-- what is printed is a beginning of the pieces of the life, of no more pieces than lines
pub record IsBeginning (id : ℕ) (answers : List Answer) (printed : Text) (l : ℕ) : Type 0 where
  pub turns : ℕ
  pub pieces : List Piece
  pub rest : List Piece
  pub whole : pieces ++ rest ≡ (life id turns answers).pieces
  pub text : printed ≡ joined pieces
  pub few : length pieces ≤ l

-- a piece is printed, with all before it, once there were 16 lines for each visit before it; and where there were 16 lines
-- for each visit of a life that is not cut, all is printed, and the standing is that to which the life comes
pub record IsOnTime (id : ℕ) (answers : List Answer) (printed : Text) (l : ℕ) (s : Stand) : Type 0 where
  pub due : (n : ℕ) (before : List Piece) (q : Piece) (after : List Piece) → (life id n answers).pieces ≡ before ++ q ∷ after → q.number * 16 ≤ l
      → BeginsWith printed (joined (before ++ q ∷ []))
  pub over : (n : ℕ) → (life id n answers).fate ≢ Cut → (life id n answers).visits * 16 ≤ l
      → (printed ≡ joined (life id n answers).pieces) × StandsAs (life id n answers).fate s

-- where it stands at an action or is gone, the life asks just that or leaves, and all is printed
abbrev pub IsWhole : (id : ℕ) → List Answer → (printed : Text) → Stand → Type 0
IsWhole id answers printed Ready = ⊤
IsWhole id answers printed Starved = ⊤
IsWhole id answers printed s = (n : ℕ) × StandsAs (life id n answers).fate s × (printed ≡ joined (life id n answers).pieces)

-- an action is what the life asks under these answers, and what the life prints up to it is a beginning of a text
pub record AsksAt (id : ℕ) (answers : List Answer) (a : Action) (printed : Text) : Type 0 where
  pub turns : ℕ
  pub asks : (life id turns answers).fate ≡ Asks a
  pub begins : BeginsWith printed (joined (life id turns answers).pieces)

-- each action of a log is what the life asks under the answers before it
abbrev pub Asked : (id : ℕ) → (before : List Answer) → List Logged → (printed : Text) → Type 0
Asked id before [] printed = ⊤
Asked id before (x ∷ log) printed = AsksAt id before x.action printed × Asked id (before ++ x.answer ∷ []) log printed

-- under these answers the machine stands at an action after l lines, and has a line to run after fewer
pub record StoodAt (id : ℕ) (answers : List Answer) (a : Action) (l : ℕ) : Type 0 where
  pub here : course_stand id answers l ≡ At a
  pub ready : (k : ℕ) → k < l → course_stand id answers k ≡ Ready

-- it does so for each entry of a log under the answers before it; the lines of the entries don't fall, from low up to high
abbrev pub Stood : (id : ℕ) → (before : List Answer) → (low : ℕ) → List Logged → (high : ℕ) → Type 0
Stood id before low [] high = low ≤ high
Stood id before low (x ∷ log) high = (low ≤ x.at) × StoodAt id before x.action x.at × Stood id (before ++ x.answer ∷ []) x.at log high

-- what contracts see of an interpreter: its number, all that it has printed, its log, the lines that it has run, how it
-- stands, and whether the action at which it stands was handed out
pub record InterpView : Type 0 where
  pub id : ℕ
  pub printed : Text
  pub log : List Logged
  pub locals : ℕ
  pub stand : Stand
  pub taken : Bool

-- the answers of a log
abbrev pub answers_of : List Logged → List Answer
answers_of log = map (λ (x : Logged). x.answer) log

-- text and standing are those of the machine's course, and on time
pub record Follows (id : ℕ) (answers : List Answer) (printed : Text) (l : ℕ) (s : Stand) : Type 0 where
  pub text : printed ≡ course_text id answers l
  pub stand : s ≡ course_stand id answers l
  pub on_time : IsOnTime id answers printed l s

-- an interpreter of this number, log, text, lines and standing shows its meaning: its text is a beginning of what its life
-- prints under the answers of its log; each action of the log was asked by its life, when its machine stood there; it has
-- stood at no other; and, unless it stands still for good, it is where the machine's course is, on time
pub record ShowsMeaning (id : ℕ) (log : List Logged) (printed : Text) (l : ℕ) (s : Stand) : Type 0 where
  pub begins : IsBeginning id (answers_of log) printed l
  pub asked : Asked id [] log printed
  pub stood : Stood id [] 0 log l
  pub ready : (k : ℕ) → k < l → course_stand id (answers_of log) k ≡ Ready
  pub follows : s ≢ Starved → Follows id (answers_of log) printed l s
  pub whole : IsWhole id (answers_of log) printed s

abbrev pub Shows : InterpView → Type 0
Shows v = ShowsMeaning v.id v.log v.printed v.locals v.stand
