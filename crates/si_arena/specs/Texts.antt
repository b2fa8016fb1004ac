-- The texts of an arena: what a `Ref` to a text denotes.
use Rattle.std.specs.Prelude.{◌≡◌, ℕ, ◌+◌, ◌<◌, ◌≤◌, List, [], ◌++◌, take, drop, length, Result, Ok, Err, ℤ, pos, negsuc, nat_eq, if◌then◌else◌}
use Rattle.si_semantics.specs.Text.{max_length}
use Rattle.si_semantics.specs.Operations.{times}
use Rattle.si_arena.specs.declared.value.Ref.{Ref}
use Rattle.si_arena.specs.declared.value.Ref.TheVariants.{Short, Narrow, Wide}
use Rattle.si_arena.specs.declared.cause.Fault.{Fault}
use Rattle.si_arena.specs.declared.cause.Fault.TheVariants.{Raises, NoMemory}
use Rattle.si_arena.specs.declared.cause.Cause.TheVariants.{TooLong}
use Rattle.si_arena.specs.declared.characters.Characters.{Characters}
use Rattle.si_arena.specs.declared.characters.Characters.TheVariants as part
use Rattle.si_arena.specs.declared.value.Width.{Width}
use Rattle.si_arena.specs.declared.value.Width.TheVariants as width
use Rattle.si_arena.specs.Short.{short_text}

-- two rows of characters, by their code points: those of the narrow one are below 256
pub record Rows : Type 0 where
  pub narrow : List ℕ
  pub wide : List ℕ

-- the characters of a text: those in the value itself, or a slice of a row; of any other value none
abbrev pub text_of : Rows → Ref → List ℕ
text_of rows (Short s) = short_text s
text_of rows (Narrow length start) = take length (drop start rows.narrow)
text_of rows (Wide length start) = take length (drop start rows.wide)
text_of rows _ = []

-- a value is a text
abbrev pub IsText : Ref → Type 0
IsText (Short s) = Unit {0}
IsText (Narrow length start) = Unit {0}
IsText (Wide length start) = Unit {0}
IsText _ = ⊥

-- a value is no text of the wide row
abbrev pub IsNarrow : Ref → Type 0
IsNarrow (Wide length start) = ⊥
IsNarrow _ = Unit {0}

-- the characters of a value have room in a row: those of the wide one in the wide row alone
abbrev pub FitsIn : Width → Ref → Type 0
FitsIn width.Narrow r = IsNarrow r
FitsIn width.Wide r = Unit {0}

-- the row of a width
abbrev pub row_of : Width → Rows → List ℕ
row_of width.Narrow rows = rows.narrow
row_of width.Wide rows = rows.wide

-- the rows, with another in the place of one
abbrev pub with_row : Width → List ℕ → Rows → Rows
with_row width.Narrow row rows = record rows { narrow = row }
with_row width.Wide row rows = record rows { wide = row }

-- so many characters of a row, from a start on
abbrev pub slice_in : Width → ℕ → ℕ → Ref
slice_in width.Narrow count start = Narrow count start
slice_in width.Wide count start = Wide count start

-- where a value is a text in a row, its characters are there
abbrev pub TextLies : Rows → Ref → Type 0
TextLies rows (Narrow count start) = start + count ≤ length rows.narrow
TextLies rows (Wide count start) = start + count ≤ length rows.wide
TextLies rows _ = Unit {0}

-- rows go on: what stood in them stands where it stood
pub record Grows (old new : Rows) : Type 0 where
  pub narrow : (more : List ℕ) × (new.narrow ≡ old.narrow ++ more)
  pub wide : (more : List ℕ) × (new.wide ≡ old.wide ++ more)

-- a text is there, and what was there is as it was
pub record IsAdded (t : List ℕ) (old new : Rows) (r : Ref) : Type 0 where
  pub is : text_of new r ≡ t
  pub text : IsText r
  pub lies : TextLies new r
  pub grown : Grows old new

-- a text is there, unless it is longer than a text may be or memory is refused: then the rows are as they were
abbrev pub Adds : List ℕ → Rows → Rows → Result Ref Fault → Type 0
Adds t old new (Ok r) = (length t ≤ max_length) × IsAdded t old new r
Adds t old new (Err (Raises cause)) = (max_length < length t) × (cause ≡ TooLong) × (new ≡ old)
Adds t old new (Err NoMemory) = new ≡ old

-- what is asked for is refused as too long, and as nothing else
abbrev pub IsTooLong : Result Ref Fault → Type 0
IsTooLong result = result ≡ Err (Raises TooLong)

-- a text stands at the end of a row, which has gone on, from a start on
pub record StandsLast (w : Width) (t : List ℕ) (old new : Rows) (start : ℕ) : Type 0 where
  pub row : (more : List ℕ) × (new ≡ with_row w (row_of w old ++ more) old)
  pub within : start ≤ length (row_of w new)
  pub is : drop start (row_of w new) ≡ t

-- a text ends a row
abbrev pub EndsRow : Width → Rows → Ref → Type 0
EndsRow width.Narrow rows (Narrow count start) = start + count ≡ length rows.narrow
EndsRow width.Wide rows (Wide count start) = start + count ≡ length rows.wide
EndsRow _ rows _ = ⊥

-- a text ends its row, and another has room after it there
abbrev pub GoesOn : Rows → Ref → Ref → Type 0
GoesOn rows (Narrow count start) right = (start + count ≡ length rows.narrow) × IsNarrow right
GoesOn rows (Wide count start) right = start + count ≡ length rows.wide
GoesOn rows _ right = ⊥

-- how many characters stand in rows
abbrev pub size_of : Rows → ℕ
size_of rows = length rows.narrow + length rows.wide

-- the characters of a part
abbrev pub characters_in : Characters → List ℕ
characters_in (part.Narrow s) = s.now
characters_in (part.Wide s) = s.now

-- a text so many times; below 0 as good as 0
abbrev pub repeated_text : List ℕ → ℤ → List ℕ
repeated_text s (pos n) = times n s
repeated_text s (negsuc n) = []

-- how many copies of a text of a length count: none of an empty one
abbrev pub copies_of : ℕ → ℤ → ℕ
copies_of count (pos n) = if nat_eq count 0 then 0 else n
copies_of count (negsuc n) = 0
