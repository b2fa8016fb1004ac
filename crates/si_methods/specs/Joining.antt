-- What is joined to one str, and how that goes.
use Rattle.std.specs.Prelude.{◌≡◌, ◌≤◌, ◌<◌, ◌++◌, ℕ, List, length, Option, Some, None, option_map, Result, Ok, Err, slice_get}
use Rattle.si_semantics.specs.Text.{max_length}
use Rattle.si_semantics.specs.Value as pure
use Rattle.si_semantics.specs.Tuples as tuples
use Rattle.si_semantics.specs.World.{World}
use Rattle.si_semantics.specs.Attributes.{texts_in, joins_texts, text_made}
use Rattle.si_arena.specs.declared.cause.Fault.{Fault}
use Rattle.si_arena.specs.declared.cause.Fault.TheVariants.{Raises, NoMemory}
use Rattle.si_arena.specs.declared.characters.Characters.{Characters}
use Rattle.si_arena.specs.Texts.{characters_in}
use Rattle.si_arena.specs.Memory.{Memory, all_of, AllLie}
use Rattle.si_ops.specs.Runs.{Throws}
use Rattle.si_methods.specs.declared.joining.Gathered.{Gathered}
use Rattle.si_methods.specs.declared.joining.Gathered.TheVariants.{Narrow, Wide}
use Rattle.si_methods.specs.declared.joining.Pieces.{Pieces}
use Rattle.si_methods.specs.declared.joining.Pieces.TheVariants.{Values, Characters as Letters}
use Rattle.si_methods.specs.Shown.{IsStr}

-- the values that are to be joined: those in a row, or each character of a str as a str
abbrev pub values_in : Memory → Pieces → List pure.Value
values_in m (Values rs) = all_of m rs.now
values_in m (Letters part) = tuples.characters_in (characters_in part)

-- the characters that are gathered
abbrev pub characters_gathered : Gathered → pure.Text
characters_gathered (Narrow characters) = characters.items
characters_gathered (Wide text) = text

-- they lie in an arena
abbrev pub PiecesLie : Memory → Pieces → Type 0
PiecesLie m (Values rs) = AllLie m rs.now
PiecesLie m (Letters part) = Unit {0}

-- what of a value may be joined
abbrev pub HasPieces : pure.Value → Memory → Option Pieces → Type 0
HasPieces v m (Some pieces) = ((w : World) → w.store ≡ m.store → texts_in v w ≡ Some (values_in m pieces)) × PiecesLie m pieces
HasPieces v m None = (w : World) → w.store ≡ m.store → texts_in v w ≡ None

-- the characters of the value at an index, where it is a str
pub record IsPiece (vs : List pure.Value) (at : ℕ) (piece : Option Characters) : Type 0 where
  pub value : pure.Value
  pub there : slice_get vs at ≡ Some value
  pub shown : IsStr value piece

-- the text that is made of texts; or why it raises; or memory is refused
abbrev pub Joins : Option pure.Text → Memory → Result Gathered Fault → Type 0
Joins made m (Ok g) = made ≡ Some (characters_gathered g)
Joins made m (Err (Raises cause)) = Throws (λ w. text_made made w) m cause
Joins made m (Err NoMemory) = Unit {0}

-- the same of a str and the items of a value
abbrev pub JoinsItems : (v u : pure.Value) → Memory → Result Gathered Fault → Type 0
JoinsItems v u m (Ok g) = (w : World) → w.store ≡ m.store → joins_texts v (texts_in u w) w ≡ text_made (Some (characters_gathered g)) w
JoinsItems v u m (Err (Raises cause)) = Throws (λ w. joins_texts v (texts_in u w) w) m cause
JoinsItems v u m (Err NoMemory) = Unit {0}

-- what is made of a text and of those after it
abbrev pub told : pure.Text → Option pure.Text → Option pure.Text
told done left = option_map (λ u. done ++ u) left

-- a text comes to so many characters, or both are too many for a str; while they are not, the text stands there
pub record ComesTo (done text : pure.Text) (count : ℕ) : Type 0 where
  pub counted : count ≤ max_length → count ≡ length done
  pub past : max_length < count → max_length < length done
  pub stands : count ≤ max_length → text ≡ done
