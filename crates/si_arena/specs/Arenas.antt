-- What an arena stands for.
use Rattle.std.specs.Prelude.{List, [], map}
use Rattle.si_semantics.specs.Value as pure
use Rattle.si_arena.specs.declared.value.Ref.{Ref}
use Rattle.si_arena.specs.declared.object.Steps.{Steps}
use Rattle.si_arena.specs.declared.held.Held.{Held}
use Rattle.si_arena.specs.declared.tuples.Tuple.{Tuple}
use Rattle.si_arena.specs.Texts.{Rows}
use Rattle.si_arena.specs.Memory.{Memory, range_of, held_of, ObjectsLie}
use Rattle.si_arena.specs.inner.Words.{Words, words_of, WordsLie}
use Rattle.si_arena.specs.inner.Keys.{KeysMean}
use Rattle.si_arena.specs.Tuples.{table, TuplesLie}

-- texts, names and ranges
abbrev pub base_of : Rows → List pure.Text → List Steps → Memory
base_of rows names ranges = record { texts = rows; names = names; ranges = map range_of ranges; tuples = []; store = [] }

-- and tuples
abbrev pub grounds_of : Rows → List pure.Text → List Steps → List Ref → List Tuple → Memory
grounds_of rows names ranges items ts = record (base_of rows names ranges) { tuples = table (base_of rows names ranges) items [] ts }

-- and objects
abbrev pub memory_of : Rows → List pure.Text → List Steps → List Ref → List Tuple → List Held → Memory
memory_of rows names ranges items ts os = record (grounds_of rows names ranges items ts) { store = map (held_of (grounds_of rows names ranges items ts)) os }

-- what holds of every arena: what tuples hold lies before them, what objects hold lies in it, and each key of a dict is the
-- atom of its text
pub record IsArena (rows : Rows) (names : List pure.Text) (ranges : List Steps) (items : List Ref) (ts : List Tuple) (os : List Held) (ws : Words) : Type 0 where
  pub tuples : TuplesLie (map (held_of (grounds_of rows names ranges items ts)) os) (base_of rows names ranges) items [] ts
  pub objects : ObjectsLie (memory_of rows names ranges items ts os) os
  pub words : WordsLie rows ws
  pub keys : KeysMean (memory_of rows names ranges items ts os) (words_of rows ws) os
