-- The tree of a text (this project's own).
use Rattle.std.specs.Prelude.{Option, encode_utf8_all}
use Rattle.si_semantics.specs.Value.{Text}
use Rattle.si_semantics.specs.Tree.{Module}
use Rattle.si_reading.specs.inner.Trees.{tree_in}

-- The tree as which a text of characters is read, if it is read and well scoped. Which tree it is, the laws
-- `TextsReadRight` and `ReadsOnly` say (Laws.antt); how it is found, in inner/Trees.antt, a reader need not believe.
unfoldable pub tree_of_text : Text → Option Module
tree_of_text text = tree_in (encode_utf8_all text)
