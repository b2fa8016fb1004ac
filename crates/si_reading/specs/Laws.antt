-- Laws of the tree of a text.
use Rattle.std.specs.Prelude.{◌≡◌, ℕ, List, Some, encode_utf8_all}
use Rattle.si_semantics.specs.Value.{Text}
use Rattle.si_semantics.specs.Tree.{Stmts}
use Rattle.si_reading.specs.Taken.{IsTaken, IsJob}
use Rattle.si_reading.specs.Texts.{tree_of_text}
use Rattle.si_reading.specs.inner.Trees.{tree_in}

-- bytes have a tree exactly where they are read as one that is well scoped, and it is that one
abbrev pub ReadsRight : Type 0
ReadsRight = (text : List ℕ) → IsJob text (tree_in text)

-- whichever tree bytes are read as and is well scoped, they have that one: there are no two
abbrev pub ReadsOnly : Type 0
ReadsOnly = (text : List ℕ) (body : Stmts) → IsTaken text body → tree_in text ≡ Some (record { body = body })

-- the tree of a text of characters is right for its bytes in UTF-8
abbrev pub TextsReadRight : Type 0
TextsReadRight = (text : Text) → IsJob (encode_utf8_all text) (tree_of_text text)
