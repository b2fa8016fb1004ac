-- A law of what is run.
use Rattle.std.specs.Prelude.{◌≡◌, ℕ, List, Some}
use Rattle.si_plain.specs.Characters.{characters_of}
use Rattle.si_semantics.specs.Tree.{Stmts}
use Rattle.si_reading.specs.Texts.{tree_of_text}
use Rattle.si_cli.specs.Service.{IsScript, without_mark}

-- where the bytes of a script are read as a tree, it is the tree of the text that its world is given
abbrev pub RunsWhatIsRead : Type 0
RunsWhatIsRead = (script : List ℕ) (body : Stmts) → IsScript script body
    → tree_of_text (characters_of (without_mark script)) ≡ Some (record { body = body })
