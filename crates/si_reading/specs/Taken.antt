-- Which tree of a text is run (this project's own).
use Rattle.std.specs.Prelude.{◌≡◌, true, List, Option, Some, None, ℕ}
use Rattle.si_semantics.specs.Tree.{Module, Stmts}
use Rattle.si_semantics.specs.Scope.{is_scoped}
use Rattle.si_parse.specs.Modules.{IsRead}

-- a text, by its bytes in UTF-8, is read as a tree that is well scoped
abbrev pub IsTaken : List ℕ → Stmts → Type 0
IsTaken text body = IsRead text body × (is_scoped body ≡ true)

-- what an interpreter that is given a text has to run: the tree as which the text is read, or none where there is no such
-- tree
abbrev pub IsJob : List ℕ → Option Module → Type 0
IsJob text (Some m) = IsTaken text m.body
IsJob text None = (body : Stmts) → IsTaken text body → ⊥
