-- The tree as which a text is read.
use Rattle.std.specs.Prelude.{ℕ, ◌≤◌, List, length, map}
use Rattle.si_semantics.specs.Tree.{Stmts}
use Rattle.si_semantics.specs.Tokens.{Token}
use Rattle.si_semantics.specs.Layout.{HasTokens}
use Rattle.si_semantics.specs.Grammar.{terminal_of, Derives}

-- the most bytes of a text (this project's own)
abbrev pub max_bytes : ℕ
max_bytes = 1048576

-- a text is read as a tree: it is not too long, and has tokens that derive it
abbrev pub IsRead : List ℕ → Stmts → Type 0
IsRead text body = (length text ≤ max_bytes) × (ts : List Token) × HasTokens ts text × Derives body (map terminal_of ts)
