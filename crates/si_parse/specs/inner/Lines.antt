-- Lines, and all lines of a text.
use Rattle.std.specs.Prelude.{ℕ, zero, suc, List, [], ◌∷◌, ◌++◌, length, Option, Some, None, Bool, true, false}
use Rattle.si_semantics.specs.Tree.{Stmt}
use Rattle.si_semantics.specs.Grammar.{Terminal, ENDMARKER, max_nesting}
use Rattle.si_parse.specs.inner.Lookahead.{Header, if_header, while_header, for_header, try_header, def_header, header_at}
use Rattle.si_parse.specs.inner.Lists.{then_read, many_by}
use Rattle.si_parse.specs.inner.Statements.{LineParser, simple_line}
use Rattle.si_parse.specs.inner.Blocks.{if_by, while_by, for_by, define_by}
use Rattle.si_parse.specs.inner.Handlers.{try_by}

-- a compound statement, from after its word
abbrev pub compound_by : LineParser → Header → List Terminal → Option (Stmt × List Terminal)
compound_by line if_header ts = if_by line ts
compound_by line while_header ts = while_by line ts
compound_by line for_header ts = for_by line ts
compound_by line try_header ts = try_by line ts
compound_by line def_header ts = define_by line ts

abbrev pub with_compound : List Stmt → Stmt × List Terminal → Option (List Stmt × List Terminal)
with_compound body r = Some (body ++ r.0 ∷ [], r.1)

-- a line, or a compound statement, by the word that stands first
abbrev pub block_from : LineParser → List Stmt → List Terminal → Option (Header × List Terminal) → Option (List Stmt × List Terminal)
block_from line body ts (Some header) = then_read (compound_by line header.0 header.1) (with_compound body)
block_from line body ts None = simple_line body ts

-- A line, or a compound statement, in which compound statements are nested this deep at most.
unfoldable pub block_at : ℕ → LineParser
block_at zero body ts = simple_line body ts
block_at (suc n) body ts = block_from (block_at n) body ts (header_at ts)

-- whether the terminals are the last one
abbrev pub is_end : List Terminal → Bool
is_end [] = false
is_end (ENDMARKER ∷ []) = true
is_end _ = false

abbrev pub module_by : List Terminal → Option (List Stmt × List Terminal)
module_by ts = many_by (block_at max_nesting) is_end (length ts) [] ts
