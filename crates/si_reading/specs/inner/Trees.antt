-- The tree of a text as a function of its bytes: the longest word again and again, then the layout, the grammar and the
-- rules of scope. Which tree it is, the laws say (specs/Laws.antt).
use Rattle.std.specs.Prelude.{ℕ, zero, suc, List, [], ◌∷◌, length, map, take, drop, Option, Some, None, nat_le, option_map, if◌then◌else◌}
use Rattle.si_semantics.specs.Tree.{Module, Stmts}
use Rattle.si_semantics.specs.Scope.{is_scoped}
use Rattle.si_semantics.specs.Words.{Sort, Word}
use Rattle.si_semantics.specs.Tokens.{Token}
use Rattle.si_semantics.specs.Grammar.{Terminal, terminal_of, stmts_of}
use Rattle.si_token.specs.inner.Reading.{then_read, word_at}
use Rattle.si_token.specs.inner.Laying.{line_start, laid_all}
use Rattle.si_parse.specs.Modules.{max_bytes}
use Rattle.si_parse.specs.inner.Lines.{module_by}

-- the word of this sort and length at the front
abbrev pub word_of : List ℕ → Sort × ℕ → Word
word_of bytes w = record { sort = w.0; text = take w.1 bytes }

-- The words of bytes. The number bounds them.
unfoldable pub words_by : ℕ → List ℕ → Option (List Word)
words_by zero [] = Some []
words_by zero (b ∷ bs) = None
words_by (suc n) [] = Some []
words_by (suc n) (b ∷ bs) =
    then_read (word_at (b ∷ bs)) (λ w. option_map (λ ws. word_of (b ∷ bs) w ∷ ws) (words_by n (drop w.1 (b ∷ bs))))

-- the tokens of bytes
abbrev pub tokens_in : List ℕ → Option (List Token)
tokens_in bytes = then_read (words_by (length bytes) bytes) (laid_all (line_start 0) [])

-- the tree that terminals derive
abbrev pub derived_by : List Terminal → Option Stmts
derived_by ts = option_map (λ r. stmts_of r.0) (module_by ts)

-- a tree, where it is well scoped
abbrev pub if_scoped : Stmts → Option Module
if_scoped body = if is_scoped body then Some (record { body = body }) else None

-- the tree of tokens, where it is well scoped
abbrev pub scoped_by : List Token → Option Module
scoped_by ts = then_read (derived_by (map terminal_of ts)) if_scoped

-- the tree of bytes: the one as which they are read, where it is well scoped
unfoldable pub tree_in : List ℕ → Option Module
tree_in bytes = if nat_le (length bytes) max_bytes then then_read (tokens_in bytes) scoped_by else None
