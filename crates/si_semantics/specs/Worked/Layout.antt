-- Worked cases of the layout, computed from the definition.
use Rattle.std.specs.Prelude.{◌≡◌, codes, ℕ, List, [], ◌∷◌, map, Option, Some, None}
use Rattle.std.specs.Option.{option_map}
use Rattle.si_semantics.specs.Tokens.{TokenKind, Token, Name, Sign, LeftParenthesis, RightParenthesis, Newline, Indent, Dedent, End}
use Rattle.si_semantics.specs.Words as words
use Rattle.si_semantics.specs.Words.{Word}
use Rattle.si_semantics.specs.Layout.{token, Line, line_end, AreLines, line_tokens, ending, Lays, line_at}

-- ---- words and lines

-- `x`
abbrev pub x : Word
x = record { sort = words.Name; text = codes "x" }

-- `(`
abbrev pub open_bracket : Word
open_bracket = record { sort = words.Operator; text = codes "(" }

-- `)`
abbrev pub closed_bracket : Word
closed_bracket = record { sort = words.Operator; text = codes ")" }

abbrev pub spaces : List ℕ → Word
spaces bs = record { sort = words.Spaces; text = bs }

abbrev pub tab : Word
tab = record { sort = words.Tabs; text = 9 ∷ [] }

-- `# x`
abbrev pub comment : Word
comment = record { sort = words.Comment; text = codes "# x" }

-- LF
abbrev pub lf : List ℕ
lf = 10 ∷ []

abbrev pub line : List Word → Line
line ws = record { words = ws; end = lf }

-- the kinds of the tokens that a line makes in these blocks, and the blocks then open
abbrev pub kinds : List ℕ → List Word → Option (List TokenKind × List ℕ)
kinds blocks ws = option_map (λ r. (map (λ t. t.kind) r.0, r.1)) (line_tokens blocks 0 (line ws))

-- ---- a text

-- `x`, then `  (` and `)`, then ` # x`, then `x` with no line end
abbrev pub four_lines : List Line
four_lines =
    line (x ∷ [])
    ∷ line (spaces (codes "  ") ∷ open_bracket ∷ line_end lf ∷ closed_bracket ∷ [])
    ∷ line (spaces (codes " ") ∷ comment ∷ [])
    ∷ record { words = x ∷ []; end = [] }
    ∷ []

abbrev pub words_of_four_lines : List Word
words_of_four_lines =
    x ∷ line_end lf
    ∷ spaces (codes "  ") ∷ open_bracket ∷ line_end lf ∷ closed_bracket ∷ line_end lf
    ∷ spaces (codes " ") ∷ comment ∷ line_end lf
    ∷ x
    ∷ []

abbrev pub tokens_of_four_lines : List Token
tokens_of_four_lines =
    token 0 (codes "x") Name ∷ token 1 lf Newline
    ∷ token 4 [] Indent ∷ token 4 (codes "(") (Sign LeftParenthesis)
    ∷ token 6 (codes ")") (Sign RightParenthesis) ∷ token 7 lf Newline
    ∷ token 13 [] Dedent ∷ token 13 (codes "x") Name ∷ token 14 [] Newline
    ∷ token 14 [] End
    ∷ []

-- ---- lines of places

-- a line that ends in CR LF, one in LF, and two in CR
abbrev pub four_ends : List ℕ
four_ends = codes "a\r\nb\n\r\rc"

-- `x` after a literal that goes over two line ends, CR LF each
abbrev pub after_a_literal : List ℕ
after_a_literal = codes "'''\r\n\r\n'''x"

-- ---- the cases

pub record LayoutCases : Type 0 where
  -- `  x` in no block opens one
  pub deeper : kinds [] (spaces (codes "  ") ∷ x ∷ []) ≡ Some (Indent ∷ Name ∷ Newline ∷ [], 2 ∷ [])
  -- `  x` in a block at column 2 stays in it
  pub as_deep : kinds (2 ∷ []) (spaces (codes "  ") ∷ x ∷ []) ≡ Some (Name ∷ Newline ∷ [], 2 ∷ [])
  -- `x` closes blocks at columns 5 and 2 at once
  pub two_closed : kinds (5 ∷ 2 ∷ []) (x ∷ []) ≡ Some (Dedent ∷ Dedent ∷ Name ∷ Newline ∷ [], [])
  -- `  x` closes the inner of two blocks
  pub one_closed : kinds (5 ∷ 2 ∷ []) (spaces (codes "  ") ∷ x ∷ []) ≡ Some (Dedent ∷ Name ∷ Newline ∷ [], 2 ∷ [])
  -- `   x` closes the inner of them, and stands at the column of none that stays open
  pub between_columns : kinds (5 ∷ 2 ∷ []) (spaces (codes "   ") ∷ x ∷ []) ≡ None
  -- the empty line, and ` # x`, close no block
  pub blank_line : kinds (5 ∷ 2 ∷ []) [] ≡ Some ([], 5 ∷ 2 ∷ [])
  pub comment_alone : kinds (5 ∷ 2 ∷ []) (spaces (codes " ") ∷ comment ∷ []) ≡ Some ([], 5 ∷ 2 ∷ [])
  -- no tab stands before a line's first token, and any stands before a comment or after a token
  pub tab_first : kinds [] (spaces (codes " ") ∷ tab ∷ x ∷ []) ≡ None
  pub tab_before_comment : kinds [] (tab ∷ comment ∷ []) ≡ Some ([], [])
  pub tab_after : kinds [] (x ∷ tab ∷ []) ≡ Some (Name ∷ Newline ∷ [], [])
  -- at the end of the text each block is closed
  pub all_closed : ending (5 ∷ 2 ∷ []) 9 ≡ token 9 [] Dedent ∷ token 9 [] Dedent ∷ token 9 [] End ∷ []
  -- the text of four lines, of which one goes over a line end
  pub four_lines_are : AreLines four_lines words_of_four_lines
  pub four_lines_make : Lays [] 0 four_lines tokens_of_four_lines
  -- each place stands in a line: CR LF is one line end, and lies where its LF does
  pub line_of_the_first_byte : line_at four_ends 0 ≡ 1
  pub line_of_a_line_end : line_at four_ends 2 ≡ 1
  pub line_after_cr_lf : line_at four_ends 3 ≡ 2
  pub line_after_lf : line_at four_ends 5 ≡ 3
  pub line_after_cr : line_at four_ends 6 ≡ 4
  pub line_after_two_cr : line_at four_ends 7 ≡ 5
  pub line_at_the_end : line_at four_ends 8 ≡ 5
  pub line_in_a_literal : line_at after_a_literal 5 ≡ 2
  pub line_after_a_literal : line_at after_a_literal 10 ≡ 3
  pub line_in_no_text : line_at [] 0 ≡ 1
