-- From words to tokens: lines, brackets and blocks (Python Language Reference 3.14, "Line structure").
-- That no tab may stand before a line's first token is this project's own.
use Rattle.std.specs.Prelude.{◌≡◌, ℕ, ◌+◌, ◌-◌, ◌<◌, ◌==◌, List, [], ◌∷◌, ◌++◌, length, map, Bool, true, false, Option, Some, None, nat_lt, if◌then◌else◌}
use Rattle.std.specs.Option.{option_map, option_and_then, option_to_list}
use Rattle.si_plain.specs.LineEnds.{ends_before}
use Rattle.si_semantics.specs.Tokens as tokens
use Rattle.si_semantics.specs.Tokens.{Symbol, Keyword, TokenKind, Token}
use Rattle.si_semantics.specs.Literals.{begins_bytes}
use Rattle.si_semantics.specs.Words as words
use Rattle.si_semantics.specs.Words.{Sort, Word, IsCut, spelled, symbols, keywords}

-- ---- words that are tokens

-- what a name is: a keyword where it spells one ("Keywords")
abbrev pub name_kind : Option Keyword → TokenKind
name_kind None = tokens.Name
name_kind (Some k) = tokens.Word k

-- what a literal in quotes is: bytes where its prefix says so ("String and Bytes literals")
abbrev pub literal_kind : Bool → TokenKind
literal_kind true = tokens.Bytes
literal_kind false = tokens.Str

-- the kind of token that these bytes of a sort are; blanks, comments and line ends are none
abbrev pub kind_of : Sort → List ℕ → Option TokenKind
kind_of words.Name w = Some (name_kind (spelled keywords w))
kind_of words.Int w = Some tokens.Int
kind_of words.Text w = Some (literal_kind (begins_bytes w))
kind_of words.Operator w = option_map tokens.Sign (spelled symbols w)
kind_of words.Spaces w = None
kind_of words.Tabs w = None
kind_of words.Comment w = None
kind_of words.LineEnd w = None

-- a token that begins at this byte and has these bytes
abbrev pub token : ℕ → List ℕ → TokenKind → Token
token at w k = record { kind = k; text = w; start = at }

-- the tokens among words that begin at this byte
abbrev pub tokens_at : ℕ → List Word → List Token
tokens_at at [] = []
tokens_at at (w ∷ ws) =
    option_to_list (option_map (token at w.text) (kind_of w.sort w.text)) ++ tokens_at (at + length w.text) ws

-- the byte after words that begin at this byte
abbrev pub after : ℕ → List Word → ℕ
after at [] = at
after at (w ∷ ws) = after (at + length w.text) ws

-- ---- logical lines

-- one of `( [ {`
abbrev pub opens : Symbol → Bool
opens tokens.LeftParenthesis = true
opens tokens.LeftBracket = true
opens tokens.LeftBrace = true
opens _ = false

-- one of `) ] }`
abbrev pub closes : Symbol → Bool
closes tokens.RightParenthesis = true
closes tokens.RightBracket = true
closes tokens.RightBrace = true
closes _ = false

-- how many brackets are open after a word of this kind, where n were open before it
abbrev pub brackets_after : Option TokenKind → ℕ → ℕ
brackets_after (Some (tokens.Sign s)) n = if opens s then n + 1 else (if closes s then n - 1 else n)
brackets_after _ n = n

-- how many brackets are open after words
abbrev pub open_after : ℕ → List Word → ℕ
open_after n [] = n
open_after n (w ∷ ws) = open_after (brackets_after (kind_of w.sort w.text) n) ws

-- Each line end among the words stands inside brackets, and so joins two physical lines ("Implicit line joining").
abbrev pub IsJoined : ℕ → List Word → Type 0
IsJoined n [] = Unit {0}
IsJoined n (w ∷ ws) = (w.sort ≡ words.LineEnd → 0 < n) × IsJoined (brackets_after (kind_of w.sort w.text) n) ws

-- a logical line: its words, and the line end after them, which is empty at the end of the text ("Logical lines")
pub record Line : Type 0 where
  pub words : List Word
  pub end : List ℕ

abbrev pub line_end : List ℕ → Word
line_end w = record { sort = words.LineEnd; text = w }

-- The words are these logical lines: all but the last have a line end, which stands outside brackets. Brackets that the
-- last leaves open are refused by the grammar.
abbrev pub AreLines : List Line → List Word → Type 0
AreLines [] ws = ⊥
AreLines (l ∷ []) ws = (ws ≡ l.words) × IsJoined 0 l.words × (l.end ≡ [])
AreLines (l ∷ (m ∷ ls)) ws =
    (rest : List Word) × (ws ≡ l.words ++ line_end l.end ∷ rest) × IsJoined 0 l.words × (open_after 0 l.words ≡ 0)
    × AreLines (m ∷ ls) rest

-- ---- columns and blocks

-- the column of a line that begins with a word that is no token, from the column of what follows: spaces add their
-- length, and after a tab there is none
abbrev pub moved : Sort → List ℕ → Option ℕ → Option ℕ
moved words.Spaces w column = option_map (λ c. length w + c) column
moved words.Tabs w column = None
moved _ w column = column

-- the same for any word, by the token that it is
abbrev pub column_by : Option TokenKind → Sort → List ℕ → Option ℕ → Option ℕ
column_by None s w column = moved s w column
column_by (Some k) s w column = Some 0

-- the column of a line: how many spaces stand before its first token, and none where a tab stands there ("Indentation")
abbrev pub column_of : List Word → Option ℕ
column_of [] = Some 0
column_of (w ∷ ws) = column_by (kind_of w.sort w.text) w.sort w.text (column_of ws)

-- Blocks are open at these columns, the innermost first; column 0, the outermost, is not among them.
abbrev pub innermost : List ℕ → ℕ
innermost [] = 0
innermost (top ∷ below) = top

-- A line that is no deeper than the innermost block: a DEDENT for each block that it closes, and the blocks that stay
-- open. It stands at the column of the innermost of these.
abbrev pub closing : ℕ → List ℕ → Option (List TokenKind × List ℕ)
closing c [] = if c == 0 then Some ([], []) else None
closing c (top ∷ below) =
    if c == top then Some ([], top ∷ below)
    else (if nat_lt c top then option_map (λ r. (tokens.Dedent ∷ r.0, r.1)) (closing c below) else None)

-- what stands before a line's first token, and the blocks then open: an INDENT where it is deeper than the innermost
-- block ("Indentation")
abbrev pub indentation : ℕ → List ℕ → Option (List TokenKind × List ℕ)
indentation c blocks = if nat_lt (innermost blocks) c then Some (tokens.Indent ∷ [], c ∷ blocks) else closing c blocks

-- ---- tokens

-- tokens of no bytes
abbrev pub empty_tokens : ℕ → List TokenKind → List Token
empty_tokens at kinds = map (token at []) kinds

-- The tokens of a line in these blocks, by its column, those of its words, and its NEWLINE: nothing where no word is a
-- token ("Blank lines"). INDENT and DEDENTs are empty and stand where the first token does.
abbrev pub laid_out : List ℕ → Option ℕ → List Token → Token → Option (List Token × List ℕ)
laid_out blocks column [] newline = Some ([], blocks)
laid_out blocks column (t ∷ ts) newline =
    option_map (λ r. (empty_tokens t.start r.0 ++ (t ∷ (ts ++ newline ∷ [])), r.1))
    (option_and_then (λ c. indentation c blocks) column)

-- The tokens of a logical line that begins at a byte, and the blocks that are then open. Its NEWLINE is its line end,
-- and stands also where the text ends without one.
abbrev pub line_tokens : List ℕ → ℕ → Line → Option (List Token × List ℕ)
line_tokens blocks at l =
    laid_out blocks (column_of l.words) (tokens_at at l.words) (token (after at l.words) l.end tokens.Newline)

-- at the end of the text: a DEDENT for each block, and END
abbrev pub ending : List ℕ → ℕ → List Token
ending blocks at = empty_tokens at (map (λ c. tokens.Dedent) blocks) ++ token at [] tokens.End ∷ []

-- The lines make these tokens, from a byte on.
abbrev pub Lays : List ℕ → ℕ → List Line → List Token → Type 0
Lays blocks at [] ts = ts ≡ ending blocks at
Lays blocks at (l ∷ ls) ts =
    (made more : List Token) × (open_blocks : List ℕ) × (line_tokens blocks at l ≡ Some (made, open_blocks))
    × (ts ≡ made ++ more) × Lays open_blocks (after at l.words + length l.end) ls more

-- The tokens of a text: what the logical lines of its words make.
abbrev pub HasTokens : List Token → List ℕ → Type 0
HasTokens ts text = (ws : List Word) × IsCut ws text × (ls : List Line) × AreLines ls ws × Lays [] 0 ls ts

-- The line of the byte at a place of a text, counted from 1: one more than the line ends before it, those in literals and
-- in brackets among them ("Physical lines").
abbrev pub line_at : List ℕ → ℕ → ℕ
line_at text at = 1 + ends_before at text
