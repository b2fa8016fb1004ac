-- The words of a text, blanks, comments and line ends among them (Python Language Reference 3.14, "Lexical analysis").
-- A byte stands for its code. Which letters, numbers and literals there are is this project's own choice among
-- Python's.
use Rattle.std.specs.Prelude.{◌≡◌, ℕ, ◌+◌, ◌<◌, ◌==◌, ◌&&◌, ◌||◌, not, List, [], ◌∷◌, ◌++◌, ◌⊎◌, length, drop, Bool, true, false, Option, Some, None, nat_le, codes, if◌then◌else◌}
use Rattle.std.specs.List.{AllByRecursion}
use Rattle.std.specs.Option.{is_some}
use Rattle.si_semantics.specs.Literals.{value_of_int, begins_bytes, value_of_str, value_of_bytes, is_quote, is_prefix, is_double_prefix, unprefixed, quotes_at}
use Rattle.si_semantics.specs.Tokens as tokens
use Rattle.si_semantics.specs.Tokens.{Symbol, Keyword}

-- ---- bytes

abbrev pub is_digit : ℕ → Bool
is_digit b = nat_le 48 b && nat_le b 57

-- a letter of ASCII or `_` ("Names")
abbrev pub begins_name : ℕ → Bool
begins_name b = (nat_le 97 b && nat_le b 122) || ((nat_le 65 b && nat_le b 90) || (b == 95))

abbrev pub continues_name : ℕ → Bool
continues_name b = begins_name b || is_digit b

abbrev pub is_space : ℕ → Bool
is_space b = b == 32

abbrev pub is_tab : ℕ → Bool
is_tab b = b == 9

abbrev pub is_hash : ℕ → Bool
is_hash b = b == 35

-- what may stand in a comment: all but line ends and NUL
abbrev pub in_comment : ℕ → Bool
in_comment b = not ((b == 10) || ((b == 13) || (b == 0)))

-- ---- spellings

-- whether two texts are one
abbrev pub same : List ℕ → List ℕ → Bool
same [] [] = true
same [] (b ∷ bs) = false
same (a ∷ xs) [] = false
same (a ∷ xs) (b ∷ bs) = same xs bs && (a == b)

-- what a text spells, by a table
abbrev pub spelled : {A : Type 0} → List (List ℕ × A) → List ℕ → Option A
spelled [] w = None
spelled (entry ∷ table) w = if same entry.0 w then Some entry.1 else spelled table w

-- the spellings of operators and delimiters ("Operators and delimiters")
unfoldable pub symbols : List (List ℕ × Symbol)
symbols =
    (codes "**=", tokens.DoubleStarEqual) ∷ (codes "//=", tokens.DoubleSlashEqual) ∷ (codes "<<=", tokens.LeftShiftEqual) ∷ (codes ">>=", tokens.RightShiftEqual)
    ∷ (codes "**", tokens.DoubleStar) ∷ (codes "//", tokens.DoubleSlash) ∷ (codes "<<", tokens.LeftShift) ∷ (codes ">>", tokens.RightShift)
    ∷ (codes "<=", tokens.LessEqual) ∷ (codes ">=", tokens.GreaterEqual) ∷ (codes "==", tokens.EqualEqual) ∷ (codes "!=", tokens.NotEqual)
    ∷ (codes "+=", tokens.PlusEqual) ∷ (codes "-=", tokens.MinusEqual) ∷ (codes "*=", tokens.StarEqual) ∷ (codes "%=", tokens.PercentEqual)
    ∷ (codes "&=", tokens.AmpersandEqual) ∷ (codes "|=", tokens.BarEqual) ∷ (codes "^=", tokens.CaretEqual)
    ∷ (codes "+", tokens.Plus) ∷ (codes "-", tokens.Minus) ∷ (codes "*", tokens.Star) ∷ (codes "%", tokens.Percent)
    ∷ (codes "&", tokens.Ampersand) ∷ (codes "|", tokens.Bar) ∷ (codes "^", tokens.Caret) ∷ (codes "~", tokens.Tilde)
    ∷ (codes "<", tokens.Less) ∷ (codes ">", tokens.Greater)
    ∷ (codes "(", tokens.LeftParenthesis) ∷ (codes ")", tokens.RightParenthesis) ∷ (codes "[", tokens.LeftBracket) ∷ (codes "]", tokens.RightBracket)
    ∷ (codes "{", tokens.LeftBrace) ∷ (codes "}", tokens.RightBrace) ∷ (codes ",", tokens.Comma) ∷ (codes ":", tokens.Colon)
    ∷ (codes ".", tokens.Dot) ∷ (codes ";", tokens.Semicolon) ∷ (codes "=", tokens.Equal) ∷ []

-- the spellings of keywords ("Keywords")
unfoldable pub keywords : List (List ℕ × Keyword)
keywords =
    (codes "False", tokens.FalseWord) ∷ (codes "None", tokens.NoneWord) ∷ (codes "True", tokens.TrueWord) ∷ (codes "and", tokens.AndWord)
    ∷ (codes "as", tokens.AsWord) ∷ (codes "assert", tokens.AssertWord) ∷ (codes "async", tokens.AsyncWord) ∷ (codes "await", tokens.AwaitWord)
    ∷ (codes "break", tokens.BreakWord) ∷ (codes "class", tokens.ClassWord) ∷ (codes "continue", tokens.ContinueWord) ∷ (codes "def", tokens.DefWord)
    ∷ (codes "del", tokens.DelWord) ∷ (codes "elif", tokens.ElifWord) ∷ (codes "else", tokens.ElseWord) ∷ (codes "except", tokens.ExceptWord)
    ∷ (codes "finally", tokens.FinallyWord) ∷ (codes "for", tokens.ForWord) ∷ (codes "from", tokens.FromWord) ∷ (codes "global", tokens.GlobalWord)
    ∷ (codes "if", tokens.IfWord) ∷ (codes "import", tokens.ImportWord) ∷ (codes "in", tokens.InWord) ∷ (codes "is", tokens.IsWord)
    ∷ (codes "lambda", tokens.LambdaWord) ∷ (codes "nonlocal", tokens.NonlocalWord) ∷ (codes "not", tokens.NotWord) ∷ (codes "or", tokens.OrWord)
    ∷ (codes "pass", tokens.PassWord) ∷ (codes "raise", tokens.RaiseWord) ∷ (codes "return", tokens.ReturnWord) ∷ (codes "try", tokens.TryWord)
    ∷ (codes "while", tokens.WhileWord) ∷ (codes "with", tokens.WithWord) ∷ (codes "yield", tokens.YieldWord) ∷ []

-- ---- words

-- what a word of a text is
pub data Sort : Type 0 where
  -- an identifier or a keyword
  Name : Sort
  Int : Sort
  Text : Sort
  Operator : Sort
  Spaces : Sort
  Tabs : Sort
  Comment : Sort
  LineEnd : Sort

abbrev pub each : (ℕ → Bool) → List ℕ → Type 0
each p bs = AllByRecursion (λ b. p b ≡ true) bs

-- a first byte of one sort, and any number of another
abbrev pub IsRun : (ℕ → Bool) → (ℕ → Bool) → List ℕ → Type 0
IsRun first p [] = ⊥
IsRun first p (b ∷ bs) = (first b ≡ true) × each p bs

-- what stands for itself between so many quotes: all but NUL, and between one and one no line end
abbrev pub is_plain : ℕ → ℕ → Bool
is_plain count b = if count == 1 then in_comment b else not (b == 0)

-- What follows the open quotes, up to the closed ones, of which there are as many (count). So many closed ones stand in
-- a row just before (row), or an escaped CR does (joins), to which an LF belongs. A backslash (92) takes the next
-- character with it.
abbrev mutual
  pub is_body : ℕ → ℕ → ℕ → Bool → List ℕ → Bool
  is_body count quote row joins [] = row == count
  is_body count quote row joins (b ∷ bs) =
      not (row == count)
      && (if b == quote then is_body count quote (row + 1) false bs
      else (if b == 92 then is_escaped count quote bs
      else (is_plain count b || (joins && (b == 10))) && is_body count quote 0 false bs))

  pub is_escaped : ℕ → ℕ → List ℕ → Bool
  is_escaped count quote [] = false
  is_escaped count quote (b ∷ bs) = not (b == 0) && is_body count quote 0 (b == 13) bs

-- a literal without prefix
abbrev pub is_quoted : List ℕ → Bool
is_quoted [] = false
is_quoted (quote ∷ bs) =
    is_quote quote && is_body (quotes_at (quote ∷ bs)) quote 0 false (drop (quotes_at (quote ∷ bs)) (quote ∷ bs))

-- a literal of a str or of bytes, with its prefix and quotes ("String and Bytes literals")
abbrev pub is_text : List ℕ → Bool
is_text w = is_quoted (unprefixed w)

abbrev pub IsIn : List (List ℕ) → List ℕ → Type 0
IsIn [] w = ⊥
IsIn (o ∷ os) w = (w ≡ o) ⊎ IsIn os w

-- LF, CR LF, CR ("Physical lines")
abbrev pub line_ends : List (List ℕ)
line_ends = (10 ∷ []) ∷ (13 ∷ 10 ∷ []) ∷ (13 ∷ []) ∷ []

-- which bytes are a word
abbrev pub IsWord : Sort → List ℕ → Type 0
IsWord Name w = IsRun begins_name continues_name w
IsWord Int w = IsRun is_digit continues_name w
IsWord Text w = is_text w ≡ true
IsWord Operator w = (s : Symbol) × (spelled symbols w ≡ Some s)
IsWord Spaces w = IsRun is_space is_space w
IsWord Tabs w = IsRun is_tab is_tab w
IsWord Comment w = IsRun is_hash in_comment w
IsWord LineEnd w = IsIn line_ends w

-- No longer front of what begins with the word is a word ("Other tokens": the longest possible).
abbrev pub IsLongest : List ℕ → List ℕ → Type 0
IsLongest w rest = (more after : List ℕ) (k : Sort) → 0 < length more → rest ≡ more ++ after → IsWord k (w ++ more) → ⊥

-- ---- what is refused

-- A number has a value ("Integer literals").
abbrev pub is_number : List ℕ → Bool
is_number w = is_some (value_of_int w)

-- no point follows
abbrev pub is_apart : List ℕ → Bool
is_apart [] = true
is_apart (b ∷ bs) = not (b == 46)

-- a letter or two before a quote are a prefix
abbrev pub is_prefixing : List ℕ → List ℕ → Bool
is_prefixing (p ∷ []) (b ∷ bs) = is_prefix p && is_quote b
is_prefixing (p ∷ q ∷ []) (b ∷ bs) = is_double_prefix p q && is_quote b
is_prefixing _ _ = false

-- A literal has a value: its escapes are those of the rules ("Escape sequences"), and bytes hold ASCII alone ("Bytes
-- literals").
abbrev pub has_value : List ℕ → Bool
has_value w = is_some (if begins_bytes w then value_of_bytes w else value_of_str w)

-- After two quotes no third one follows: three always open a literal in three quotes.
abbrev pub is_closed : List ℕ → List ℕ → Bool
is_closed (p ∷ q ∷ []) (b ∷ bs) = not (b == q)
is_closed _ _ = true

-- whether a word may stand before the rest
abbrev pub is_allowed : Sort → List ℕ → List ℕ → Bool
is_allowed Name w rest = not (is_prefixing w rest)
is_allowed Int w rest = is_number w && is_apart rest
is_allowed Text w rest = has_value w && is_closed (unprefixed w) rest
is_allowed _ w rest = true

-- ---- a text

-- a word of a text
pub record Word : Type 0 where
  pub sort : Sort
  pub text : List ℕ

-- The text is these words, one after the other, each the longest that begins there.
abbrev pub IsCut : List Word → List ℕ → Type 0
IsCut [] text = text ≡ []
IsCut (w ∷ ws) text =
    (rest : List ℕ) × (text ≡ w.text ++ rest) × IsWord w.sort w.text × IsLongest w.text rest × (is_allowed w.sort w.text rest ≡ true) × IsCut ws rest
