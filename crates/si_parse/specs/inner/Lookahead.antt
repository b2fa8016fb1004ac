-- One terminal of look-ahead: what stands first, and what it does after an operand.
use Rattle.std.specs.Prelude.{ℕ, List, [], ◌∷◌, Option, Some, None, Bool, true, false, if◌then◌else◌}
use Rattle.si_semantics.specs.Tree.{BinaryOperator, BooleanOperator}
use Rattle.si_semantics.specs.Tree as tree
use Rattle.si_semantics.specs.Tokens.{Symbol, Keyword}
use Rattle.si_semantics.specs.Tokens as token
use Rattle.si_parse.specs.inner.Numbers.{same_symbol, same_keyword}
use Rattle.si_semantics.specs.Grammar.{Terminal, STRING, BYTES, Sign, Word, NEWLINE, INDENT, DEDENT, left_level, word_of}

-- the terminals after some, where these stand first
abbrev pub Step : Type 0
Step = List Terminal → Option (List Terminal)

-- two terminals that have no text of their own are one
abbrev pub is_same : Terminal → Terminal → Bool
is_same (Sign s) (Sign t) = same_symbol s t
is_same (Word v) (Word w) = same_keyword v w
is_same NEWLINE NEWLINE = true
is_same INDENT INDENT = true
is_same DEDENT DEDENT = true
is_same _ _ = false

-- the terminals after one that has no text of its own, where it stands first
abbrev pub after : Terminal → Step
after t [] = None
after t (u ∷ ts) = if is_same u t then Some ts else None

-- what a terminal does after an operand
pub data Continuation : Type 0 where
  operator : BinaryOperator → Continuation
  attribute : Continuation
  arguments : Continuation
  index : Continuation
  comparison : Continuation
  boolean : BooleanOperator → Continuation
  condition : Continuation
  nothing : Continuation

abbrev pub role_of : Symbol → Continuation
role_of token.Bar = operator tree.BitOr
role_of token.Caret = operator tree.BitXor
role_of token.Ampersand = operator tree.BitAnd
role_of token.LeftShift = operator tree.ShiftLeft
role_of token.RightShift = operator tree.ShiftRight
role_of token.Plus = operator tree.Add
role_of token.Minus = operator tree.Subtract
role_of token.Star = operator tree.Multiply
role_of token.DoubleSlash = operator tree.FloorDivide
role_of token.Percent = operator tree.Modulo
role_of token.DoubleStar = operator tree.Power
role_of token.Dot = attribute
role_of token.LeftParenthesis = arguments
role_of token.LeftBracket = index
role_of token.Less = comparison
role_of token.Greater = comparison
role_of token.LessEqual = comparison
role_of token.GreaterEqual = comparison
role_of token.EqualEqual = comparison
role_of token.NotEqual = comparison
role_of _ = nothing

abbrev pub word_role : Keyword → Continuation
word_role token.AndWord = boolean tree.And
word_role token.OrWord = boolean tree.Or
word_role token.IsWord = comparison
word_role token.InWord = comparison
word_role token.IfWord = condition
word_role _ = nothing

abbrev pub continuation_of : Terminal → Continuation
continuation_of (Sign s) = role_of s
continuation_of (Word w) = word_role w
continuation_of _ = nothing

-- what `not` does, once it is known whether `in` follows
abbrev pub negated : Option (List Terminal) → Continuation
negated None = nothing
negated (Some ts) = comparison

abbrev pub continuation_at : List Terminal → Continuation
continuation_at [] = nothing
continuation_at (Word token.NotWord ∷ ts) = negated (after (Word token.InWord) ts)
continuation_at (t ∷ ts) = continuation_of t

-- The tightest level at which the terminal still continues an expression. Between a chain's level and that of its items
-- lies the strength of the chain's operator, and no production: so no operator has the strength of a chain or of a prefix.
abbrev pub strength_of : Continuation → ℕ
strength_of (operator op) = left_level op
strength_of attribute = 18
strength_of arguments = 18
strength_of index = 18
strength_of comparison = 9
strength_of (boolean tree.And) = 6
strength_of (boolean tree.Or) = 4
strength_of condition = 2
strength_of nothing = 0

abbrev pub strength_at : List Terminal → ℕ
strength_at ts = strength_of (continuation_at ts)

-- whether a literal of a str or of bytes stands first
abbrev pub begins_literal : List Terminal → Bool
begins_literal [] = false
begins_literal (STRING literal ∷ ts) = true
begins_literal (BYTES literal ∷ ts) = true
begins_literal (_ ∷ ts) = false

-- the terminals after the first
abbrev pub rest_of : List Terminal → List Terminal
rest_of [] = []
rest_of (t ∷ ts) = ts

-- the terminals after the word of an operator
abbrev pub after_boolean : BooleanOperator → Step
after_boolean op = after (Word (word_of op))

-- the word with which a compound statement begins
pub data Header : Type 0 where
  if_header : Header
  while_header : Header
  for_header : Header
  try_header : Header
  def_header : Header

-- the word of a compound statement, where one stands first, and the terminals after it
abbrev pub header_at : List Terminal → Option (Header × List Terminal)
header_at [] = None
header_at (Word token.IfWord ∷ ts) = Some (if_header, ts)
header_at (Word token.WhileWord ∷ ts) = Some (while_header, ts)
header_at (Word token.ForWord ∷ ts) = Some (for_header, ts)
header_at (Word token.TryWord ∷ ts) = Some (try_header, ts)
header_at (Word token.DefWord ∷ ts) = Some (def_header, ts)
header_at (_ ∷ ts) = None
