-- What the types of this crate stand for in the definitions.
use Rattle.std.specs.Prelude.{ℕ, List, Bool, Option}
use Rattle.std.specs.Borrow.{Bor}
use Rattle.std.specs.Option.{option_map, option_to_list}
use Rattle.si_semantics.specs.Tokens as tokens
use Rattle.si_semantics.specs.Words as words
use Rattle.si_token.specs.declared.token.Symbol.{Symbol}
use Rattle.si_token.specs.declared.token.Symbol.TheVariants as symbol
use Rattle.si_token.specs.declared.token.Keyword.{Keyword}
use Rattle.si_token.specs.declared.token.Keyword.TheVariants as keyword
use Rattle.si_token.specs.declared.token.TokenKind.{TokenKind}
use Rattle.si_token.specs.declared.token.TokenKind.TheVariants as kind
use Rattle.si_token.specs.declared.token.Token.{Token}
use Rattle.si_token.specs.declared.layout.Place as code
use Rattle.si_token.specs.declared.words.Sort.{Sort}
use Rattle.si_token.specs.declared.words.Sort.TheVariants as sort

abbrev pub symbol_of : Symbol → tokens.Symbol
symbol_of symbol.Plus = tokens.Plus
symbol_of symbol.Minus = tokens.Minus
symbol_of symbol.Star = tokens.Star
symbol_of symbol.DoubleStar = tokens.DoubleStar
symbol_of symbol.DoubleSlash = tokens.DoubleSlash
symbol_of symbol.Percent = tokens.Percent
symbol_of symbol.Ampersand = tokens.Ampersand
symbol_of symbol.Bar = tokens.Bar
symbol_of symbol.Caret = tokens.Caret
symbol_of symbol.Tilde = tokens.Tilde
symbol_of symbol.LeftShift = tokens.LeftShift
symbol_of symbol.RightShift = tokens.RightShift
symbol_of symbol.Less = tokens.Less
symbol_of symbol.Greater = tokens.Greater
symbol_of symbol.LessEqual = tokens.LessEqual
symbol_of symbol.GreaterEqual = tokens.GreaterEqual
symbol_of symbol.EqualEqual = tokens.EqualEqual
symbol_of symbol.NotEqual = tokens.NotEqual
symbol_of symbol.Equal = tokens.Equal
symbol_of symbol.PlusEqual = tokens.PlusEqual
symbol_of symbol.MinusEqual = tokens.MinusEqual
symbol_of symbol.StarEqual = tokens.StarEqual
symbol_of symbol.DoubleStarEqual = tokens.DoubleStarEqual
symbol_of symbol.DoubleSlashEqual = tokens.DoubleSlashEqual
symbol_of symbol.PercentEqual = tokens.PercentEqual
symbol_of symbol.AmpersandEqual = tokens.AmpersandEqual
symbol_of symbol.BarEqual = tokens.BarEqual
symbol_of symbol.CaretEqual = tokens.CaretEqual
symbol_of symbol.LeftShiftEqual = tokens.LeftShiftEqual
symbol_of symbol.RightShiftEqual = tokens.RightShiftEqual
symbol_of symbol.LeftParenthesis = tokens.LeftParenthesis
symbol_of symbol.RightParenthesis = tokens.RightParenthesis
symbol_of symbol.LeftBracket = tokens.LeftBracket
symbol_of symbol.RightBracket = tokens.RightBracket
symbol_of symbol.LeftBrace = tokens.LeftBrace
symbol_of symbol.RightBrace = tokens.RightBrace
symbol_of symbol.Comma = tokens.Comma
symbol_of symbol.Colon = tokens.Colon
symbol_of symbol.Dot = tokens.Dot
symbol_of symbol.Semicolon = tokens.Semicolon

abbrev pub keyword_of : Keyword → tokens.Keyword
keyword_of keyword.False = tokens.FalseWord
keyword_of keyword.None = tokens.NoneWord
keyword_of keyword.True = tokens.TrueWord
keyword_of keyword.And = tokens.AndWord
keyword_of keyword.As = tokens.AsWord
keyword_of keyword.Assert = tokens.AssertWord
keyword_of keyword.Async = tokens.AsyncWord
keyword_of keyword.Await = tokens.AwaitWord
keyword_of keyword.Break = tokens.BreakWord
keyword_of keyword.Class = tokens.ClassWord
keyword_of keyword.Continue = tokens.ContinueWord
keyword_of keyword.Def = tokens.DefWord
keyword_of keyword.Del = tokens.DelWord
keyword_of keyword.Elif = tokens.ElifWord
keyword_of keyword.Else = tokens.ElseWord
keyword_of keyword.Except = tokens.ExceptWord
keyword_of keyword.Finally = tokens.FinallyWord
keyword_of keyword.For = tokens.ForWord
keyword_of keyword.From = tokens.FromWord
keyword_of keyword.Global = tokens.GlobalWord
keyword_of keyword.If = tokens.IfWord
keyword_of keyword.Import = tokens.ImportWord
keyword_of keyword.In = tokens.InWord
keyword_of keyword.Is = tokens.IsWord
keyword_of keyword.Lambda = tokens.LambdaWord
keyword_of keyword.Nonlocal = tokens.NonlocalWord
keyword_of keyword.Not = tokens.NotWord
keyword_of keyword.Or = tokens.OrWord
keyword_of keyword.Pass = tokens.PassWord
keyword_of keyword.Raise = tokens.RaiseWord
keyword_of keyword.Return = tokens.ReturnWord
keyword_of keyword.Try = tokens.TryWord
keyword_of keyword.While = tokens.WhileWord
keyword_of keyword.With = tokens.WithWord
keyword_of keyword.Yield = tokens.YieldWord

abbrev pub kind_of : TokenKind → tokens.TokenKind
kind_of kind.Name = tokens.Name
kind_of kind.Int = tokens.Int
kind_of kind.Str = tokens.Str
kind_of kind.Bytes = tokens.Bytes
kind_of (kind.Symbol s) = tokens.Sign (symbol_of s)
kind_of (kind.Keyword k) = tokens.Word (keyword_of k)
kind_of kind.Newline = tokens.Newline
kind_of kind.Indent = tokens.Indent
kind_of kind.Dedent = tokens.Dedent
kind_of kind.End = tokens.End

-- a token: its kind, its bytes, and where it begins
abbrev pub token_of : Token → tokens.Token
token_of t = record { kind = kind_of t.kind; text = t.text.now; start = t.span.start }

abbrev pub sort_of : Sort → words.Sort
sort_of sort.Name = words.Name
sort_of sort.Int = words.Int
sort_of sort.Text = words.Text
sort_of sort.Operator = words.Operator
sort_of sort.Spaces = words.Spaces
sort_of sort.Tabs = words.Tabs
sort_of sort.Comment = words.Comment
sort_of sort.LineEnd = words.LineEnd

-- a word at the front: its sort and its length
abbrev pub word_of : Sort × ℕ → words.Sort × ℕ
word_of w = (sort_of w.0, w.1)

-- where a reader of words stands, without the line
pub record Place : Type 0 where
  pub at : ℕ
  pub begun : Bool
  pub column : ℕ
  pub has_tab : Bool
  pub brackets : ℕ

abbrev pub place_of : code.Place → Place
place_of p = record { at = p.at; begun = p.begun; column = p.column; has_tab = p.has_tab; brackets = p.brackets }

-- the token that a word makes, where it makes one, and the place after the word
abbrev pub laid_of : Option Token × code.Place → List tokens.Token × Place
laid_of r = (option_to_list (option_map token_of r.0), place_of r.1)

-- an entry of a table of keywords
abbrev pub entry_of : Bor (List ℕ) × Keyword → List ℕ × tokens.Keyword
entry_of e = (e.0.now, keyword_of e.1)
