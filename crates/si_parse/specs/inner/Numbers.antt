-- The numbers of operators, of delimiters and of keywords, by which two of them are compared. A device: they stand for no order.
use Rattle.std.specs.Prelude.{ℕ, nat_eq, Bool}
use Rattle.si_semantics.specs.Tokens.{Symbol, Keyword}
use Rattle.si_semantics.specs.Tokens as token

abbrev pub symbol_number : Symbol → ℕ
symbol_number token.Plus = 0
symbol_number token.Minus = 1
symbol_number token.Star = 2
symbol_number token.DoubleStar = 3
symbol_number token.DoubleSlash = 4
symbol_number token.Percent = 5
symbol_number token.Ampersand = 6
symbol_number token.Bar = 7
symbol_number token.Caret = 8
symbol_number token.Tilde = 9
symbol_number token.LeftShift = 10
symbol_number token.RightShift = 11
symbol_number token.Less = 12
symbol_number token.Greater = 13
symbol_number token.LessEqual = 14
symbol_number token.GreaterEqual = 15
symbol_number token.EqualEqual = 16
symbol_number token.NotEqual = 17
symbol_number token.Equal = 18
symbol_number token.PlusEqual = 19
symbol_number token.MinusEqual = 20
symbol_number token.StarEqual = 21
symbol_number token.DoubleStarEqual = 22
symbol_number token.DoubleSlashEqual = 23
symbol_number token.PercentEqual = 24
symbol_number token.AmpersandEqual = 25
symbol_number token.BarEqual = 26
symbol_number token.CaretEqual = 27
symbol_number token.LeftShiftEqual = 28
symbol_number token.RightShiftEqual = 29
symbol_number token.LeftParenthesis = 30
symbol_number token.RightParenthesis = 31
symbol_number token.LeftBracket = 32
symbol_number token.RightBracket = 33
symbol_number token.LeftBrace = 34
symbol_number token.RightBrace = 35
symbol_number token.Comma = 36
symbol_number token.Colon = 37
symbol_number token.Dot = 38
symbol_number token.Semicolon = 39

abbrev pub keyword_number : Keyword → ℕ
keyword_number token.FalseWord = 0
keyword_number token.NoneWord = 1
keyword_number token.TrueWord = 2
keyword_number token.AndWord = 3
keyword_number token.AsWord = 4
keyword_number token.AssertWord = 5
keyword_number token.AsyncWord = 6
keyword_number token.AwaitWord = 7
keyword_number token.BreakWord = 8
keyword_number token.ClassWord = 9
keyword_number token.ContinueWord = 10
keyword_number token.DefWord = 11
keyword_number token.DelWord = 12
keyword_number token.ElifWord = 13
keyword_number token.ElseWord = 14
keyword_number token.ExceptWord = 15
keyword_number token.FinallyWord = 16
keyword_number token.ForWord = 17
keyword_number token.FromWord = 18
keyword_number token.GlobalWord = 19
keyword_number token.IfWord = 20
keyword_number token.ImportWord = 21
keyword_number token.InWord = 22
keyword_number token.IsWord = 23
keyword_number token.LambdaWord = 24
keyword_number token.NonlocalWord = 25
keyword_number token.NotWord = 26
keyword_number token.OrWord = 27
keyword_number token.PassWord = 28
keyword_number token.RaiseWord = 29
keyword_number token.ReturnWord = 30
keyword_number token.TryWord = 31
keyword_number token.WhileWord = 32
keyword_number token.WithWord = 33
keyword_number token.YieldWord = 34

-- two symbols are one
abbrev pub same_symbol : Symbol → Symbol → Bool
same_symbol s t = nat_eq (symbol_number s) (symbol_number t)

-- two keywords are one
abbrev pub same_keyword : Keyword → Keyword → Bool
same_keyword v w = nat_eq (keyword_number v) (keyword_number w)
