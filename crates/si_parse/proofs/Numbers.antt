-- Two symbols or keywords are one exactly where their numbers are.
use Rattle.std.proofs.Common.{◌≡◌, List, [], ◌∷◌, Bool, true, false, Some, refl, sym, ap, ◌∙◌}
use Rattle.std.specs.Prelude.{slice_get}
use Rattle.std.proofs.lemmas.Bool.{eq-eqb, eqb-true}
use Rattle.si_token.specs.declared.token.Symbol.{Symbol}
use Rattle.si_token.specs.declared.token.Symbol.TheVariants as symbol
use Rattle.si_token.specs.declared.token.Keyword.{Keyword}
use Rattle.si_token.specs.declared.token.Keyword.TheVariants as keyword
use Rattle.si_token.specs.Views.{symbol_of, keyword_of}
use Rattle.si_parse.specs.inner.Numbers.{symbol_number, keyword_number, same_symbol, same_keyword}

symbols : List Symbol
symbols =
    symbol.Plus ∷ symbol.Minus ∷ symbol.Star ∷ symbol.DoubleStar ∷ symbol.DoubleSlash ∷ symbol.Percent
    ∷ symbol.Ampersand ∷ symbol.Bar ∷ symbol.Caret ∷ symbol.Tilde ∷ symbol.LeftShift ∷ symbol.RightShift
    ∷ symbol.Less ∷ symbol.Greater ∷ symbol.LessEqual ∷ symbol.GreaterEqual ∷ symbol.EqualEqual ∷ symbol.NotEqual
    ∷ symbol.Equal ∷ symbol.PlusEqual ∷ symbol.MinusEqual ∷ symbol.StarEqual ∷ symbol.DoubleStarEqual
    ∷ symbol.DoubleSlashEqual ∷ symbol.PercentEqual ∷ symbol.AmpersandEqual ∷ symbol.BarEqual ∷ symbol.CaretEqual
    ∷ symbol.LeftShiftEqual ∷ symbol.RightShiftEqual ∷ symbol.LeftParenthesis ∷ symbol.RightParenthesis
    ∷ symbol.LeftBracket ∷ symbol.RightBracket ∷ symbol.LeftBrace ∷ symbol.RightBrace ∷ symbol.Comma ∷ symbol.Colon
    ∷ symbol.Dot ∷ symbol.Semicolon ∷ []

symbol_at_number : (s : Symbol) → slice_get symbols (symbol_number (symbol_of s)) ≡ Some s
unfolding symbols
symbol_at_number symbol.Plus = refl
symbol_at_number symbol.Minus = refl
symbol_at_number symbol.Star = refl
symbol_at_number symbol.DoubleStar = refl
symbol_at_number symbol.DoubleSlash = refl
symbol_at_number symbol.Percent = refl
symbol_at_number symbol.Ampersand = refl
symbol_at_number symbol.Bar = refl
symbol_at_number symbol.Caret = refl
symbol_at_number symbol.Tilde = refl
symbol_at_number symbol.LeftShift = refl
symbol_at_number symbol.RightShift = refl
symbol_at_number symbol.Less = refl
symbol_at_number symbol.Greater = refl
symbol_at_number symbol.LessEqual = refl
symbol_at_number symbol.GreaterEqual = refl
symbol_at_number symbol.EqualEqual = refl
symbol_at_number symbol.NotEqual = refl
symbol_at_number symbol.Equal = refl
symbol_at_number symbol.PlusEqual = refl
symbol_at_number symbol.MinusEqual = refl
symbol_at_number symbol.StarEqual = refl
symbol_at_number symbol.DoubleStarEqual = refl
symbol_at_number symbol.DoubleSlashEqual = refl
symbol_at_number symbol.PercentEqual = refl
symbol_at_number symbol.AmpersandEqual = refl
symbol_at_number symbol.BarEqual = refl
symbol_at_number symbol.CaretEqual = refl
symbol_at_number symbol.LeftShiftEqual = refl
symbol_at_number symbol.RightShiftEqual = refl
symbol_at_number symbol.LeftParenthesis = refl
symbol_at_number symbol.RightParenthesis = refl
symbol_at_number symbol.LeftBracket = refl
symbol_at_number symbol.RightBracket = refl
symbol_at_number symbol.LeftBrace = refl
symbol_at_number symbol.RightBrace = refl
symbol_at_number symbol.Comma = refl
symbol_at_number symbol.Colon = refl
symbol_at_number symbol.Dot = refl
symbol_at_number symbol.Semicolon = refl

keywords : List Keyword
keywords =
    keyword.False ∷ keyword.None ∷ keyword.True ∷ keyword.And ∷ keyword.As ∷ keyword.Assert ∷ keyword.Async
    ∷ keyword.Await ∷ keyword.Break ∷ keyword.Class ∷ keyword.Continue ∷ keyword.Def ∷ keyword.Del ∷ keyword.Elif
    ∷ keyword.Else ∷ keyword.Except ∷ keyword.Finally ∷ keyword.For ∷ keyword.From ∷ keyword.Global ∷ keyword.If
    ∷ keyword.Import ∷ keyword.In ∷ keyword.Is ∷ keyword.Lambda ∷ keyword.Nonlocal ∷ keyword.Not ∷ keyword.Or
    ∷ keyword.Pass ∷ keyword.Raise ∷ keyword.Return ∷ keyword.Try ∷ keyword.While ∷ keyword.With ∷ keyword.Yield ∷ []

keyword_at_number : (w : Keyword) → slice_get keywords (keyword_number (keyword_of w)) ≡ Some w
unfolding keywords
keyword_at_number keyword.False = refl
keyword_at_number keyword.None = refl
keyword_at_number keyword.True = refl
keyword_at_number keyword.And = refl
keyword_at_number keyword.As = refl
keyword_at_number keyword.Assert = refl
keyword_at_number keyword.Async = refl
keyword_at_number keyword.Await = refl
keyword_at_number keyword.Break = refl
keyword_at_number keyword.Class = refl
keyword_at_number keyword.Continue = refl
keyword_at_number keyword.Def = refl
keyword_at_number keyword.Del = refl
keyword_at_number keyword.Elif = refl
keyword_at_number keyword.Else = refl
keyword_at_number keyword.Except = refl
keyword_at_number keyword.Finally = refl
keyword_at_number keyword.For = refl
keyword_at_number keyword.From = refl
keyword_at_number keyword.Global = refl
keyword_at_number keyword.If = refl
keyword_at_number keyword.Import = refl
keyword_at_number keyword.In = refl
keyword_at_number keyword.Is = refl
keyword_at_number keyword.Lambda = refl
keyword_at_number keyword.Nonlocal = refl
keyword_at_number keyword.Not = refl
keyword_at_number keyword.Or = refl
keyword_at_number keyword.Pass = refl
keyword_at_number keyword.Raise = refl
keyword_at_number keyword.Return = refl
keyword_at_number keyword.Try = refl
keyword_at_number keyword.While = refl
keyword_at_number keyword.With = refl
keyword_at_number keyword.Yield = refl

some_is : {A : Type 0} (a b : A) → Some a ≡ Some b → a ≡ b
some_is a b e = cc

symbol_is : (s t : Symbol) → same_symbol (symbol_of s) (symbol_of t) ≡ true → s ≡ t
symbol_is s t e =
    some_is s t (sym (symbol_at_number s) ∙ ap (slice_get symbols) (eqb-true (symbol_number (symbol_of s)) (symbol_number (symbol_of t)) e) ∙ symbol_at_number t)

keyword_is : (v w : Keyword) → same_keyword (keyword_of v) (keyword_of w) ≡ true → v ≡ w
keyword_is v w e =
    some_is v w (sym (keyword_at_number v) ∙ ap (slice_get keywords) (eqb-true (keyword_number (keyword_of v)) (keyword_number (keyword_of w)) e) ∙ keyword_at_number w)

not_true : (b : Bool) → (b ≡ true → ⊥) → b ≡ false
not_true true h = absurd (h refl)
not_true false h = refl

pub symbols_same : (s t : Symbol) → s ≡ t → same_symbol (symbol_of s) (symbol_of t) ≡ true
symbols_same s t e = eq-eqb (symbol_number (symbol_of s)) (symbol_number (symbol_of t)) (ap (λ x. symbol_number (symbol_of x)) e)

pub symbols_differ : (s t : Symbol) → (s ≡ t → ⊥) → same_symbol (symbol_of s) (symbol_of t) ≡ false
symbols_differ s t h = not_true (same_symbol (symbol_of s) (symbol_of t)) (λ e. h (symbol_is s t e))

pub keywords_same : (v w : Keyword) → v ≡ w → same_keyword (keyword_of v) (keyword_of w) ≡ true
keywords_same v w e = eq-eqb (keyword_number (keyword_of v)) (keyword_number (keyword_of w)) (ap (λ x. keyword_number (keyword_of x)) e)

pub keywords_differ : (v w : Keyword) → (v ≡ w → ⊥) → same_keyword (keyword_of v) (keyword_of w) ≡ false
keywords_differ v w h = not_true (same_keyword (keyword_of v) (keyword_of w)) (λ e. h (keyword_is v w e))
