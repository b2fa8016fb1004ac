-- Tokens (Python Language Reference 3.14, 2).
use Rattle.std.specs.Prelude.{ℕ, List}

-- an operator or a delimiter
pub data Symbol : Type 0 where
  Plus : Symbol
  Minus : Symbol
  Star : Symbol
  DoubleStar : Symbol
  DoubleSlash : Symbol
  Percent : Symbol
  Ampersand : Symbol
  Bar : Symbol
  Caret : Symbol
  Tilde : Symbol
  LeftShift : Symbol
  RightShift : Symbol
  Less : Symbol
  Greater : Symbol
  LessEqual : Symbol
  GreaterEqual : Symbol
  EqualEqual : Symbol
  NotEqual : Symbol
  Equal : Symbol
  PlusEqual : Symbol
  MinusEqual : Symbol
  StarEqual : Symbol
  DoubleStarEqual : Symbol
  DoubleSlashEqual : Symbol
  PercentEqual : Symbol
  AmpersandEqual : Symbol
  BarEqual : Symbol
  CaretEqual : Symbol
  LeftShiftEqual : Symbol
  RightShiftEqual : Symbol
  LeftParenthesis : Symbol
  RightParenthesis : Symbol
  LeftBracket : Symbol
  RightBracket : Symbol
  LeftBrace : Symbol
  RightBrace : Symbol
  Comma : Symbol
  Colon : Symbol
  Dot : Symbol
  Semicolon : Symbol

pub data Keyword : Type 0 where
  FalseWord : Keyword
  NoneWord : Keyword
  TrueWord : Keyword
  AndWord : Keyword
  AsWord : Keyword
  AssertWord : Keyword
  AsyncWord : Keyword
  AwaitWord : Keyword
  BreakWord : Keyword
  ClassWord : Keyword
  ContinueWord : Keyword
  DefWord : Keyword
  DelWord : Keyword
  ElifWord : Keyword
  ElseWord : Keyword
  ExceptWord : Keyword
  FinallyWord : Keyword
  ForWord : Keyword
  FromWord : Keyword
  GlobalWord : Keyword
  IfWord : Keyword
  ImportWord : Keyword
  InWord : Keyword
  IsWord : Keyword
  LambdaWord : Keyword
  NonlocalWord : Keyword
  NotWord : Keyword
  OrWord : Keyword
  PassWord : Keyword
  RaiseWord : Keyword
  ReturnWord : Keyword
  TryWord : Keyword
  WhileWord : Keyword
  WithWord : Keyword
  YieldWord : Keyword

pub data TokenKind : Type 0 where
  -- an identifier that is no keyword
  Name : TokenKind
  -- an integer literal
  Int : TokenKind
  -- a str literal, with its prefix and quotes
  Str : TokenKind
  -- a bytes literal, with its prefix and quotes
  Bytes : TokenKind
  Sign : Symbol → TokenKind
  Word : Keyword → TokenKind
  -- the end of a line that has tokens
  Newline : TokenKind
  Indent : TokenKind
  Dedent : TokenKind
  -- the end of the text
  End : TokenKind

-- a token: what it is, its bytes, and where they begin in the text
pub record Token : Type 0 where
  pub kind : TokenKind
  pub text : List ℕ
  pub start : ℕ
