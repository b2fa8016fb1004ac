-- The grammar: which tokens derive which tree (Python Language Reference 3.14, 6, 7, 8 and 10).
-- Each rule stands in the line above its production, in the notation of the reference.
use Rattle.std.specs.Prelude.{codes, ◌≡◌, ℕ, zero, suc, ◌<◌, ◌≤◌, Bool, true, false, List, [], ◌∷◌, ◌++◌, length, map, flat_map, ◌⊎◌, Option, Some, None}
use Rattle.si_plain.specs.declared.modules.ModuleName.{ModuleName}
use Rattle.si_plain.specs.declared.modules.ModuleName.TheVariants.{Threading, Interpreters}
use Rattle.si_semantics.specs.Value.{Text, Nothing, Truth, Int, Str, Bytes, Provided, Function, Range, Tuple, Class, Module, Queue, Interpreter, Exec, Address}
use Rattle.si_semantics.specs.Tree.{BinaryOperator, UnaryOperator, ComparisonOperator, BooleanOperator, Expr, Exprs, Comparisons, Stmt, Target, Targets, Stmts, Clauses}
use Rattle.si_semantics.specs.Tree as tree
use Rattle.si_semantics.specs.Scope.{are_distinct}
use Rattle.si_semantics.specs.Text.{max_length}
use Rattle.si_semantics.specs.Tokens.{Symbol, Keyword, TokenKind, Token}
use Rattle.si_semantics.specs.Tokens as token
pub use Rattle.si_semantics.specs.Literals.{value_of_int, value_of_str, value_of_bytes}

-- ---- terminals

-- what the grammar sees of a token: of a name or a literal its text, and never where it stands
pub data Terminal : Type 0 where
  NAME : List ℕ → Terminal
  NUMBER : List ℕ → Terminal
  STRING : List ℕ → Terminal
  BYTES : List ℕ → Terminal
  Sign : Symbol → Terminal
  Word : Keyword → Terminal
  NEWLINE : Terminal
  INDENT : Terminal
  DEDENT : Terminal
  ENDMARKER : Terminal

abbrev pub terminal : TokenKind → List ℕ → Terminal
terminal token.Name text = NAME text
terminal token.Int text = NUMBER text
terminal token.Str text = STRING text
terminal token.Bytes text = BYTES text
terminal (token.Sign s) text = Sign s
terminal (token.Word w) text = Word w
terminal token.Newline text = NEWLINE
terminal token.Indent text = INDENT
terminal token.Dedent text = DEDENT
terminal token.End text = ENDMARKER

abbrev pub terminal_of : Token → Terminal
terminal_of t = terminal t.kind t.text

-- ---- precedence (6.17)

-- The levels of expressions, each named for its production, the loosest first: where one level is asked for, an expression
-- of that level or of a tighter one may stand. The numbers matter by their order alone.
abbrev pub expression_level : ℕ
expression_level = 1

abbrev pub disjunction_level : ℕ
disjunction_level = 3

abbrev pub conjunction_level : ℕ
conjunction_level = 5

abbrev pub inversion_level : ℕ
inversion_level = 7

abbrev pub comparison_level : ℕ
comparison_level = 8

abbrev pub bit_or_level : ℕ
bit_or_level = 10

abbrev pub bit_xor_level : ℕ
bit_xor_level = 11

abbrev pub bit_and_level : ℕ
bit_and_level = 12

abbrev pub shift_level : ℕ
shift_level = 13

abbrev pub sum_level : ℕ
sum_level = 14

abbrev pub term_level : ℕ
term_level = 15

abbrev pub factor_level : ℕ
factor_level = 16

abbrev pub power_level : ℕ
power_level = 17

abbrev pub primary_level : ℕ
primary_level = 18

-- the level of an operator between two operands: a tighter one has a higher level
abbrev pub level_of : BinaryOperator → ℕ
level_of tree.BitOr = bit_or_level
level_of tree.BitXor = bit_xor_level
level_of tree.BitAnd = bit_and_level
level_of tree.ShiftLeft = shift_level
level_of tree.ShiftRight = shift_level
level_of tree.Add = sum_level
level_of tree.Subtract = sum_level
level_of tree.Multiply = term_level
level_of tree.FloorDivide = term_level
level_of tree.Modulo = term_level
level_of tree.Power = power_level

-- the level that its left operand has at least
abbrev pub left_level : BinaryOperator → ℕ
left_level tree.BitOr = bit_or_level
left_level tree.BitXor = bit_xor_level
left_level tree.BitAnd = bit_and_level
left_level tree.ShiftLeft = shift_level
left_level tree.ShiftRight = shift_level
left_level tree.Add = sum_level
left_level tree.Subtract = sum_level
left_level tree.Multiply = term_level
left_level tree.FloorDivide = term_level
left_level tree.Modulo = term_level
left_level tree.Power = primary_level

-- the level that its right operand has at least
abbrev pub right_level : BinaryOperator → ℕ
right_level tree.BitOr = bit_xor_level
right_level tree.BitXor = bit_and_level
right_level tree.BitAnd = shift_level
right_level tree.ShiftLeft = sum_level
right_level tree.ShiftRight = sum_level
right_level tree.Add = term_level
right_level tree.Subtract = term_level
right_level tree.Multiply = factor_level
right_level tree.FloorDivide = factor_level
right_level tree.Modulo = factor_level
right_level tree.Power = factor_level

abbrev pub symbol_of : BinaryOperator → Symbol
symbol_of tree.BitOr = token.Bar
symbol_of tree.BitXor = token.Caret
symbol_of tree.BitAnd = token.Ampersand
symbol_of tree.ShiftLeft = token.LeftShift
symbol_of tree.ShiftRight = token.RightShift
symbol_of tree.Add = token.Plus
symbol_of tree.Subtract = token.Minus
symbol_of tree.Multiply = token.Star
symbol_of tree.FloorDivide = token.DoubleSlash
symbol_of tree.Modulo = token.Percent
symbol_of tree.Power = token.DoubleStar

-- the level of an operator before its operand, which has the same level at least
abbrev pub prefix_level : UnaryOperator → ℕ
prefix_level tree.Plus = factor_level
prefix_level tree.Minus = factor_level
prefix_level tree.Invert = factor_level
prefix_level tree.Not = inversion_level

abbrev pub prefix_of : UnaryOperator → Terminal
prefix_of tree.Plus = Sign token.Plus
prefix_of tree.Minus = Sign token.Minus
prefix_of tree.Invert = Sign token.Tilde
prefix_of tree.Not = Word token.NotWord

-- the level of operands with `and`, or with `or`, between them
abbrev pub boolean_level : BooleanOperator → ℕ
boolean_level tree.Or = disjunction_level
boolean_level tree.And = conjunction_level

-- the level that each of the operands has at least
abbrev pub item_level : BooleanOperator → ℕ
item_level tree.Or = conjunction_level
item_level tree.And = inversion_level

abbrev pub word_of : BooleanOperator → Keyword
word_of tree.Or = token.OrWord
word_of tree.And = token.AndWord

abbrev pub comparison_of : ComparisonOperator → List Terminal
comparison_of tree.Less = Sign token.Less ∷ []
comparison_of tree.Greater = Sign token.Greater ∷ []
comparison_of tree.LessEqual = Sign token.LessEqual ∷ []
comparison_of tree.GreaterEqual = Sign token.GreaterEqual ∷ []
comparison_of tree.Equal = Sign token.EqualEqual ∷ []
comparison_of tree.NotEqual = Sign token.NotEqual ∷ []
comparison_of tree.Is = Word token.IsWord ∷ []
comparison_of tree.IsNot = Word token.IsWord ∷ (Word token.NotWord ∷ [])
comparison_of tree.In = Word token.InWord ∷ []
comparison_of tree.NotIn = Word token.NotWord ∷ (Word token.InWord ∷ [])

abbrev pub is_identity : ComparisonOperator → Bool
is_identity tree.Is = true
is_identity tree.IsNot = true
is_identity _ = false

abbrev pub truth_word : Bool → Keyword
truth_word true = token.TrueWord
truth_word false = token.FalseWord

-- ---- lists of items

-- one after the other
abbrev pub Many : {A : Type 0} → (A → List Terminal → Type 0) → List A → List Terminal → Type 0
Many I [] ts = ts ≡ []
Many I (x ∷ xs) ts = (f : List Terminal) × (g : List Terminal) × (ts ≡ f ++ g) × I x f × Many I xs g

-- an item after a terminal
abbrev pub After : {A : Type 0} → Terminal → (A → List Terminal → Type 0) → A → List Terminal → Type 0
After t I x ts = (f : List Terminal) × (ts ≡ t ∷ f) × I x f

-- an item in front of a terminal
abbrev pub Ahead : {A : Type 0} → (A → List Terminal → Type 0) → Terminal → A → List Terminal → Type 0
Ahead I t x ts = (f : List Terminal) × (ts ≡ f ++ t ∷ []) × I x f

-- { separator item } [separator]
abbrev pub Following : {A : Type 0} → (A → List Terminal → Type 0) → Symbol → List A → List Terminal → Type 0
Following I s [] ts = (ts ≡ []) ⊎ (ts ≡ Sign s ∷ [])
Following I s (x ∷ xs) ts = (f : List Terminal) × (g : List Terminal) × (ts ≡ Sign s ∷ (f ++ g)) × I x f × Following I s xs g

-- [ item { separator item } [separator] ]
abbrev pub Separated : {A : Type 0} → (A → List Terminal → Type 0) → Symbol → List A → List Terminal → Type 0
Separated I s [] ts = ts ≡ []
Separated I s (x ∷ xs) ts = (f : List Terminal) × (g : List Terminal) × (ts ≡ f ++ g) × I x f × Following I s xs g

-- [ item separator | item separator item { separator item } [separator] ]: an only item has a separator after it
abbrev pub Ended : {A : Type 0} → (A → List Terminal → Type 0) → Symbol → List A → List Terminal → Type 0
Ended I s [] ts = ts ≡ []
Ended I s (x ∷ []) ts = (f : List Terminal) × (ts ≡ f ++ Sign s ∷ []) × I x f
Ended I s (x ∷ y ∷ xs) ts = Separated I s (x ∷ y ∷ xs) ts

-- ---- expressions

-- Which tokens spell a tree where an expression of a level or a tighter one may stand.
abbrev pub Language : Type 1
Language = ℕ → Expr → List Terminal → Type 0

abbrev pub items_of : Exprs → List Expr
items_of tree.NoExprs = []
items_of (tree.MoreExprs e es) = e ∷ items_of es

abbrev pub exprs_of : List Expr → Exprs
exprs_of [] = tree.NoExprs
exprs_of (e ∷ es) = tree.MoreExprs e (exprs_of es)

-- an operator of a comparison, and the operand after it
abbrev pub Link : Type 0
Link = ComparisonOperator × Expr

abbrev pub links_of : Comparisons → List Link
links_of tree.NoComparisons = []
links_of (tree.MoreComparisons op e cs) = (op, e) ∷ links_of cs

abbrev pub chain_of : List Link → Comparisons
chain_of [] = tree.NoComparisons
chain_of (link ∷ links) = tree.MoreComparisons link.0 link.1 (chain_of links)

-- comparator: ('<' | '>' | '<=' | '>=' | '==' | '!=' | ['not'] 'in') bitor | 'is' ['not'] ('None' | 'True' | 'False')
-- What stands after `is` is one word, which is a choice of this project.
abbrev pub Compares : Language → Link → List Terminal → Type 0
Compares E link ts =
    (f : List Terminal) × (ts ≡ comparison_of link.0 ++ f) × E bit_or_level link.1 f × (is_identity link.0 ≡ true → (w : Keyword) × (f ≡ Word w ∷ []))

-- the text of str literals beside each other (6.2.3.2, "String literal concatenation")
abbrev pub Strings : Text → List Terminal → Type 0
Strings s [] = s ≡ []
Strings s (STRING literal ∷ ts) = (a : Text) × (b : Text) × (s ≡ a ++ b) × (value_of_str literal ≡ Some a) × Strings b ts
Strings s (_ ∷ ts) = ⊥

-- the bytes of bytes literals beside each other (6.2.3.2)
abbrev pub Octets : List ℕ → List Terminal → Type 0
Octets bs [] = bs ≡ []
Octets bs (BYTES literal ∷ ts) = (a : List ℕ) × (b : List ℕ) × (bs ≡ a ++ b) × (value_of_bytes literal ≡ Some a) × Octets b ts
Octets bs (_ ∷ ts) = ⊥

-- pair: expression ':' expression
abbrev pub PairsOf : Language → Expr × Expr → List Terminal → Type 0
PairsOf E p ts = (f : List Terminal) × (g : List Terminal) × (ts ≡ f ++ Sign token.Colon ∷ g) × E expression_level p.0 f × E expression_level p.1 g

-- an argument of a call: an expression, or a name and the expression that is passed by it
pub data Argument : Type 0 where
  Positional : Expr → Argument
  ByName : Text → Expr → Argument

-- argument: expression | NAME '=' expression
abbrev pub Passes : Language → Argument → List Terminal → Type 0
Passes E (Positional e) ts = E expression_level e ts
Passes E (ByName x e) ts = (f : List Terminal) × (ts ≡ NAME x ∷ (Sign token.Equal ∷ f)) × E expression_level e f

-- the arguments of a call: those that are passed by name stand after the others, and no name comes twice
pub record IsPassed (arguments : List Argument) (values : List Expr) (names : List Text) : Type 0 where
  pub positional : List Expr
  pub named : List (Text × Expr)
  pub in_order : arguments ≡ map Positional positional ++ map (λ p. ByName p.0 p.1) named
  pub values_are : values ≡ positional ++ map (λ p. p.1) named
  pub names_are : names ≡ map (λ p. p.0) named
  pub once : are_distinct names ≡ true

-- one production for each kind of tree, over the language of the parts
abbrev pub Produces : Language → Language
-- atom: NAME | NUMBER | STRING+ | BYTES+ | 'None' | 'True' | 'False'
-- The text of str literals beside each other is no longer than a str may be, and no more are the bytes of bytes literals,
-- which is a choice of this project.
Produces E l (tree.Name x) ts = ts ≡ NAME x ∷ []
Produces E l (tree.Constant (Int n)) ts = (digits : List ℕ) × (ts ≡ NUMBER digits ∷ []) × (value_of_int digits ≡ Some n)
Produces E l (tree.Constant (Str s)) ts = (0 < length ts) × (length s ≤ max_length) × Strings s ts
Produces E l (tree.Constant (Bytes bs)) ts = (0 < length ts) × (length bs ≤ max_length) × Octets bs ts
Produces E l (tree.Constant Nothing) ts = ts ≡ Word token.NoneWord ∷ []
Produces E l (tree.Constant (Truth b)) ts = ts ≡ Word (truth_word b) ∷ []
Produces E l (tree.Constant (Provided b)) ts = ⊥
Produces E l (tree.Constant (Function x k)) ts = ⊥
Produces E l (tree.Constant (Range a b c)) ts = ⊥
Produces E l (tree.Constant (Tuple vs)) ts = ⊥
Produces E l (tree.Constant (Class k)) ts = ⊥
Produces E l (tree.Constant (Module m)) ts = ⊥
Produces E l (tree.Constant (Queue q m)) ts = ⊥
Produces E l (tree.Constant (Interpreter i)) ts = ⊥
Produces E l (tree.Constant (Exec i)) ts = ⊥
Produces E l (tree.Constant (Address x)) ts = ⊥
-- factor: ('+' | '-' | '~') factor; inversion: 'not' inversion
Produces E l (tree.Unary op a) ts = (f : List Terminal) × (ts ≡ prefix_of op ∷ f) × (l ≤ prefix_level op) × E (prefix_level op) a f
-- bitor: bitor '|' bitxor; bitxor: bitxor '^' bitand; bitand: bitand '&' shift; shift: shift ('<<' | '>>') sum;
-- sum: sum ('+' | '-') term; term: term ('*' | '//' | '%') factor; power: primary '**' factor
Produces E l (tree.Binary op a b) ts =
    (f : List Terminal) × (g : List Terminal) × (ts ≡ f ++ Sign (symbol_of op) ∷ g) × (l ≤ level_of op) × E (left_level op) a f × E (right_level op) b g
-- primary: primary '.' NAME
Produces E l (tree.Attribute a x) ts =
    (f : List Terminal) × (ts ≡ f ++ Sign token.Dot ∷ (NAME x ∷ [])) × (l ≤ primary_level) × E primary_level a f
-- | primary '(' [ argument { ',' argument } [','] ] ')'
-- Where the primary is an attribute, its object is the callee, and the name of the attribute stands beside it.
Produces E l (tree.Call a x args names) ts =
    (f : List Terminal) × (g : List Terminal) × (primary : Expr) × (arguments : List Argument)
    × (ts ≡ f ++ Sign token.LeftParenthesis ∷ (g ++ Sign token.RightParenthesis ∷ [])) × (l ≤ primary_level)
    × E primary_level primary f × (tree.callee_of primary ≡ (a, x))
    × IsPassed arguments (items_of args) names × Separated (Passes E) token.Comma arguments g
-- | primary '[' expression ']'
Produces E l (tree.Subscript a b) ts =
    (f : List Terminal) × (g : List Terminal)
    × (ts ≡ f ++ Sign token.LeftBracket ∷ (g ++ Sign token.RightBracket ∷ [])) × (l ≤ primary_level) × E primary_level a f × E expression_level b g
-- atom: '[' [ expression { ',' expression } [','] ] ']'
Produces E l (tree.ListDisplay items) ts =
    (f : List Terminal) × (ts ≡ Sign token.LeftBracket ∷ (f ++ Sign token.RightBracket ∷ [])) × Separated (E expression_level) token.Comma (items_of items) f
-- atom: '{' [ pair { ',' pair } [','] ] '}'
Produces E l (tree.DictDisplay items) ts =
    (pairs : List (Expr × Expr)) × (f : List Terminal) × (ts ≡ Sign token.LeftBrace ∷ (f ++ Sign token.RightBrace ∷ []))
    × (items_of items ≡ flat_map (λ p. p.0 ∷ p.1 ∷ []) pairs) × Separated (PairsOf E) token.Comma pairs f
-- atom: '(' [ expression ',' | expression ',' expression { ',' expression } [','] ] ')'
Produces E l (tree.Tuple items) ts =
    (f : List Terminal) × (ts ≡ Sign token.LeftParenthesis ∷ (f ++ Sign token.RightParenthesis ∷ [])) × Ended (E expression_level) token.Comma (items_of items) f
-- comparison: bitor comparator { comparator }
Produces E l (tree.Compare a cs) ts =
    (f : List Terminal) × (g : List Terminal) × (ts ≡ f ++ g) × (l ≤ comparison_level) × E bit_or_level a f × (0 < length (links_of cs)) × Many (Compares E) (links_of cs) g
-- conjunction: inversion 'and' inversion { 'and' inversion };
-- disjunction: conjunction 'or' conjunction { 'or' conjunction }
Produces E l (tree.Boolean op a others) ts =
    (f : List Terminal) × (g : List Terminal) × (ts ≡ f ++ g) × (l ≤ boolean_level op) × E (item_level op) a f
    × (0 < length (items_of others)) × Many (After (Word (word_of op)) (E (item_level op))) (items_of others) g
-- expression: disjunction 'if' disjunction 'else' expression
Produces E l (tree.Conditional test value other) ts =
    (f : List Terminal) × (g : List Terminal) × (h : List Terminal) × (ts ≡ f ++ Word token.IfWord ∷ (g ++ Word token.ElseWord ∷ h)) × (l ≤ expression_level)
    × E disjunction_level value f × E disjunction_level test g × E expression_level other h

-- The tokens of a tree of at most this depth, where an expression of level l may stand.
-- group: '(' expression ')'. It makes no node, and adds 1 to the depth.
abbrev pub Spells : ℕ → Language
Spells zero l e ts = ⊥
Spells (suc n) l e ts =
    Produces (Spells n) l e ts ⊎ ((f : List Terminal) × (ts ≡ Sign token.LeftParenthesis ∷ (f ++ Sign token.RightParenthesis ∷ [])) × Spells n expression_level e f)

-- the greatest depth of an expression (this project's own)
abbrev pub max_depth : ℕ
max_depth = 100

abbrev pub IsExpression : Expr → List Terminal → Type 0
IsExpression = Spells max_depth expression_level

-- the greatest depth of an item of a tuple round which no brackets stand: the tuple has 1 more, as with brackets
abbrev pub max_item_depth : ℕ
max_item_depth = 99

-- expressions: expression | expression ',' | expression ',' expression { ',' expression } [','] (6.16)
-- A comma makes a tuple; it is never empty where no brackets stand round it.
abbrev pub IsExpressions : Expr → List Terminal → Type 0
IsExpressions e ts =
    IsExpression e ts
    ⊎ ((items : List Expr) × (e ≡ tree.Tuple (exprs_of items)) × (0 < length items) × Ended (Spells max_item_depth expression_level) token.Comma items ts)

-- ---- statements

-- targets that are unpacked: one at least
abbrev pub unpack_of : Option Targets → Option Target
unpack_of (Some (tree.MoreTargets t ts)) = Some (tree.Unpack (tree.MoreTargets t ts))
unpack_of _ = None

-- a target and those after it, where all are targets
abbrev pub more_targets : Option Target → Option Targets → Option Targets
more_targets (Some t) (Some ts) = Some (tree.MoreTargets t ts)
more_targets _ _ = None

-- the sign of an augmented assignment
abbrev pub augmented_of : BinaryOperator → Symbol
augmented_of tree.BitOr = token.BarEqual
augmented_of tree.BitXor = token.CaretEqual
augmented_of tree.BitAnd = token.AmpersandEqual
augmented_of tree.ShiftLeft = token.LeftShiftEqual
augmented_of tree.ShiftRight = token.RightShiftEqual
augmented_of tree.Add = token.PlusEqual
augmented_of tree.Subtract = token.MinusEqual
augmented_of tree.Multiply = token.StarEqual
augmented_of tree.FloorDivide = token.DoubleSlashEqual
augmented_of tree.Modulo = token.PercentEqual
augmented_of tree.Power = token.DoubleStarEqual

-- a name
abbrev pub IsName : Text → List Terminal → Type 0
IsName x ts = ts ≡ NAME x ∷ []

abbrev mutual
  -- which expression is which target: a name, a subscription, and a tuple or a list of targets that has one at least, which is
  -- unpacked (7.2; that `()` and `[]` are none is this project's own)
  pub target_of : Expr → Option Target
  target_of (tree.Name x) = Some (tree.Named x)
  target_of (tree.Subscript a b) = Some (tree.Item a b)
  target_of (tree.Tuple items) = unpack_of (targets_of items)
  target_of (tree.ListDisplay items) = unpack_of (targets_of items)
  target_of _ = None

  -- those of expressions in a row, where each is a target
  pub targets_of : Exprs → Option Targets
  targets_of tree.NoExprs = Some tree.NoTargets
  targets_of (tree.MoreExprs e es) = more_targets (target_of e) (targets_of es)

-- target: expressions, where they are a target; brackets round it make no node
abbrev pub IsTarget : Target → List Terminal → Type 0
IsTarget t ts = (e : Expr) × (target_of e ≡ Some t) × IsExpressions e ts

-- target of a `for`: primary | primary ',' | primary ',' primary { ',' primary } [',']
abbrev pub IsForTarget : Target → List Terminal → Type 0
IsForTarget t ts =
    (e : Expr) × (target_of e ≡ Some t)
    × (Spells max_depth primary_level e ts
    ⊎ ((items : List Expr) × (e ≡ tree.Tuple (exprs_of items)) × (0 < length items) × Ended (Spells max_item_depth primary_level) token.Comma items ts))

-- { target '=' }, of one target at least
abbrev pub Targeted : Targets → List Terminal → Type 0
Targeted tree.NoTargets ts = ⊥
Targeted (tree.MoreTargets t tree.NoTargets) ts = Ahead IsTarget (Sign token.Equal) t ts
Targeted (tree.MoreTargets t (tree.MoreTargets u us)) ts =
    (f : List Terminal) × (g : List Terminal) × (ts ≡ f ++ g) × Ahead IsTarget (Sign token.Equal) t f × Targeted (tree.MoreTargets u us) g

-- NAME { ',' NAME }
abbrev pub Names : List Text → List Terminal → Type 0
Names [] ts = ⊥
Names (x ∷ xs) ts = (f : List Terminal) × (ts ≡ NAME x ∷ f) × Many (After (Sign token.Comma) IsName) xs f

-- 'import' 'threading' | 'from' 'concurrent' 'import' 'interpreters'
abbrev pub import_of : ModuleName → List Terminal
import_of Threading = Word token.ImportWord ∷ (NAME (codes "threading") ∷ [])
import_of Interpreters = Word token.FromWord ∷ (NAME (codes "concurrent") ∷ (Word token.ImportWord ∷ (NAME (codes "interpreters") ∷ [])))

-- small: expressions | target '=' { target '=' } expressions | target augmented expressions, where the target is a name or a
-- subscription | 'del' primary, which is a subscription | 'pass' | 'break' | 'continue' | 'return' [expressions]
-- | 'global' NAME { ',' NAME } | 'raise' [expression] | import
abbrev pub Small : Stmt → List Terminal → Type 0
Small (tree.Evaluate e) ts = IsExpressions e ts
Small (tree.Assign targets e) ts = (f : List Terminal) × (g : List Terminal) × (ts ≡ f ++ g) × Targeted targets f × IsExpressions e g
Small (tree.Augment x op e) ts =
    (f : List Terminal) × (g : List Terminal) × (ts ≡ f ++ Sign (augmented_of op) ∷ g) × IsTarget (tree.Named x) f × IsExpressions e g
Small (tree.AugmentItem a b op e) ts =
    (f : List Terminal) × (g : List Terminal) × (ts ≡ f ++ Sign (augmented_of op) ∷ g) × IsTarget (tree.Item a b) f × IsExpressions e g
Small (tree.Delete a b) ts = After (Word token.DelWord) (Spells max_depth primary_level) (tree.Subscript a b) ts
Small tree.Pass ts = ts ≡ Word token.PassWord ∷ []
Small tree.Break ts = ts ≡ Word token.BreakWord ∷ []
Small tree.Continue ts = ts ≡ Word token.ContinueWord ∷ []
Small (tree.Return None) ts = ts ≡ Word token.ReturnWord ∷ []
Small (tree.Return (Some e)) ts = After (Word token.ReturnWord) IsExpressions e ts
Small (tree.Global xs) ts = After (Word token.GlobalWord) Names xs ts
Small (tree.Import m) ts = ts ≡ import_of m
Small (tree.Raise None) ts = ts ≡ Word token.RaiseWord ∷ []
Small (tree.Raise (Some e)) ts = After (Word token.RaiseWord) IsExpression e ts
Small (tree.Define x ps body) ts = ⊥
Small (tree.If test body other) ts = ⊥
Small (tree.While test body other) ts = ⊥
Small (tree.For t over body other) ts = ⊥
Small (tree.Try body cs other) ts = ⊥
Small (tree.Finally body cs other last) ts = ⊥

-- simple: small { ';' small } [';'] NEWLINE
abbrev pub Simple : List Stmt → List Terminal → Type 0
Simple ss ts = (f : List Terminal) × (ts ≡ f ++ NEWLINE ∷ []) × (0 < length ss) × Separated Small token.Semicolon ss f

abbrev pub stmts_of : List Stmt → Stmts
stmts_of [] = tree.NoStmts
stmts_of (s ∷ ss) = tree.MoreStmts s (stmts_of ss)

-- Which tokens spell the statements of a line, or a compound statement.
abbrev pub Lines : Type 1
Lines = List Stmt → List Terminal → Type 0

-- { line }
abbrev pub Block : Lines → Stmts → List Terminal → Type 0
Block L body ts = (lines : List (List Stmt)) × (body ≡ stmts_of (flat_map (λ line. line) lines)) × Many L lines ts

-- suite: ':' simple | ':' NEWLINE INDENT line { line } DEDENT
abbrev pub Suite : Lines → Stmts → List Terminal → Type 0
Suite L body ts =
    ((ss : List Stmt) × (f : List Terminal) × (ts ≡ Sign token.Colon ∷ f) × (body ≡ stmts_of ss) × Simple ss f)
    ⊎ ((f : List Terminal) × (ts ≡ Sign token.Colon ∷ (NEWLINE ∷ (INDENT ∷ (f ++ DEDENT ∷ [])))) × (0 < length f) × Block L body f)

-- a test and the suite after it
abbrev pub Branch : Type 0
Branch = Expr × Stmts

-- expression suite
abbrev pub Tested : Lines → Branch → List Terminal → Type 0
Tested L b ts = (f : List Terminal) × (g : List Terminal) × (ts ≡ f ++ g) × IsExpression b.0 f × Suite L b.1 g

-- expressions suite
abbrev pub Over : Lines → Branch → List Terminal → Type 0
Over L b ts = (f : List Terminal) × (g : List Terminal) × (ts ≡ f ++ g) × IsExpressions b.0 f × Suite L b.1 g

-- ['else' suite]
abbrev pub Otherwise : Lines → Stmts → List Terminal → Type 0
Otherwise L body ts = ((body ≡ tree.NoStmts) × (ts ≡ [])) ⊎ After (Word token.ElseWord) (Suite L) body ts

-- an `elif` is an `if` of its own, alone in the else suite of the one before it
abbrev pub elifs_of : List Branch → Stmts → Stmts
elifs_of [] last = last
elifs_of (b ∷ more) last = tree.MoreStmts (tree.If b.0 b.1 (elifs_of more last)) tree.NoStmts

-- an except clause: its expression, or none, the name that it binds, or none, and its suite
abbrev pub Clause : Type 0
Clause = Option Expr × Option Text × Stmts

abbrev pub clauses_of : List Clause → Clauses
clauses_of [] = tree.NoClauses
clauses_of (c ∷ cs) = tree.MoreClauses c.0 c.1 c.2 (clauses_of cs)

abbrev pub clause_list : Clauses → List Clause
clause_list tree.NoClauses = []
clause_list (tree.MoreClauses a y b cs) = (a, y, b) ∷ clause_list cs

-- except: 'except' [ expression ['as' NAME] ] suite
abbrev pub Excepts : Lines → Clause → List Terminal → Type 0
Excepts L (None, None, body) ts = After (Word token.ExceptWord) (Suite L) body ts
Excepts L (None, Some y, body) ts = ⊥
Excepts L (Some e, None, body) ts = After (Word token.ExceptWord) (Tested L) (e, body) ts
Excepts L (Some e, Some y, body) ts =
    (f : List Terminal) × (g : List Terminal) × (ts ≡ Word token.ExceptWord ∷ (f ++ Word token.AsWord ∷ (NAME y ∷ g))) × IsExpression e f × Suite L body g

-- a bare `except` stands last (8.4.1)
abbrev pub bare_is_last : List Clause → Bool
bare_is_last [] = true
bare_is_last (c ∷ []) = true
bare_is_last ((None, y, b) ∷ d ∷ cs) = false
bare_is_last ((Some e, y, b) ∷ d ∷ cs) = bare_is_last (d ∷ cs)

-- { except } ['else' suite], the else suite after an except clause alone
abbrev pub Handlers : Lines → List Clause → Stmts → List Terminal → Type 0
Handlers L [] other ts = (other ≡ tree.NoStmts) × (ts ≡ [])
Handlers L (c ∷ cs) other ts =
    (f : List Terminal) × (g : List Terminal) × (ts ≡ f ++ g) × Many (Excepts L) (c ∷ cs) f × (bare_is_last (c ∷ cs) ≡ true) × Otherwise L other g

-- the most parameters of a function (this project's own)
abbrev pub max_parameters : ℕ
max_parameters = 255

abbrev pub Compound : Lines → Stmt → List Terminal → Type 0
-- if: 'if' expression suite { 'elif' expression suite } ['else' suite]
Compound L (tree.If test body other) ts =
    (elifs : List Branch) × (last : Stmts) × (f : List Terminal) × (g : List Terminal) × (h : List Terminal)
    × (ts ≡ Word token.IfWord ∷ (f ++ (g ++ h))) × (other ≡ elifs_of elifs last)
    × Tested L (test, body) f × Many (After (Word token.ElifWord) (Tested L)) elifs g × Otherwise L last h
-- while: 'while' expression suite ['else' suite]
Compound L (tree.While test body other) ts =
    (f : List Terminal) × (g : List Terminal) × (ts ≡ Word token.WhileWord ∷ (f ++ g)) × Tested L (test, body) f × Otherwise L other g
-- for: 'for' targets 'in' expressions suite ['else' suite]
Compound L (tree.For t over body other) ts =
    (f : List Terminal) × (g : List Terminal) × (h : List Terminal)
    × (ts ≡ Word token.ForWord ∷ (f ++ Word token.InWord ∷ (g ++ h))) × IsForTarget t f × Over L (over, body) g × Otherwise L other h
-- try: 'try' suite except { except } ['else' suite]
Compound L (tree.Try body cs other) ts =
    (f : List Terminal) × (g : List Terminal)
    × (ts ≡ Word token.TryWord ∷ (f ++ g)) × Suite L body f × (0 < length (clause_list cs)) × Handlers L (clause_list cs) other g
-- | 'try' suite { except } ['else' suite] 'finally' suite
Compound L (tree.Finally body cs other last) ts =
    (f : List Terminal) × (g : List Terminal) × (h : List Terminal)
    × (ts ≡ Word token.TryWord ∷ (f ++ (g ++ Word token.FinallyWord ∷ h))) × Suite L body f × Handlers L (clause_list cs) other g × Suite L last h
-- def: 'def' NAME '(' [ NAME { ',' NAME } [','] ] ')' suite
Compound L (tree.Define x ps body) ts =
    (f : List Terminal) × (g : List Terminal)
    × (ts ≡ Word token.DefWord ∷ (NAME x ∷ (Sign token.LeftParenthesis ∷ (f ++ Sign token.RightParenthesis ∷ g))))
    × Separated IsName token.Comma ps f × (length ps ≤ max_parameters) × Suite L body g
Compound L _ ts = ⊥

-- The tokens of a line, in which compound statements are nested this deep at most.
-- line: simple | if | while | for | try | def
abbrev pub Nests : ℕ → Lines
Nests zero ss ts = Simple ss ts
Nests (suc n) ss ts = Simple ss ts ⊎ ((s : Stmt) × (ss ≡ s ∷ []) × Compound (Nests n) s ts)

-- the greatest nesting of compound statements (this project's own); an `elif` nests no deeper
abbrev pub max_nesting : ℕ
max_nesting = 20

-- module: { line } ENDMARKER
abbrev pub Derives : Stmts → List Terminal → Type 0
Derives body ts = (f : List Terminal) × (ts ≡ f ++ ENDMARKER ∷ []) × Block (Nests max_nesting) body f
