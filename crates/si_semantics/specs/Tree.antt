-- Syntax trees (Python Language Reference 3.14, 6 to 8).
use Rattle.std.specs.Prelude.{ℕ, ◌+◌, List, [], ◌∷◌, ◌++◌, Option, Some, None}
use Rattle.si_plain.specs.declared.modules.ModuleName.{ModuleName}
use Rattle.si_semantics.specs.Value.{Text, Value}
-- the operators: between two operands (6.5, 6.7 to 6.9), before one (6.6, 6.11), of a comparison (6.10), and `and` and `or`
-- (6.11)
pub use Rattle.si_plain.specs.declared.operators.BinaryOperator.{BinaryOperator}
pub use Rattle.si_plain.specs.declared.operators.BinaryOperator.TheVariants.{Add, Subtract, Multiply, FloorDivide, Modulo, Power, BitOr, BitXor, BitAnd, ShiftLeft, ShiftRight}
pub use Rattle.si_plain.specs.declared.operators.UnaryOperator.{UnaryOperator}
pub use Rattle.si_plain.specs.declared.operators.UnaryOperator.TheVariants.{Plus, Minus, Invert, Not}
pub use Rattle.si_plain.specs.declared.operators.ComparisonOperator.{ComparisonOperator}
pub use Rattle.si_plain.specs.declared.operators.ComparisonOperator.TheVariants.{Less, Greater, LessEqual, GreaterEqual, Equal, NotEqual, Is, IsNot, In, NotIn}
pub use Rattle.si_plain.specs.declared.operators.BooleanOperator.{BooleanOperator}
pub use Rattle.si_plain.specs.declared.operators.BooleanOperator.TheVariants.{And, Or}

mutual
  pub data Expr : Type 0 where
    -- a literal, by its value; True, False and None too
    Constant : Value → Expr
    Name : Text → Expr
    Unary : UnaryOperator → Expr → Expr
    Binary : BinaryOperator → Expr → Expr → Expr
    -- `object.NAME` (6.3.1)
    Attribute : Expr → Text → Expr
    -- a callee, its arguments, and the names of those that are passed by name, which stand after the others (6.3.3). Where
    -- an attribute is called, the callee is its object, and the name of the attribute stands beside it
    Call : Expr → Option Text → Exprs → List Text → Expr
    -- `object[index]`: the object, the index (6.3.2)
    Subscript : Expr → Expr → Expr
    -- a tuple of its items (6.2.4, 6.15)
    Tuple : Exprs → Expr
    -- a list of its items (6.2.5)
    ListDisplay : Exprs → Expr
    -- a dict of its keys and values by turns, each key before its value (6.2.7)
    DictDisplay : Exprs → Expr
    -- operands of `and` or of `or` in a row: the first, and the others, of which there is one at least (6.11)
    Boolean : BooleanOperator → Expr → Exprs → Expr
    -- a chain of comparisons: the first operand, and each operator with the operand after it (6.10)
    Compare : Expr → Comparisons → Expr
    -- `value if test else other`: the test, the value, the other (6.13)
    Conditional : Expr → Expr → Expr → Expr

  pub data Exprs : Type 0 where
    NoExprs : Exprs
    MoreExprs : Expr → Exprs → Exprs

  pub data Comparisons : Type 0 where
    NoComparisons : Comparisons
    MoreComparisons : ComparisonOperator → Expr → Comparisons → Comparisons

mutual
  -- what a statement binds (4.2.1, 7.2)
  pub data Target : Type 0 where
    Named : Text → Target
    -- `object[index]`: the object, the index
    Item : Expr → Expr → Target
    -- targets in a row, one for each item of what is bound
    Unpack : Targets → Target

  pub data Targets : Type 0 where
    NoTargets : Targets
    MoreTargets : Target → Targets → Targets

-- one target alone
abbrev pub only : Target → Targets
only t = MoreTargets t NoTargets

-- how many there are in a row
abbrev pub count_of_targets : Targets → ℕ
count_of_targets NoTargets = 0
count_of_targets (MoreTargets t ts) = count_of_targets ts + 1

-- what is called, as a callee and the name of an attribute of it, where an attribute is called
abbrev pub callee_of : Expr → Expr × Option Text
callee_of (Attribute a x) = (a, Some x)
callee_of f = (f, None)

mutual
  pub data Stmt : Type 0 where
    Evaluate : Expr → Stmt
    -- `target = .. = expr`, of one target or more (7.2)
    Assign : Targets → Expr → Stmt
    -- `NAME op= expr` (7.2.1)
    Augment : Text → BinaryOperator → Expr → Stmt
    -- `object[index] op= expr`: the object, the index, the expression (7.2.1)
    AugmentItem : Expr → Expr → BinaryOperator → Expr → Stmt
    -- `del object[index]` (7.5)
    Delete : Expr → Expr → Stmt
    Pass : Stmt
    -- the test, the suite, and the else suite; an `elif` is an `if` of its own in the else suite (8.1)
    If : Expr → Stmts → Stmts → Stmt
    -- the test, the suite, and the else suite (8.2)
    While : Expr → Stmts → Stmts → Stmt
    -- the target, what is gone over, the suite, and the else suite (8.3)
    For : Target → Expr → Stmts → Stmts → Stmt
    Break : Stmt
    Continue : Stmt
    -- `def NAME(parameters)` and its suite (8.7)
    Define : Text → List Text → Stmts → Stmt
    -- `return`, and its expression where there is one (7.6)
    Return : Option Expr → Stmt
    -- `global NAME, ..` (7.12)
    Global : List Text → Stmt
    -- `import threading`, or `from concurrent import interpreters` (7.11)
    Import : ModuleName → Stmt
    -- `raise`, and its expression where there is one (7.8)
    Raise : Option Expr → Stmt
    -- a `try` without a finally suite: the suite, the except clauses, and the else suite (8.4)
    Try : Stmts → Clauses → Stmts → Stmt
    -- a `try` with a finally suite, which stands last (8.4); there may be no clause
    Finally : Stmts → Clauses → Stmts → Stmts → Stmt

  pub data Stmts : Type 0 where
    NoStmts : Stmts
    MoreStmts : Stmt → Stmts → Stmts

  -- except clauses: each with its expression, or none, the name that it binds, or none, and its suite (8.4.1)
  pub data Clauses : Type 0 where
    NoClauses : Clauses
    MoreClauses : Option Expr → Option Text → Stmts → Clauses → Clauses

-- a function as it was read
pub record Function : Type 0 where
  pub name : Text
  pub parameters : List Text
  pub body : Stmts

-- a text as it was read
pub record Module : Type 0 where
  pub body : Stmts

abbrev mutual
  -- the functions that a statement defines, in the order in which they stand; a function's suite defines none (8.7)
  pub functions_of : Stmt → List Function
  functions_of (Define f ps b) = record { name = f; parameters = ps; body = b } ∷ []
  functions_of (If a b c) = functions_in b ++ functions_in c
  functions_of (While a b c) = functions_in b ++ functions_in c
  functions_of (For t a b c) = functions_in b ++ functions_in c
  functions_of (Try b cs c) = functions_in b ++ (functions_in_clauses cs ++ functions_in c)
  functions_of (Finally b cs c f) = functions_in b ++ (functions_in_clauses cs ++ (functions_in c ++ functions_in f))
  functions_of _ = []

  -- those of statements in a row
  pub functions_in : Stmts → List Function
  functions_in NoStmts = []
  functions_in (MoreStmts a b) = functions_of a ++ functions_in b

  -- those of except clauses
  pub functions_in_clauses : Clauses → List Function
  functions_in_clauses NoClauses = []
  functions_in_clauses (MoreClauses a y b cs) = functions_in b ++ functions_in_clauses cs
