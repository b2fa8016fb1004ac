-- Short forms of scripts, for worked cases.
use Rattle.std.specs.Prelude.{codes, ℕ, List, [], ◌∷◌, ◌++◌, Some, None}
use Rattle.si_semantics.specs.Value.{Text}
use Rattle.si_semantics.specs.Tree as tree
use Rattle.si_semantics.specs.Tree.{Expr, Stmt, Target, Targets, Clauses}
use Rattle.si_semantics.specs.Life.{Told, joined, texts_of}
use Rattle.si_semantics.specs.Report.{outcome_line}
use Rattle.si_semantics.specs.Worked.Straight.{int, str, arguments, suite, run_within, outcome}
use Rattle.si_semantics.specs.Worked.Functions.{called, prints}

-- ---- names

-- names of values and functions
abbrev pub a : Text
a = codes "a"

abbrev pub b : Text
b = codes "b"

abbrev pub c : Text
c = codes "c"

abbrev pub d : Text
d = codes "d"

abbrev pub e : Text
e = codes "e"

abbrev pub i : Text
i = codes "i"

abbrev pub k : Text
k = codes "k"

abbrev pub t : Text
t = codes "t"

-- names of kinds
abbrev pub base_exception : Expr
base_exception = tree.Name (codes "BaseException")

abbrev pub arithmetic_error : Expr
arithmetic_error = tree.Name (codes "ArithmeticError")

abbrev pub zero_division_error : Expr
zero_division_error = tree.Name (codes "ZeroDivisionError")

abbrev pub lookup_error : Expr
lookup_error = tree.Name (codes "LookupError")

abbrev pub index_error : Expr
index_error = tree.Name (codes "IndexError")

abbrev pub key_error : Expr
key_error = tree.Name (codes "KeyError")

abbrev pub name_error : Expr
name_error = tree.Name (codes "NameError")

abbrev pub unbound_local_error : Expr
unbound_local_error = tree.Name (codes "UnboundLocalError")

abbrev pub runtime_error : Expr
runtime_error = tree.Name (codes "RuntimeError")

abbrev pub recursion_error : Expr
recursion_error = tree.Name (codes "RecursionError")

abbrev pub type_error : Expr
type_error = tree.Name (codes "TypeError")

abbrev pub value_error : Expr
value_error = tree.Name (codes "ValueError")

-- ---- expressions and statements

-- `print('TEXT')`
abbrev pub says : Text → Stmt
says s = prints (str s ∷ [])

-- `1 // 0`
abbrev pub divides_by_zero : Stmt
divides_by_zero = tree.Evaluate (tree.Binary tree.FloorDivide (int 1) (int 0))

-- `KIND(arguments)`
abbrev pub new : Expr → List Expr → Expr
new k args = tree.Call k None (arguments args) []

-- calls of `range`, `str` and `repr`
abbrev pub a_range : List Expr → Expr
a_range args = called (codes "range") args

abbrev pub a_str : Expr → Expr
a_str v = called (codes "str") (v ∷ [])

abbrev pub a_repr : Expr → Expr
a_repr v = called (codes "repr") (v ∷ [])

-- `raise EXPRESSION`
abbrev pub raises : Expr → Stmt
raises v = tree.Raise (Some v)

-- `raise`
abbrev pub raises_again : Stmt
raises_again = tree.Raise None

-- `except:`, `except KIND:` and `except KIND as NAME:`, each with its suite, and the clauses after it
abbrev pub except_any : List Stmt → Clauses → Clauses
except_any body cs = tree.MoreClauses None None (suite body) cs

abbrev pub except_of : Expr → List Stmt → Clauses → Clauses
except_of k body cs = tree.MoreClauses (Some k) None (suite body) cs

abbrev pub except_as : Expr → Text → List Stmt → Clauses → Clauses
except_as k y body cs = tree.MoreClauses (Some k) (Some y) (suite body) cs

-- `try:` with clauses, with an else suite after them, with a finally suite after that, and with a finally suite alone
abbrev pub try_except : List Stmt → Clauses → Stmt
try_except body cs = tree.Try (suite body) cs tree.NoStmts

abbrev pub try_else : List Stmt → Clauses → List Stmt → Stmt
try_else body cs other = tree.Try (suite body) cs (suite other)

abbrev pub try_finally : List Stmt → Clauses → (other last : List Stmt) → Stmt
try_finally body cs other last = tree.Finally (suite body) cs (suite other) (suite last)

abbrev pub ensured : (body last : List Stmt) → Stmt
ensured body last = tree.Finally (suite body) tree.NoClauses tree.NoStmts (suite last)

-- `for NAME in EXPRESSION:`, and the same with an else suite
abbrev pub each : Text → Expr → List Stmt → Stmt
each y over body = tree.For (tree.Named y) over (suite body) tree.NoStmts

abbrev pub each_else : Text → Expr → (body other : List Stmt) → Stmt
each_else y over body other = tree.For (tree.Named y) over (suite body) (suite other)

-- `[..]`, and `{KEY: VALUE, ..}` by its keys and values by turns
abbrev pub list_of : List Expr → Expr
list_of es = tree.ListDisplay (arguments es)

abbrev pub dict_of : List Expr → Expr
dict_of es = tree.DictDisplay (arguments es)

-- `OBJECT[INDEX]`
abbrev pub item : (object index : Expr) → Expr
item u v = tree.Subscript u v

-- targets in a row
abbrev pub in_a_row : List Target → Targets
in_a_row [] = tree.NoTargets
in_a_row (t ∷ ts) = tree.MoreTargets t (in_a_row ts)

-- `TARGET, ..` as a target
abbrev pub unpack : List Target → Target
unpack ts = tree.Unpack (in_a_row ts)

-- `NAME = EXPRESSION`, `OBJECT[INDEX] = EXPRESSION`, `TARGET, .. = EXPRESSION` and `TARGET = .. = EXPRESSION`
abbrev pub set : Text → Expr → Stmt
set y e = tree.Assign (tree.only (tree.Named y)) e

abbrev pub set_item : (object index : Expr) → Expr → Stmt
set_item u v e = tree.Assign (tree.only (tree.Item u v)) e

abbrev pub unpacks : List Target → Expr → Stmt
unpacks ts e = tree.Assign (tree.only (unpack ts)) e

abbrev pub set_all : List Target → Expr → Stmt
set_all ts e = tree.Assign (in_a_row ts) e

-- ---- what becomes of them

-- what a life prints, and the line of the exception that leaves its run
abbrev pub told_in : Told → Text
told_in r = joined (texts_of r) ++ outcome_line (outcome r)

-- that of a script with at most n turns of a loop, and of one without a loop
abbrev pub ends_within : ℕ → List Stmt → Text
ends_within n body = told_in (run_within n body)

abbrev pub ends : List Stmt → Text
ends body = ends_within 0 body
