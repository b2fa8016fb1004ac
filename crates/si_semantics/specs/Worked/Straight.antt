-- Worked cases: what scripts print and how they end, computed from the definitions.
use Rattle.std.specs.Prelude.{◌≡◌, codes, ℕ, pos, List, [], ◌∷◌, ◌++◌, true, false, Some, None}
use Rattle.si_semantics.specs.Value.{Text, Nothing, Truth, Int, Str}
use Rattle.si_semantics.specs.Tree as tree
use Rattle.si_semantics.specs.Tree.{ComparisonOperator, Expr, Exprs, Stmt, Stmts}
use Rattle.si_semantics.specs.Text.{repr_text}
use Rattle.si_semantics.specs.World.{Answer, Taken, Done, Bind, Run, Closing}
use Rattle.si_semantics.specs.Life.{Outcome, Returned, End, Told, Stops, life_of, pieces_of, end_of, joined, texts_of}
use Rattle.si_semantics.specs.Report.{AtEnd, report}

-- ---- scripts

abbrev pub int : ℕ → Expr
int n = tree.Constant (Int (pos n))

abbrev pub str : Text → Expr
str s = tree.Constant (Str s)

abbrev pub minus : Expr → Expr
minus a = tree.Unary tree.Minus a

abbrev pub arguments : List Expr → Exprs
arguments [] = tree.NoExprs
arguments (a ∷ more) = tree.MoreExprs a (arguments more)

abbrev pub print : List Expr → Expr
print args = tree.Call (tree.Name (codes "print")) None (arguments args) []

abbrev pub suite : List Stmt → Stmts
suite [] = tree.NoStmts
suite (a ∷ more) = tree.MoreStmts a (suite more)

-- `a o b`, for an operator of comparison
abbrev pub compared : ComparisonOperator → Expr → Expr → Expr
compared o a b = tree.Compare a (tree.MoreComparisons o b tree.NoComparisons)

-- `i`
abbrev pub i_name : Expr
i_name = tree.Name (codes "i")

-- `'a'`
abbrev pub a_text : Expr
a_text = str (codes "a")

-- `a * 3 - 1, b + 'y', b * 3`
abbrev pub three_values : List Expr
three_values =
    tree.Binary tree.Subtract (tree.Binary tree.Multiply (tree.Name (codes "a")) (int 3)) (int 1)
    ∷ tree.Binary tree.Add (tree.Name (codes "b")) (str (codes "y"))
    ∷ tree.Binary tree.Multiply (tree.Name (codes "b")) (int 3)
    ∷ []

-- `a = 7; b = 'x'`, then `print(a * 3 - 1, b + 'y', b * 3)`
abbrev pub three_lines : List Stmt
three_lines = tree.Assign (tree.only (tree.Named (codes "a"))) (int 7) ∷ tree.Assign (tree.only (tree.Named (codes "b"))) (str (codes "x")) ∷ tree.Evaluate (print three_values) ∷ []

-- `i = 0`, `while i < 2: i += 1`, then `print(i)`
abbrev pub counting : List Stmt
counting =
    tree.Assign (tree.only (tree.Named (codes "i"))) (int 0)
    ∷ tree.While (compared tree.Less i_name (int 2)) (suite (tree.Augment (codes "i") tree.Add (int 1) ∷ [])) tree.NoStmts
    ∷ tree.Evaluate (print (i_name ∷ []))
    ∷ []

-- `i += 1`, `if i == 2: continue`, `elif i == 4: break`, `else: pass`, then `print(i)`
abbrev pub turn : List Stmt
turn =
    tree.Augment (codes "i") tree.Add (int 1)
    ∷ tree.If (compared tree.Equal i_name (int 2)) (suite (tree.Continue ∷ [])) (suite (tree.If (compared tree.Equal i_name (int 4)) (suite (tree.Break ∷ [])) (suite (tree.Pass ∷ [])) ∷ []))
    ∷ tree.Evaluate (print (i_name ∷ []))
    ∷ []

-- `i = 0`, then `while True:` with that for its suite, then `print('a')`
abbrev pub left_by_break : List Stmt
left_by_break = tree.Assign (tree.only (tree.Named (codes "i"))) (int 0) ∷ tree.While (tree.Constant (Truth true)) (suite turn) tree.NoStmts ∷ tree.Evaluate (print (a_text ∷ [])) ∷ []

-- `while True: print('a')`
abbrev pub endless : List Stmt
endless = tree.While (tree.Constant (Truth true)) (suite (tree.Evaluate (print (a_text ∷ [])) ∷ [])) tree.NoStmts ∷ []

-- `a` is bound to 7, then `print(a)` is run, then a text that is not read, and then the interpreter is closed
abbrev pub four_jobs : List Answer
four_jobs =
    Taken (Bind ((codes "a", Int (pos 7)) ∷ []))
    ∷ Taken (Run (Some (record { body = suite (tree.Evaluate (print (tree.Name (codes "a") ∷ [])) ∷ []) }))) ∷ Done
    ∷ Taken (Run None) ∷ Done
    ∷ Taken Closing
    ∷ []

-- ---- what becomes of them

-- the life of an interpreter that is given a text to run, with at most n turns of a loop
abbrev pub run_within : ℕ → List Stmt → Told
run_within n body = life_of 0 n (Taken (Run (Some (record { body = suite body }))) ∷ [])

-- the same of a text without a loop
abbrev pub run_of : List Stmt → Told
run_of body = run_within 0 body

-- how the run ends that a life tells of
abbrev pub outcome : Told → Outcome
outcome (Stops (End o) s) = o
outcome _ = Returned

-- the report of a script, with at most n turns of a loop
abbrev pub report_within : ℕ → List Stmt → Text
report_within n body = report (joined (texts_of (run_within n body))) (AtEnd (outcome (run_within n body)))

-- the same of a text without a loop
abbrev pub report_of : List Stmt → Text
report_of body = report_within 0 body

-- what a text without a loop reports that prints these values
abbrev pub shown : List Expr → Text
shown args = report_of (tree.Evaluate (print args) ∷ [])

-- ---- the cases

pub record Cases : Type 0 where
  -- `print(-7 // 2, -7 % 2, 7 // -2, 7 % -2)`: a quotient is rounded down, a rest has the sign of the divisor
  pub floor_division : report_of (tree.Evaluate (print (tree.Binary tree.FloorDivide (minus (int 7)) (int 2) ∷ tree.Binary tree.Modulo (minus (int 7)) (int 2) ∷ tree.Binary tree.FloorDivide (int 7) (minus (int 2)) ∷ tree.Binary tree.Modulo (int 7) (minus (int 2)) ∷ [])) ∷ []) ≡ codes "== interpreter 0 ==\n-4 1 -4 -1\nend: finished\n"
  -- `print(9223372036854775807 + 1)`
  pub sum_past_the_range : report_of (tree.Evaluate (print (tree.Binary tree.Add (int 9223372036854775807) (int 1) ∷ [])) ∷ []) ≡ codes "== interpreter 0 ==\nraised OverflowError: integer out of range\nend: finished\n"
  -- `print(0 ** 0, -2 ** 2, (-2) ** 63, -9223372036854775807 - 1)`
  pub least_integer : report_of (tree.Evaluate (print (tree.Binary tree.Power (int 0) (int 0) ∷ minus (tree.Binary tree.Power (int 2) (int 2)) ∷ tree.Binary tree.Power (minus (int 2)) (int 63) ∷ tree.Binary tree.Subtract (minus (int 9223372036854775807)) (int 1) ∷ [])) ∷ []) ≡ codes "== interpreter 0 ==\n1 -4 -9223372036854775808 -9223372036854775808\nend: finished\n"
  -- `print(2 ** 63)`
  pub power_past_the_range : report_of (tree.Evaluate (print (tree.Binary tree.Power (int 2) (int 63) ∷ [])) ∷ []) ≡ codes "== interpreter 0 ==\nraised OverflowError: integer out of range\nend: finished\n"
  -- `print(2 ** -1)`
  pub negative_power : report_of (tree.Evaluate (print (tree.Binary tree.Power (int 2) (minus (int 1)) ∷ [])) ∷ []) ≡ codes "== interpreter 0 ==\nraised TypeError: wrong type\nend: finished\n"
  -- `a = 7; b = 'x'`, then `print(a * 3 - 1, b + 'y', b * 3)`
  pub names_and_texts : report_of three_lines ≡ codes "== interpreter 0 ==\n20 xy xxx\nend: finished\n"
  -- `x = print('a')`, then `print(x, print)`
  pub print_gives_none : report_of (tree.Assign (tree.only (tree.Named (codes "x"))) (print (a_text ∷ [])) ∷ tree.Evaluate (print (tree.Name (codes "x") ∷ tree.Name (codes "print") ∷ [])) ∷ []) ≡ codes "== interpreter 0 ==\na\nNone <built-in print>\nend: finished\n"
  -- `print('ok'); print(1 // 0)`
  pub printed_before_an_exception : report_of (tree.Evaluate (print (str (codes "ok") ∷ [])) ∷ tree.Evaluate (print (tree.Binary tree.FloorDivide (int 1) (int 0) ∷ [])) ∷ []) ≡ codes "== interpreter 0 ==\nok\nraised ZeroDivisionError: division by zero\nend: finished\n"
  -- the empty text
  pub empty_text : report_of [] ≡ codes "== interpreter 0 ==\nend: finished\n"
  -- `print()`
  pub print_of_nothing : report_of (tree.Evaluate (print []) ∷ []) ≡ codes "== interpreter 0 ==\n\nend: finished\n"
  -- `f(print('a'))` where f is not bound: the callee comes before the arguments
  pub callee_first : report_of (tree.Evaluate (tree.Call (tree.Name (codes "f")) None (arguments (print (a_text ∷ []) ∷ [])) []) ∷ []) ≡ codes "== interpreter 0 ==\nraised NameError: name f is not defined\nend: finished\n"
  -- `'a'(print('a'))`: the arguments are evaluated, then the call is refused
  pub arguments_before_the_call : report_of (tree.Evaluate (tree.Call a_text None (arguments (print (a_text ∷ []) ∷ [])) []) ∷ []) ≡ codes "== interpreter 0 ==\na\nraised TypeError: not callable\nend: finished\n"
  -- `print('a') + print(2)`: the left operand comes first
  pub left_operand_first : report_of (tree.Evaluate (tree.Binary tree.Add (print (a_text ∷ [])) (print (int 2 ∷ []))) ∷ []) ≡ codes "== interpreter 0 ==\na\n2\nraised TypeError: wrong type\nend: finished\n"
  -- `x = x`: the name is looked up before it is bound
  pub right_side_first : report_of (tree.Assign (tree.only (tree.Named (codes "x"))) (tree.Name (codes "x")) ∷ []) ≡ codes "== interpreter 0 ==\nraised NameError: name x is not defined\nend: finished\n"
  -- `print(__name__)`
  pub name_of_the_module : report_of (tree.Evaluate (print (tree.Name (codes "__name__") ∷ [])) ∷ []) ≡ codes "== interpreter 0 ==\n__main__\nend: finished\n"
  -- `print = 1`, then `print('a')`
  pub global_before_built_in : report_of (tree.Assign (tree.only (tree.Named (codes "print"))) (int 1) ∷ tree.Evaluate (print (a_text ∷ [])) ∷ []) ≡ codes "== interpreter 0 ==\nraised TypeError: not callable\nend: finished\n"
  -- `'a' - 1`
  pub wrong_operands : report_of (tree.Evaluate (tree.Binary tree.Subtract a_text (int 1)) ∷ []) ≡ codes "== interpreter 0 ==\nraised TypeError: wrong type\nend: finished\n"
  -- `print('a' * -1)`
  pub repeated_below_zero : report_of (tree.Evaluate (print (tree.Binary tree.Multiply a_text (minus (int 1)) ∷ [])) ∷ []) ≡ codes "== interpreter 0 ==\n\nend: finished\n"
  -- `1048577 * 'a'`
  pub repeated_too_long : report_of (tree.Evaluate (tree.Binary tree.Multiply (int 1048577) a_text) ∷ []) ≡ codes "== interpreter 0 ==\nraised OverflowError: too long\nend: finished\n"
  -- `repr("it's")`
  pub repr_with_a_single_quote : repr_text (codes "it's") ≡ codes "\"it's\""
  -- a text of both quotes, a backslash, a line end, code 1 and a letter past ASCII
  pub repr_with_both_quotes : repr_text (39 ∷ 34 ∷ 92 ∷ 10 ∷ 1 ∷ 233 ∷ []) ≡ codes "'\\'\"\\\\\\n\\x01" ++ (233 ∷ 39 ∷ [])
  -- The wait for the job is visit 1. `a = 7` is 2, its literal 3, its target 4; `b = 'x'` is 5, 6 and 7. The last
  -- statement is 8, the call 9, its callee 10. `a * 3 - 1` is 11, in it `a * 3` 12, a 13 and 3 14, then 1 is 15;
  -- `b + 'y'` is 16, 17 and 18; `b * 3` is 19, 20 and 21. Then the piece is printed.
  pub number_of_a_piece : pieces_of (run_of three_lines) ≡ record { text = codes "20 xy xxx\n"; number = 21 } ∷ []
  -- to tell the end of the run is visit 22
  pub visits_of_a_run : end_of (run_of three_lines) ≡ Some (Some (End Returned), 22)
  -- each wait for a job is a visit (1, 2, 8, 10), and so is each end of a run (7, 9); `print(a)` is 3, 4, 5 and 6
  pub pieces_of_a_life : pieces_of (life_of 0 0 four_jobs) ≡ record { text = codes "7\n"; number = 6 } ∷ []
  -- closed, it is gone
  pub end_of_a_life : end_of (life_of 0 0 four_jobs) ≡ Some (None, 10)
  -- `print(True + True, True & False, True | False, True ^ True, 'a' * True)`: they count as 1 and 0, and `&`, `|` and
  -- `^` give one of them
  pub truths_as_integers : shown (tree.Binary tree.Add (tree.Constant (Truth true)) (tree.Constant (Truth true)) ∷ tree.Binary tree.BitAnd (tree.Constant (Truth true)) (tree.Constant (Truth false)) ∷ tree.Binary tree.BitOr (tree.Constant (Truth true)) (tree.Constant (Truth false)) ∷ tree.Binary tree.BitXor (tree.Constant (Truth true)) (tree.Constant (Truth true)) ∷ tree.Binary tree.Multiply a_text (tree.Constant (Truth true)) ∷ []) ≡ codes "== interpreter 0 ==\n2 False True False a\nend: finished\n"
  -- `print(6 & -4, 6 | -4, 6 ^ -4, ~6, ~True, 3 << 4, -7 >> 1)`
  pub bits : shown (tree.Binary tree.BitAnd (int 6) (minus (int 4)) ∷ tree.Binary tree.BitOr (int 6) (minus (int 4)) ∷ tree.Binary tree.BitXor (int 6) (minus (int 4)) ∷ tree.Unary tree.Invert (int 6) ∷ tree.Unary tree.Invert (tree.Constant (Truth true)) ∷ tree.Binary tree.ShiftLeft (int 3) (int 4) ∷ tree.Binary tree.ShiftRight (minus (int 7)) (int 1) ∷ []) ≡ codes "== interpreter 0 ==\n4 -2 -6 -7 -2 48 -4\nend: finished\n"
  -- `1 << -1`
  pub shifted_by_less_than_nothing : report_of (tree.Evaluate (tree.Binary tree.ShiftLeft (int 1) (minus (int 1))) ∷ []) ≡ codes "== interpreter 0 ==\nraised ValueError: wrong value\nend: finished\n"
  -- `print(True == 1, 'a' < 'ab', 'b' <= 'ab', 'a' == 97, None is None, 1 is True)`
  pub comparisons : shown (compared tree.Equal (tree.Constant (Truth true)) (int 1) ∷ compared tree.Less a_text (str (codes "ab")) ∷ compared tree.LessEqual (str (codes "b")) (str (codes "ab")) ∷ compared tree.Equal a_text (int 97) ∷ compared tree.Is (tree.Constant Nothing) (tree.Constant Nothing) ∷ compared tree.Is (int 1) (tree.Constant (Truth true)) ∷ []) ≡ codes "== interpreter 0 ==\nTrue True False False True False\nend: finished\n"
  -- `'a' < 1`
  pub no_order : report_of (tree.Evaluate (compared tree.Less a_text (int 1)) ∷ []) ≡ codes "== interpreter 0 ==\nraised TypeError: wrong type\nend: finished\n"
  -- `print(1 < 2 < 3, 2 > 1 != 1, 1 > 2 > f)` where f is not bound: a comparison that is not true ends the chain
  pub chains : shown (tree.Compare (int 1) (tree.MoreComparisons tree.Less (int 2) (tree.MoreComparisons tree.Less (int 3) tree.NoComparisons)) ∷ tree.Compare (int 2) (tree.MoreComparisons tree.Greater (int 1) (tree.MoreComparisons tree.NotEqual (int 1) tree.NoComparisons)) ∷ tree.Compare (int 1) (tree.MoreComparisons tree.Greater (int 2) (tree.MoreComparisons tree.Greater (tree.Name (codes "f")) tree.NoComparisons)) ∷ []) ≡ codes "== interpreter 0 ==\nTrue False False\nend: finished\n"
  -- `print(0 or 'a' or f, 1 and '' and f, not '')` where f is not bound: one of the operands is given, and those after
  -- it are not evaluated
  pub operands_given : shown (tree.Boolean tree.Or (int 0) (arguments (a_text ∷ tree.Name (codes "f") ∷ [])) ∷ tree.Boolean tree.And (int 1) (arguments (str [] ∷ tree.Name (codes "f") ∷ [])) ∷ tree.Unary tree.Not (str []) ∷ []) ≡ codes "== interpreter 0 ==\na  True\nend: finished\n"
  -- `print('a' if 1 else f, f if None else 2)` where f is not bound
  pub one_of_two : shown (tree.Conditional (int 1) a_text (tree.Name (codes "f")) ∷ tree.Conditional (tree.Constant Nothing) (tree.Name (codes "f")) (int 2) ∷ []) ≡ codes "== interpreter 0 ==\na 2\nend: finished\n"
  -- `a += print('a')` where a is not bound: it is read before the right side is evaluated
  pub read_before_the_right_side : report_of (tree.Augment (codes "a") tree.Add (print (a_text ∷ [])) ∷ []) ≡ codes "== interpreter 0 ==\nraised NameError: name a is not defined\nend: finished\n"
  -- 2 ends its turn, 4 the loop
  pub broken_and_continued : report_within 4 left_by_break ≡ codes "== interpreter 0 ==\n1\n3\na\nend: finished\n"
  -- with three turns it is cut after the third
  pub cut_before_the_break : texts_of (run_within 3 left_by_break) ≡ codes "1\n" ∷ codes "3\n" ∷ []
  pub no_end_before_the_break : end_of (run_within 3 left_by_break) ≡ None
  -- The wait for the job is visit 1, the loop 2. A turn is 3, its test 4, the statement 5, the call 6, its callee 7,
  -- the literal 8; the next turn ends with 14.
  pub endless_loop : pieces_of (run_within 2 endless) ≡ record { text = codes "a\n"; number = 8 } ∷ record { text = codes "a\n"; number = 14 } ∷ []
  pub no_end : end_of (run_within 2 endless) ≡ None
  -- The wait for the job is visit 1. `i = 0` is 2, its literal 3, its target 4. The loop is 5, its first turn 6, the
  -- test 7, 8 and 9, `i += 1` 10, its target 11, its literal 12; the second turn is 13 to 19; the third 20, with its
  -- test 21, 22 and 23, ends the loop. The last statement is 24, the call 25, its callee 26, i 27. Then the piece is
  -- printed, and the end is 28.
  pub number_after_a_loop : pieces_of (run_within 3 counting) ≡ record { text = codes "2\n"; number = 27 } ∷ []
  pub visits_of_a_loop : end_of (run_within 3 counting) ≡ Some (Some (End Returned), 28)
  -- the test that ends a loop is a turn
  pub last_turn_counts : end_of (run_within 2 counting) ≡ None
