-- Worked cases of functions: what scripts with functions print and how they end, computed from the definitions.
use Rattle.std.specs.Prelude.{◌≡◌, codes, ℕ, List, [], ◌∷◌, true, false, Option, Some, None}
use Rattle.si_semantics.specs.Value.{Text, Value, Function, Truth}
use Rattle.si_semantics.specs.Tree as tree
use Rattle.si_semantics.specs.Tree.{Expr, Stmt}
use Rattle.si_semantics.specs.World.{Answer, Taken, Done, Run}
use Rattle.si_semantics.specs.Life.{Returned, End, Told, life_of, pieces_of, end_of, texts_of}
use Rattle.si_semantics.specs.Laws.{state_of}
use Rattle.si_semantics.specs.Worked.Straight.{int, a_text, arguments, print, suite, compared, run_of, report_of, report_within}

-- ---- scripts

-- `f`, `g` and `h`, as names of functions; `n` and `x`, as names of values
abbrev pub f : Text
f = codes "f"

abbrev pub g : Text
g = codes "g"

abbrev pub h : Text
h = codes "h"

abbrev pub n : Text
n = codes "n"

abbrev pub x : Text
x = codes "x"

-- a call of a function by its name
abbrev pub called : Text → List Expr → Expr
called y args = tree.Call (tree.Name y) None (arguments args) []

-- a statement that prints these
abbrev pub prints : List Expr → Stmt
prints args = tree.Evaluate (print args)

-- `def NAME(parameters):` with these statements for its suite
abbrev pub define : Text → List Text → List Stmt → Stmt
define y parameters body = tree.Define y parameters (suite body)

-- `def NAME(): return VALUE`
abbrev pub gives : Text → Expr → Stmt
gives y e = define y [] (tree.Return (Some e) ∷ [])

-- `if n == 1: return 1`, `return 1 + f(n - 1)`
abbrev pub counts : List Stmt
counts =
    tree.If (compared tree.Equal (tree.Name n) (int 1)) (suite (tree.Return (Some (int 1)) ∷ [])) tree.NoStmts
    ∷ tree.Return (Some (tree.Binary tree.Add (int 1) (called f (tree.Binary tree.Subtract (tree.Name n) (int 1) ∷ []))))
    ∷ []

-- `def f(n):` with that for its suite, then `print(f(k))`
abbrev pub counted : ℕ → List Stmt
counted k = define f (n ∷ []) counts ∷ prints (called f (int k ∷ []) ∷ []) ∷ []

-- `if n: f(n - 1)`, `print(n)`
abbrev pub prints_after : List Stmt
prints_after =
    tree.If (tree.Name n) (suite (tree.Evaluate (called f (tree.Binary tree.Subtract (tree.Name n) (int 1) ∷ [])) ∷ [])) tree.NoStmts
    ∷ prints (tree.Name n ∷ [])
    ∷ []

-- `if False:` `def f(): return 1`, `else:` `def g(): return 2`, then `def h(): return 3`
abbrev pub three_functions : List Stmt
three_functions = tree.If (tree.Constant (Truth false)) (suite (gives f (int 1) ∷ [])) (suite (gives g (int 2) ∷ [])) ∷ gives h (int 3) ∷ []

-- `def f(): return 1` is run, and then `def g(): return 2`, `print(f(), g())`
abbrev pub two_texts : List Answer
two_texts =
    Taken (Run (Some (record { body = suite (gives f (int 1) ∷ []) })))
    ∷ Done
    ∷ Taken (Run (Some (record { body = suite (gives g (int 2) ∷ prints (called f [] ∷ called g [] ∷ []) ∷ []) })))
    ∷ []

-- what a life leaves a global name bound to
abbrev pub left_in : Told → Text → Option Value
left_in r y = (state_of r).world.globals y

-- ---- the cases

pub record FunctionCases : Type 0 where
  -- `def f(): pass`, `def g(): return`, then `print(f(), g())`
  pub none_is_given : report_of (define f [] (tree.Pass ∷ []) ∷ define g [] (tree.Return None ∷ []) ∷ prints (called f [] ∷ called g [] ∷ []) ∷ []) ≡ codes "== interpreter 0 ==\nNone None\nend: finished\n"
  -- `x = 1`, `def f():` `print(x)`, `x = 2`, then `f()`: x is local in all of f
  pub unbound_local : report_of (tree.Assign (tree.only (tree.Named x)) (int 1) ∷ define f [] (prints (tree.Name x ∷ []) ∷ tree.Assign (tree.only (tree.Named x)) (int 2) ∷ []) ∷ tree.Evaluate (called f []) ∷ []) ≡ codes "== interpreter 0 ==\nraised UnboundLocalError: local x is not bound\nend: finished\n"
  -- `x = 1`, `def f():` `x = 2`, then `f()`, `print(x)`
  pub local_is_apart : report_of (tree.Assign (tree.only (tree.Named x)) (int 1) ∷ define f [] (tree.Assign (tree.only (tree.Named x)) (int 2) ∷ []) ∷ tree.Evaluate (called f []) ∷ prints (tree.Name x ∷ []) ∷ []) ≡ codes "== interpreter 0 ==\n1\nend: finished\n"
  -- `x = 1`, `def f():` `global x`, `x += 1`, then `f()`, `f()`, `print(x)`
  pub global_is_changed : report_of (tree.Assign (tree.only (tree.Named x)) (int 1) ∷ define f [] (tree.Global (x ∷ []) ∷ tree.Augment x tree.Add (int 1) ∷ []) ∷ tree.Evaluate (called f []) ∷ tree.Evaluate (called f []) ∷ prints (tree.Name x ∷ []) ∷ []) ≡ codes "== interpreter 0 ==\n3\nend: finished\n"
  -- `def f(): return x`, `x = 1`, then `print(f())`: a global name is looked up when the call comes to it
  pub looked_up_in_the_call : report_of (gives f (tree.Name x) ∷ tree.Assign (tree.only (tree.Named x)) (int 1) ∷ prints (called f [] ∷ []) ∷ []) ≡ codes "== interpreter 0 ==\n1\nend: finished\n"
  -- The wait for the job is visit 1, `def` 2. The last statement is 3, the call of `print` 4, its callee 5; the call of
  -- f is 6, its callee 7, the literal 8. In f(3) the `if` is 9, its test 10, 11 and 12; `return` is 13, the sum 14, the
  -- literal 15, the call 16, its callee 17, the argument 18, 19 and 20; f(2) has as many, 21 to 32. In f(1) the `if` is
  -- 33, its test 34, 35 and 36, `return` 37, the literal 38. Then the piece is printed, and to tell the end of the run
  -- is visit 39.
  pub calls_itself : report_of (counted 3) ≡ codes "== interpreter 0 ==\n3\nend: finished\n"
  pub number_after_calls : pieces_of (run_of (counted 3)) ≡ record { text = codes "3\n"; number = 38 } ∷ []
  pub visits_of_calls : end_of (run_of (counted 3)) ≡ Some (Some (End Returned), 39)
  -- `def f(n):` `if n: f(n - 1)`, `print(n)`, then `f(2)`: each call has locals of its own, and the caller has its own
  -- again after it
  pub locals_of_each_call : report_of (define f (n ∷ []) prints_after ∷ tree.Evaluate (called f (int 2 ∷ [])) ∷ []) ≡ codes "== interpreter 0 ==\n0\n1\n2\nend: finished\n"
  -- 200 calls within each other are made, and no more
  pub deepest : report_of (counted 200) ≡ codes "== interpreter 0 ==\n200\nend: finished\n"
  pub too_deep : report_of (counted 201) ≡ codes "== interpreter 0 ==\nraised RecursionError: too deep\nend: finished\n"
  -- `def f(n): pass`, then `f(print('a'), 2)`: the arguments are evaluated, then the call is refused
  pub wrong_number_of_arguments : report_of (define f (n ∷ []) (tree.Pass ∷ []) ∷ tree.Evaluate (called f (print (a_text ∷ []) ∷ int 2 ∷ [])) ∷ []) ≡ codes "== interpreter 0 ==\na\nraised TypeError: wrong arguments\nend: finished\n"
  -- `def f(n): pass`, then `f(n=print('a'))`
  pub argument_by_name : report_of (define f (n ∷ []) (tree.Pass ∷ []) ∷ tree.Evaluate (tree.Call (tree.Name f) None (arguments (print (a_text ∷ []) ∷ [])) (n ∷ [])) ∷ []) ≡ codes "== interpreter 0 ==\na\nraised TypeError: wrong arguments\nend: finished\n"
  -- `print(n='a')`
  pub print_by_name : report_of (tree.Evaluate (tree.Call (tree.Name (codes "print")) None (arguments (a_text ∷ [])) (n ∷ [])) ∷ []) ≡ codes "== interpreter 0 ==\nraised TypeError: wrong arguments\nend: finished\n"
  -- `'a'(n='a')`
  pub not_callable_by_name : report_of (tree.Evaluate (tree.Call a_text None (arguments (a_text ∷ [])) (n ∷ [])) ∷ []) ≡ codes "== interpreter 0 ==\nraised TypeError: not callable\nend: finished\n"
  -- `def f(): pass`, then `print(f)`
  pub shown_by_name : report_of (define f [] (tree.Pass ∷ []) ∷ prints (tree.Name f ∷ []) ∷ []) ≡ codes "== interpreter 0 ==\n<function f>\nend: finished\n"
  -- `def f(): pass`, then `print(f == 1)`, `f == f`: of two functions there is no answer
  pub functions_compared : report_of (define f [] (tree.Pass ∷ []) ∷ prints (compared tree.Equal (tree.Name f) (int 1) ∷ []) ∷ tree.Evaluate (compared tree.Equal (tree.Name f) (tree.Name f)) ∷ []) ≡ codes "== interpreter 0 ==\nFalse\nraised TypeError: wrong type\nend: finished\n"
  -- `def f(print): print('a')`, then `f(1)`
  pub parameter_before_built_in : report_of (define f (codes "print" ∷ []) (prints (a_text ∷ []) ∷ []) ∷ tree.Evaluate (called f (int 1 ∷ [])) ∷ []) ≡ codes "== interpreter 0 ==\nraised TypeError: not callable\nend: finished\n"
  -- `def f():` `while True:` `return 'a'`, then `print(f())`
  pub returned_from_a_loop : report_within 1 (define f [] (tree.While (tree.Constant (Truth true)) (suite (tree.Return (Some a_text) ∷ [])) tree.NoStmts ∷ []) ∷ prints (called f [] ∷ []) ∷ []) ≡ codes "== interpreter 0 ==\na\nend: finished\n"
  -- `def f():` `print('a')`, `1 // 0`, then `f()`, `print('a')`: an exception leaves the call and the run
  pub raised_in_a_call : report_of (define f [] (prints (a_text ∷ []) ∷ tree.Evaluate (tree.Binary tree.FloorDivide (int 1) (int 0)) ∷ []) ∷ tree.Evaluate (called f []) ∷ prints (a_text ∷ []) ∷ []) ≡ codes "== interpreter 0 ==\na\nraised ZeroDivisionError: division by zero\nend: finished\n"
  -- `def f(): return 1`, `def g(): return 2`: the second function has number 1
  pub second_function : left_in (run_of (gives f (int 1) ∷ gives g (int 2) ∷ [])) g ≡ Some (Function g 1)
  -- a function that is read has its number, whether its `def` is run or not
  pub not_defined : left_in (run_of three_functions) f ≡ None
  pub number_in_an_else_suite : left_in (run_of three_functions) g ≡ Some (Function g 1)
  pub number_after_an_if : left_in (run_of three_functions) h ≡ Some (Function h 2)
  -- the functions of a second text go on counting, and those of the first can still be called
  pub second_text : texts_of (life_of 0 0 two_texts) ≡ codes "1 2\n" ∷ []
  pub number_in_a_second_text : left_in (life_of 0 0 two_texts) g ≡ Some (Function g 1)
