-- Worked cases of finally suites: what scripts print and how they end, computed from the definitions.
use Rattle.std.specs.Prelude.{◌≡◌, codes, List, [], ◌∷◌, true, Some, None}
use Rattle.si_semantics.specs.Value.{Text, Truth, Function}
use Rattle.si_semantics.specs.Tree as tree
use Rattle.si_semantics.specs.Tree.{Stmt}
use Rattle.si_semantics.specs.Life.{Returned, End, end_of, texts_of}
use Rattle.si_semantics.specs.Worked.Straight.{int, str, suite, compared, run_within, run_of}
use Rattle.si_semantics.specs.Worked.Functions.{f, g, x, called, prints, define, left_in}
use Rattle.si_semantics.specs.Worked.Scripts.{a, b, c, d, e, i, zero_division_error, key_error, unbound_local_error, says, divides_by_zero, new, a_range, raises, except_any, except_of, except_as, try_except, try_finally, ensured, each, each_else, ends_within, ends}

-- ---- scripts

-- `while True: pass` in the suite of a `try`, whose other suites print
abbrev pub cut_script : List Stmt
cut_script =
    try_finally (tree.While (tree.Constant (Truth true)) (suite (tree.Pass ∷ [])) tree.NoStmts ∷ []) (except_any (says (codes "a") ∷ []) tree.NoClauses) [] (says (codes "b") ∷ []) ∷ []

-- `def NAME(): pass`
abbrev pub defined : Text → Stmt
defined y = define y [] (tree.Pass ∷ [])

-- a function in each suite of a `try`, with these statements after the first, and one after the `try`
abbrev pub defining : List Stmt → List Stmt
defining after =
    try_finally
    (defined a ∷ after)
    (except_of key_error (defined b ∷ []) (except_of zero_division_error (defined c ∷ []) tree.NoClauses))
    (defined d ∷ [])
    (defined f ∷ [])
    ∷ defined g
    ∷ []

-- ---- the cases

pub record FinallyCases : Type 0 where
  --     try:
  --         print('a')
  --     finally:
  --         print('b')
  --     try:
  --         1 // 0
  --     except ZeroDivisionError:
  --         print('c')
  --     else:
  --         print('d')
  --     finally:
  --         print('e')
  --     try:
  --         print('f')
  --     except ZeroDivisionError:
  --         print('g')
  --     else:
  --         print('h')
  --     finally:
  --         print('i')
  pub finally_after_each :
      ends
      (ensured (says (codes "a") ∷ []) (says (codes "b") ∷ [])
      ∷ try_finally
      (divides_by_zero ∷ [])
      (except_of zero_division_error (says (codes "c") ∷ []) tree.NoClauses)
      (says (codes "d") ∷ [])
      (says (codes "e") ∷ [])
      ∷ try_finally
      (says (codes "f") ∷ [])
      (except_of zero_division_error (says (codes "g") ∷ []) tree.NoClauses)
      (says (codes "h") ∷ [])
      (says (codes "i") ∷ [])
      ∷ [])
      ≡ codes "a\nb\nc\ne\nf\nh\ni\n"
  --     try:
  --         1 // 0
  --     finally:
  --         print('a')
  --     print('b')
  pub finally_after_an_exception :
      ends (ensured (divides_by_zero ∷ []) (says (codes "a") ∷ []) ∷ says (codes "b") ∷ []) ≡ codes "a\nraised ZeroDivisionError: division by zero\n"
  -- the value is there before the finally suite runs
  --     def f():
  --         x = 1
  --         try:
  --             return x
  --         finally:
  --             x = 2
  --             print('a')
  --     print(f())
  pub finally_after_a_return :
      ends
      (define f [] (tree.Assign (tree.only (tree.Named x)) (int 1) ∷ ensured (tree.Return (Some (tree.Name x)) ∷ []) (tree.Assign (tree.only (tree.Named x)) (int 2) ∷ says (codes "a") ∷ []) ∷ [])
      ∷ prints (called f [] ∷ [])
      ∷ [])
      ≡ codes "a\n1\n"
  -- the finally suite runs in each turn; the else suite of the loop does not run after `break`
  --     for i in range(4):
  --         try:
  --             if i == 1:
  --                 continue
  --             if i == 2:
  --                 break
  --             print(i)
  --         finally:
  --             print('a', i)
  --     else:
  --         print('b')
  --     print('c')
  pub finally_in_a_loop :
      ends_within 5
      (each_else i (a_range (int 4 ∷ []))
      (ensured
      (tree.If (compared tree.Equal (tree.Name i) (int 1)) (suite (tree.Continue ∷ [])) tree.NoStmts
      ∷ tree.If (compared tree.Equal (tree.Name i) (int 2)) (suite (tree.Break ∷ [])) tree.NoStmts
      ∷ prints (tree.Name i ∷ [])
      ∷ [])
      (prints (str (codes "a") ∷ tree.Name i ∷ []) ∷ [])
      ∷ [])
      (says (codes "b") ∷ [])
      ∷ says (codes "c")
      ∷ [])
      ≡ codes "0\na 0\na 1\na 2\nc\n"
  -- but it does after `continue`
  --     for i in range(2):
  --         try:
  --             continue
  --         finally:
  --             print('a', i)
  --     else:
  --         print('b')
  pub finally_after_continue :
      ends_within 3
      (each_else i (a_range (int 2 ∷ [])) (ensured (tree.Continue ∷ []) (prints (str (codes "a") ∷ tree.Name i ∷ []) ∷ []) ∷ []) (says (codes "b") ∷ []) ∷ [])
      ≡ codes "a 0\na 1\nb\n"
  -- an exception of the finally suite takes the place of the pending one
  --     try:
  --         1 // 0
  --     finally:
  --         raise KeyError('a')
  pub raised_in_a_finally_suite :
      ends (ensured (divides_by_zero ∷ []) (raises (new key_error (str (codes "a") ∷ [])) ∷ []) ∷ []) ≡ codes "raised KeyError: 'a'\n"
  -- and of a pending `return`
  --     def f():
  --         try:
  --             return 1
  --         finally:
  --             raise KeyError('a')
  --     print(f())
  pub raised_before_a_return :
      ends (define f [] (ensured (tree.Return (Some (int 1)) ∷ []) (raises (new key_error (str (codes "a") ∷ [])) ∷ []) ∷ []) ∷ prints (called f [] ∷ []) ∷ [])
      ≡ codes "raised KeyError: 'a'\n"
  -- what a finally suite catches within itself leaves the pending exception pending
  --     try:
  --         1 // 0
  --     finally:
  --         try:
  --             raise KeyError('a')
  --         except KeyError as e:
  --             print(e)
  pub caught_in_a_finally_suite :
      ends
      (ensured
      (divides_by_zero ∷ [])
      (try_except (raises (new key_error (str (codes "a") ∷ [])) ∷ []) (except_as key_error e (prints (tree.Name e ∷ []) ∷ []) tree.NoClauses) ∷ [])
      ∷ [])
      ≡ codes "'a'\nraised ZeroDivisionError: division by zero\n"
  -- so does `break` in a loop of its own
  --     def f():
  --         try:
  --             return 'a'
  --         finally:
  --             for i in range(3):
  --                 break
  --             print(i)
  --     print(f())
  pub loop_in_a_finally_suite :
      ends_within 1
      (define f [] (ensured (tree.Return (Some (str (codes "a"))) ∷ []) (each i (a_range (int 3 ∷ [])) (tree.Break ∷ []) ∷ prints (tree.Name i ∷ []) ∷ []) ∷ [])
      ∷ prints (called f [] ∷ [])
      ∷ [])
      ≡ codes "0\na\n"
  -- by `return` through a loop
  --     def f():
  --         try:
  --             for i in range(3):
  --                 try:
  --                     return i
  --                 finally:
  --                     print('a', i)
  --         finally:
  --             print('b')
  --     print(f())
  pub nested_finally_suites :
      ends_within 1
      (define f
      []
      (ensured
      (each i (a_range (int 3 ∷ [])) (ensured (tree.Return (Some (tree.Name i)) ∷ []) (prints (str (codes "a") ∷ tree.Name i ∷ []) ∷ []) ∷ []) ∷ [])
      (says (codes "b") ∷ [])
      ∷ [])
      ∷ prints (called f [] ∷ [])
      ∷ [])
      ≡ codes "a 0\nb\n0\n"
  --     try:
  --         try:
  --             1 // 0
  --         except ZeroDivisionError:
  --             raise KeyError('a')
  --         finally:
  --             print('b')
  --     except KeyError as e:
  --         print(e)
  pub finally_after_a_clause :
      ends
      (try_except
      (try_finally
      (divides_by_zero ∷ [])
      (except_of zero_division_error (raises (new key_error (str (codes "a") ∷ [])) ∷ []) tree.NoClauses)
      []
      (says (codes "b") ∷ [])
      ∷ [])
      (except_as key_error e (prints (tree.Name e ∷ []) ∷ []) tree.NoClauses)
      ∷ [])
      ≡ codes "b\n'a'\n"
  --     try:
  --         1 // 0
  --     except KeyError:
  --         print('a')
  --     finally:
  --         print('b')
  pub finally_after_no_match :
      ends (try_finally (divides_by_zero ∷ []) (except_of key_error (says (codes "a") ∷ []) tree.NoClauses) [] (says (codes "b") ∷ []) ∷ [])
      ≡ codes "b\nraised ZeroDivisionError: division by zero\n"
  -- the name is unbound before the finally suite runs
  --     def f():
  --         try:
  --             1 // 0
  --         except ZeroDivisionError as e:
  --             return e
  --         finally:
  --             try:
  --                 print(e)
  --             except UnboundLocalError:
  --                 print('a')
  --     print(f())
  pub returned_from_a_clause :
      ends
      (define f
      []
      (try_finally
      (divides_by_zero ∷ [])
      (except_as zero_division_error e (tree.Return (Some (tree.Name e)) ∷ []) tree.NoClauses)
      []
      (try_except (prints (tree.Name e ∷ []) ∷ []) (except_of unbound_local_error (says (codes "a") ∷ []) tree.NoClauses) ∷ [])
      ∷ [])
      ∷ prints (called f [] ∷ [])
      ∷ [])
      ≡ codes "a\ndivision by zero\n"
  -- ---- visits
  -- The wait for the job is visit 1, the `try` 2, its suite 3, the else suite 4, the finally suite 5.
  --     try:
  --         pass
  --     except:
  --         pass
  --     else:
  --         pass
  --     finally:
  --         pass
  pub visits_of_suites :
      end_of (run_of (try_finally (tree.Pass ∷ []) (except_any (tree.Pass ∷ []) tree.NoClauses) (tree.Pass ∷ []) (tree.Pass ∷ []) ∷ [])) ≡ Some (Some (End Returned), 6)
  -- a loop that wants a turn too many is cut, and no suite runs after it
  --     try:
  --         while True:
  --             pass
  --     except:
  --         print('a')
  --     finally:
  --         print('b')
  pub cut_in_a_try : texts_of (run_within 3 cut_script) ≡ []
  pub no_end_in_a_try : end_of (run_within 3 cut_script) ≡ None
  -- ---- numbers of functions
  -- a function has its number, in whatever suite of the `try` its `def` stands
  --     try:
  --         def a(): pass
  --         1 // 0
  --     except KeyError:
  --         def b(): pass
  --     except ZeroDivisionError:
  --         def c(): pass
  --     else:
  --         def d(): pass
  --     finally:
  --         def f(): pass
  --     def g(): pass
  pub number_in_a_suite : left_in (run_of (defining (divides_by_zero ∷ []))) a ≡ Some (Function a 0)
  pub none_in_another_clause : left_in (run_of (defining (divides_by_zero ∷ []))) b ≡ None
  pub number_in_a_clause : left_in (run_of (defining (divides_by_zero ∷ []))) c ≡ Some (Function c 2)
  pub number_in_a_finally_suite : left_in (run_of (defining (divides_by_zero ∷ []))) f ≡ Some (Function f 4)
  pub number_after_a_try : left_in (run_of (defining (divides_by_zero ∷ []))) g ≡ Some (Function g 5)
  -- and without `1 // 0`
  pub none_in_a_clause : left_in (run_of (defining [])) c ≡ None
  pub number_in_an_else_suite : left_in (run_of (defining [])) d ≡ Some (Function d 3)
