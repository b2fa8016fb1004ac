-- Worked cases of `raise` and `try`: what scripts print and how they end, computed from the definitions.
use Rattle.std.specs.Prelude.{◌≡◌, codes, ℕ, List, [], ◌∷◌, Some, Err}
use Rattle.si_plain.specs.declared.kind.Kind.TheVariants.{RuntimeError, RecursionError, OverflowError, TypeError, ValueError}
use Rattle.si_semantics.specs.Tree as tree
use Rattle.si_semantics.specs.Tree.{Stmt}
use Rattle.si_semantics.specs.Text.{message_of}
use Rattle.si_semantics.specs.World.{Answer, Taken, Done, Run}
use Rattle.si_semantics.specs.Life.{Returned, Raised, End, life_of, end_of, texts_of}
use Rattle.si_semantics.specs.Worked.Straight.{int, str, suite, compared, run_of, outcome}
use Rattle.si_semantics.specs.Worked.Functions.{f, g, x, called, prints, define}
use Rattle.si_semantics.specs.Worked.Scripts.{a, b, e, i, k, t, recursion_error, runtime_error, base_exception, arithmetic_error, zero_division_error, lookup_error, index_error, key_error, name_error, type_error, value_error, says, divides_by_zero, new, a_range, a_repr, raises, raises_again, except_any, except_of, except_as, try_except, try_else, try_finally, ensured, each, ends_within, ends}

-- ---- scripts

-- `e = ValueError()`, `for i in range(count): e = ValueError(e)`, and then this
abbrev pub nested : ℕ → Stmt → List Stmt
nested count last =
    tree.Assign (tree.only (tree.Named e)) (new value_error []) ∷ each i (a_range (int count ∷ [])) (tree.Assign (tree.only (tree.Named e)) (new value_error (tree.Name e ∷ [])) ∷ []) ∷ last ∷ []

-- `1 // 0` in a `try` whose clause binds it to `a`; it leaves the run by `KeyError`
abbrev pub first_text : List Stmt
first_text = try_except (divides_by_zero ∷ []) (except_as zero_division_error e (tree.Assign (tree.only (tree.Named a)) (tree.Name e) ∷ raises key_error ∷ []) tree.NoClauses) ∷ []

-- that is run, and then `print(a)`, `raise`
abbrev pub two_texts : List Answer
two_texts =
    Taken (Run (Some (record { body = suite first_text })))
    ∷ Done
    ∷ Taken (Run (Some (record { body = suite (prints (tree.Name a ∷ []) ∷ raises_again ∷ []) })))
    ∷ []

-- ---- the cases

pub record ExceptionCases : Type 0 where
  -- ---- raise, and an exception that leaves a run
  --     raise ValueError('x')
  pub left_by_a_message : ends (raises (new value_error (str (codes "x") ∷ [])) ∷ []) ≡ codes "raised ValueError: x\n"
  -- a kind is raised as a new exception without argument
  --     raise ValueError
  pub left_by_a_kind : ends (raises value_error ∷ []) ≡ codes "raised ValueError\n"
  -- the message is the str of the exception: of a KeyError the repr of its argument
  --     print('a')
  --     raise KeyError('a')
  --     print('b')
  pub left_by_a_key : ends (says (codes "a") ∷ raises (new key_error (str (codes "a") ∷ [])) ∷ says (codes "b") ∷ []) ≡ codes "a\nraised KeyError: 'a'\n"
  -- what is no exception and no kind
  --     raise 1
  pub left_by_no_exception : ends (raises (int 1) ∷ []) ≡ codes "raised TypeError: wrong type\n"
  --     raise
  pub none_is_active : ends (raises_again ∷ []) ≡ codes "raised RuntimeError: no active exception\n"
  -- the exception of the expression is raised in its place
  --     raise ValueError(1 // 0)
  pub expression_first : ends (raises (new value_error (tree.Binary tree.FloorDivide (int 1) (int 0) ∷ [])) ∷ []) ≡ codes "raised ZeroDivisionError: division by zero\n"
  -- the callers of a function are left too
  --     def f():
  --         raise LookupError('x')
  --     def g():
  --         f()
  --         print('a')
  --     g()
  pub left_from_a_call :
      ends
      (define f [] (raises (new lookup_error (str (codes "x") ∷ [])) ∷ [])
      ∷ define g [] (tree.Evaluate (called f []) ∷ says (codes "a") ∷ [])
      ∷ tree.Evaluate (called g [])
      ∷ [])
      ≡ codes "raised LookupError: x\n"
  -- ---- except clauses
  --     try:
  --         print('a')
  --         1 // 0
  --         print('b')
  --     except ZeroDivisionError as e:
  --         print(e)
  --     print('c')
  pub caught :
      ends
      (try_except (says (codes "a") ∷ divides_by_zero ∷ says (codes "b") ∷ []) (except_as zero_division_error e (prints (tree.Name e ∷ []) ∷ []) tree.NoClauses)
      ∷ says (codes "c")
      ∷ [])
      ≡ codes "a\ndivision by zero\nc\n"
  --     def f():
  --         raise ValueError('x')
  --     try:
  --         f()
  --     except ValueError as e:
  --         print(e)
  pub caught_from_a_call :
      ends
      (define f [] (raises (new value_error (str (codes "x") ∷ [])) ∷ [])
      ∷ try_except (tree.Evaluate (called f []) ∷ []) (except_as value_error e (prints (tree.Name e ∷ []) ∷ []) tree.NoClauses)
      ∷ [])
      ≡ codes "x\n"
  -- no clause matches
  --     try:
  --         1 // 0
  --     except ValueError:
  --         print('a')
  --     except LookupError:
  --         print('b')
  pub not_caught :
      ends
      (try_except (divides_by_zero ∷ []) (except_of value_error (says (codes "a") ∷ []) (except_of lookup_error (says (codes "b") ∷ []) tree.NoClauses))
      ∷ [])
      ≡ codes "raised ZeroDivisionError: division by zero\n"
  -- the expressions of the clauses are evaluated in order, up to the first that matches
  --     def t(k):
  --         print(k)
  --         return k
  --     try:
  --         1 // 0
  --     except t(KeyError):
  --         print('a')
  --     except t(ArithmeticError):
  --         print('b')
  --     except t(ZeroDivisionError):
  --         print('c')
  pub clauses_in_order :
      ends
      (define t (k ∷ []) (prints (tree.Name k ∷ []) ∷ tree.Return (Some (tree.Name k)) ∷ [])
      ∷ try_except
      (divides_by_zero ∷ [])
      (except_of (called t (key_error ∷ []))
      (says (codes "a") ∷ [])
      (except_of (called t (arithmetic_error ∷ []))
      (says (codes "b") ∷ [])
      (except_of (called t (zero_division_error ∷ [])) (says (codes "c") ∷ []) tree.NoClauses)))
      ∷ [])
      ≡ codes "<class 'KeyError'>\n<class 'ArithmeticError'>\nb\n"
  -- without an exception no clause is looked at
  --     try:
  --         print('a')
  --     except f:
  --         print('b')
  pub no_clause_tested : ends (try_except (says (codes "a") ∷ []) (except_of (tree.Name f) (says (codes "b") ∷ []) tree.NoClauses) ∷ []) ≡ codes "a\n"
  -- a clause with a value that is no kind; the clauses after it do not catch that exception
  --     try:
  --         1 // 0
  --     except 1:
  --         print('a')
  --     except TypeError:
  --         print('b')
  --     except ZeroDivisionError:
  --         print('c')
  pub no_kind_before_a_match :
      ends
      (try_except
      (divides_by_zero ∷ [])
      (except_of (int 1)
      (says (codes "a") ∷ [])
      (except_of type_error (says (codes "b") ∷ []) (except_of zero_division_error (says (codes "c") ∷ []) tree.NoClauses)))
      ∷ [])
      ≡ codes "raised TypeError: wrong type\n"
  --     try:
  --         1 // 0
  --     except ZeroDivisionError:
  --         print('a')
  --     except 1:
  --         print('b')
  pub no_kind_after_a_match :
      ends
      (try_except (divides_by_zero ∷ []) (except_of zero_division_error (says (codes "a") ∷ []) (except_of (int 1) (says (codes "b") ∷ []) tree.NoClauses))
      ∷ [])
      ≡ codes "a\n"
  --     try:
  --         1 // 0
  --     except ZeroDivisionError():
  --         print('a')
  pub exception_is_no_kind :
      ends (try_except (divides_by_zero ∷ []) (except_of (new zero_division_error []) (says (codes "a") ∷ []) tree.NoClauses) ∷ [])
      ≡ codes "raised TypeError: wrong type\n"
  -- a kind catches what stands under it
  --     try:
  --         1 // 0
  --     except ArithmeticError:
  --         print('a')
  --     try:
  --         raise KeyError
  --     except BaseException:
  --         print('b')
  pub base_kind_catches :
      ends
      (try_except (divides_by_zero ∷ []) (except_of arithmetic_error (says (codes "a") ∷ []) tree.NoClauses)
      ∷ try_except (raises key_error ∷ []) (except_of base_exception (says (codes "b") ∷ []) tree.NoClauses)
      ∷ [])
      ≡ codes "a\nb\n"
  -- and not what stands above it
  --     try:
  --         raise ArithmeticError('x')
  --     except ZeroDivisionError:
  --         print('a')
  pub kind_above_not_caught :
      ends (try_except (raises (new arithmetic_error (str (codes "x") ∷ [])) ∷ []) (except_of zero_division_error (says (codes "a") ∷ []) tree.NoClauses) ∷ [])
      ≡ codes "raised ArithmeticError: x\n"
  --     k = LookupError
  --     try:
  --         raise IndexError('x')
  --     except k as e:
  --         print(repr(e))
  pub kind_by_another_name :
      ends
      (tree.Assign (tree.only (tree.Named k)) lookup_error
      ∷ try_except (raises (new index_error (str (codes "x") ∷ [])) ∷ []) (except_as (tree.Name k) e (prints (a_repr (tree.Name e) ∷ []) ∷ []) tree.NoClauses)
      ∷ [])
      ≡ codes "IndexError('x')\n"
  --     try:
  --         print(x)
  --     except:
  --         print('a')
  pub bare_clause : ends (try_except (prints (tree.Name x ∷ []) ∷ []) (except_any (says (codes "a") ∷ []) tree.NoClauses) ∷ []) ≡ codes "a\n"
  --     def f():
  --         print(x)
  --         x = 1
  --     try:
  --         f()
  --     except NameError as e:
  --         print(e)
  pub caught_unbound_local :
      ends
      (define f [] (prints (tree.Name x ∷ []) ∷ tree.Assign (tree.only (tree.Named x)) (int 1) ∷ [])
      ∷ try_except (tree.Evaluate (called f []) ∷ []) (except_as name_error e (prints (tree.Name e ∷ []) ∷ []) tree.NoClauses)
      ∷ [])
      ≡ codes "local x is not bound\n"
  -- one call too many within each other
  --     def f():
  --         f()
  --     try:
  --         f()
  --     except RecursionError as e:
  --         print(e)
  pub caught_too_deep :
      ends
      (define f [] (tree.Evaluate (called f []) ∷ [])
      ∷ try_except (tree.Evaluate (called f []) ∷ []) (except_as recursion_error e (prints (tree.Name e ∷ []) ∷ []) tree.NoClauses)
      ∷ [])
      ≡ codes "too deep\n"
  -- an exception of a clause is not caught beside it
  --     try:
  --         1 // 0
  --     except ZeroDivisionError:
  --         raise KeyError('a')
  --     except KeyError:
  --         print('b')
  pub raised_in_a_clause :
      ends
      (try_except
      (divides_by_zero ∷ [])
      (except_of zero_division_error
      (raises (new key_error (str (codes "a") ∷ [])) ∷ [])
      (except_of key_error (says (codes "b") ∷ []) tree.NoClauses))
      ∷ [])
      ≡ codes "raised KeyError: 'a'\n"
  -- nor is one of a clause's expression
  --     try:
  --         1 // 0
  --     except x:
  --         print('a')
  --     except NameError:
  --         print('b')
  pub raised_in_a_test :
      ends (try_except (divides_by_zero ∷ []) (except_of (tree.Name x) (says (codes "a") ∷ []) (except_of name_error (says (codes "b") ∷ []) tree.NoClauses)) ∷ [])
      ≡ codes "raised NameError: name x is not defined\n"
  -- it is caught further out
  --     try:
  --         try:
  --             1 // 0
  --         except ZeroDivisionError:
  --             raise KeyError('a')
  --     except KeyError as e:
  --         print(e)
  pub caught_outside :
      ends
      (try_except
      (try_except (divides_by_zero ∷ []) (except_of zero_division_error (raises (new key_error (str (codes "a") ∷ [])) ∷ []) tree.NoClauses) ∷ [])
      (except_as key_error e (prints (tree.Name e ∷ []) ∷ []) tree.NoClauses)
      ∷ [])
      ≡ codes "'a'\n"
  -- ---- the name after `as`
  --     e = 1
  --     try:
  --         1 // 0
  --     except ZeroDivisionError as e:
  --         print(e)
  --     print(e)
  pub unbound_after_a_clause :
      ends
      (tree.Assign (tree.only (tree.Named e)) (int 1)
      ∷ try_except (divides_by_zero ∷ []) (except_as zero_division_error e (prints (tree.Name e ∷ []) ∷ []) tree.NoClauses)
      ∷ prints (tree.Name e ∷ [])
      ∷ [])
      ≡ codes "division by zero\nraised NameError: name e is not defined\n"
  --     for i in range(1):
  --         try:
  --             1 // 0
  --         except ZeroDivisionError as e:
  --             break
  --     print(e)
  pub unbound_after_a_break :
      ends_within 1
      (each i (a_range (int 1 ∷ [])) (try_except (divides_by_zero ∷ []) (except_as zero_division_error e (tree.Break ∷ []) tree.NoClauses) ∷ [])
      ∷ prints (tree.Name e ∷ [])
      ∷ [])
      ≡ codes "raised NameError: name e is not defined\n"
  --     try:
  --         try:
  --             1 // 0
  --         except ZeroDivisionError as e:
  --             raise KeyError
  --     except KeyError:
  --         print(e)
  pub unbound_after_an_exception :
      ends
      (try_except
      (try_except (divides_by_zero ∷ []) (except_as zero_division_error e (raises key_error ∷ []) tree.NoClauses) ∷ [])
      (except_of key_error (prints (tree.Name e ∷ []) ∷ []) tree.NoClauses)
      ∷ [])
      ≡ codes "raised NameError: name e is not defined\n"
  -- a value that the suite binds is gone too
  --     try:
  --         1 // 0
  --     except ZeroDivisionError as e:
  --         e = 2
  --         print(e)
  --     print(e)
  pub bound_in_the_clause :
      ends
      (try_except (divides_by_zero ∷ []) (except_as zero_division_error e (tree.Assign (tree.only (tree.Named e)) (int 2) ∷ prints (tree.Name e ∷ []) ∷ []) tree.NoClauses)
      ∷ prints (tree.Name e ∷ [])
      ∷ [])
      ≡ codes "2\nraised NameError: name e is not defined\n"
  --     def f():
  --         try:
  --             1 // 0
  --         except ZeroDivisionError as e:
  --             print(e)
  --         print(e)
  --     f()
  pub local_name_unbound :
      ends
      (define f
      []
      (try_except (divides_by_zero ∷ []) (except_as zero_division_error e (prints (tree.Name e ∷ []) ∷ []) tree.NoClauses) ∷ prints (tree.Name e ∷ []) ∷ [])
      ∷ tree.Evaluate (called f [])
      ∷ [])
      ≡ codes "division by zero\nraised UnboundLocalError: local e is not bound\n"
  -- a global name too, from a function
  --     def f():
  --         global e
  --         try:
  --             1 // 0
  --         except ZeroDivisionError as e:
  --             print(e)
  --     e = 1
  --     f()
  --     print(e)
  pub global_name_unbound :
      ends
      (define f [] (tree.Global (e ∷ []) ∷ try_except (divides_by_zero ∷ []) (except_as zero_division_error e (prints (tree.Name e ∷ []) ∷ []) tree.NoClauses) ∷ [])
      ∷ tree.Assign (tree.only (tree.Named e)) (int 1)
      ∷ tree.Evaluate (called f [])
      ∷ prints (tree.Name e ∷ [])
      ∷ [])
      ≡ codes "division by zero\nraised NameError: name e is not defined\n"
  -- a clause that does not match binds nothing
  --     e = 1
  --     try:
  --         try:
  --             1 // 0
  --         except KeyError as e:
  --             pass
  --     except ZeroDivisionError:
  --         print(e)
  pub not_caught_not_bound :
      ends
      (tree.Assign (tree.only (tree.Named e)) (int 1)
      ∷ try_except
      (try_except (divides_by_zero ∷ []) (except_as key_error e (tree.Pass ∷ []) tree.NoClauses) ∷ [])
      (except_of zero_division_error (prints (tree.Name e ∷ []) ∷ []) tree.NoClauses)
      ∷ [])
      ≡ codes "1\n"
  -- ---- the active exception
  -- it is the same exception
  --     try:
  --         try:
  --             raise ValueError('x')
  --         except ValueError as e:
  --             a = e
  --             raise
  --     except ValueError as b:
  --         print(b, a == b)
  pub raised_again :
      ends
      (try_except
      (try_except
      (raises (new value_error (str (codes "x") ∷ [])) ∷ [])
      (except_as value_error e (tree.Assign (tree.only (tree.Named a)) (tree.Name e) ∷ raises_again ∷ []) tree.NoClauses)
      ∷ [])
      (except_as value_error b (prints (tree.Name b ∷ compared tree.Equal (tree.Name a) (tree.Name b) ∷ []) ∷ []) tree.NoClauses)
      ∷ [])
      ≡ codes "x True\n"
  --     def f():
  --         raise
  --     try:
  --         1 // 0
  --     except ZeroDivisionError:
  --         f()
  pub raised_again_in_a_call :
      ends
      (define f [] (raises_again ∷ [])
      ∷ try_except (divides_by_zero ∷ []) (except_of zero_division_error (tree.Evaluate (called f []) ∷ []) tree.NoClauses)
      ∷ [])
      ≡ codes "raised ZeroDivisionError: division by zero\n"
  -- it is active in the expressions of the clauses
  --     def f():
  --         raise
  --     try:
  --         1 // 0
  --     except f():
  --         print('a')
  pub raised_again_in_a_test :
      ends (define f [] (raises_again ∷ []) ∷ try_except (divides_by_zero ∷ []) (except_of (called f []) (says (codes "a") ∷ []) tree.NoClauses) ∷ [])
      ≡ codes "raised ZeroDivisionError: division by zero\n"
  --     try:
  --         1 // 0
  --     except ZeroDivisionError:
  --         print('a')
  --     raise
  pub none_active_after :
      ends (try_except (divides_by_zero ∷ []) (except_of zero_division_error (says (codes "a") ∷ []) tree.NoClauses) ∷ raises_again ∷ [])
      ≡ codes "a\nraised RuntimeError: no active exception\n"
  --     try:
  --         print('a')
  --     except ValueError:
  --         print('b')
  --     else:
  --         raise
  pub none_active_in_an_else_suite :
      ends (try_else (says (codes "a") ∷ []) (except_of value_error (says (codes "b") ∷ []) tree.NoClauses) (raises_again ∷ []) ∷ [])
      ≡ codes "a\nraised RuntimeError: no active exception\n"
  -- after an inner clause the outer exception is active again
  --     try:
  --         raise KeyError('a')
  --     except KeyError:
  --         try:
  --             1 // 0
  --         except ZeroDivisionError:
  --             print('b')
  --         raise
  pub active_again_after_a_clause :
      ends
      (try_except
      (raises (new key_error (str (codes "a") ∷ [])) ∷ [])
      (except_of key_error
      (try_except (divides_by_zero ∷ []) (except_of zero_division_error (says (codes "b") ∷ []) tree.NoClauses) ∷ raises_again ∷ [])
      tree.NoClauses)
      ∷ [])
      ≡ codes "b\nraised KeyError: 'a'\n"
  --     try:
  --         raise KeyError('a')
  --     except KeyError:
  --         try:
  --             1 // 0
  --         except ZeroDivisionError:
  --             raise
  pub inner_is_active :
      ends
      (try_except
      (raises (new key_error (str (codes "a") ∷ [])) ∷ [])
      (except_of key_error (try_except (divides_by_zero ∷ []) (except_of zero_division_error (raises_again ∷ []) tree.NoClauses) ∷ []) tree.NoClauses)
      ∷ [])
      ≡ codes "raised ZeroDivisionError: division by zero\n"
  --     try:
  --         raise KeyError('a')
  --     except KeyError:
  --         try:
  --             raise
  --         except LookupError as e:
  --             print(e)
  pub active_in_an_inner_suite :
      ends
      (try_except
      (raises (new key_error (str (codes "a") ∷ [])) ∷ [])
      (except_of key_error (try_except (raises_again ∷ []) (except_as lookup_error e (prints (tree.Name e ∷ []) ∷ []) tree.NoClauses) ∷ []) tree.NoClauses)
      ∷ [])
      ≡ codes "'a'\n"
  -- a call leaves what is active as it was
  --     def f():
  --         try:
  --             1 // 0
  --         except ZeroDivisionError:
  --             return 1
  --     try:
  --         raise KeyError('a')
  --     except KeyError:
  --         f()
  --         raise
  pub active_again_after_a_call :
      ends
      (define f [] (try_except (divides_by_zero ∷ []) (except_of zero_division_error (tree.Return (Some (int 1)) ∷ []) tree.NoClauses) ∷ [])
      ∷ try_except (raises (new key_error (str (codes "a") ∷ [])) ∷ []) (except_of key_error (tree.Evaluate (called f []) ∷ raises_again ∷ []) tree.NoClauses)
      ∷ [])
      ≡ codes "raised KeyError: 'a'\n"
  -- in a finally suite the exception that entered it is active, and none if none did
  --     try:
  --         try:
  --             1 // 0
  --         finally:
  --             raise
  --     except ArithmeticError as e:
  --         print(e)
  --     try:
  --         print('a')
  --     finally:
  --         raise
  pub pending_is_active :
      ends
      (try_except (ensured (divides_by_zero ∷ []) (raises_again ∷ []) ∷ []) (except_as arithmetic_error e (prints (tree.Name e ∷ []) ∷ []) tree.NoClauses)
      ∷ ensured (says (codes "a") ∷ []) (raises_again ∷ [])
      ∷ [])
      ≡ codes "division by zero\na\nraised RuntimeError: no active exception\n"
  --     try:
  --         raise KeyError('a')
  --     except KeyError:
  --         try:
  --             1 // 0
  --         finally:
  --             raise
  pub pending_before_outer :
      ends
      (try_except
      (raises (new key_error (str (codes "a") ∷ [])) ∷ [])
      (except_of key_error (ensured (divides_by_zero ∷ []) (raises_again ∷ []) ∷ []) tree.NoClauses)
      ∷ [])
      ≡ codes "raised ZeroDivisionError: division by zero\n"
  -- a finally suite that no exception entered has what is active around it
  --     try:
  --         raise KeyError('a')
  --     except KeyError:
  --         try:
  --             print('b')
  --         finally:
  --             raise
  pub outer_in_a_finally_suite :
      ends
      (try_except
      (raises (new key_error (str (codes "a") ∷ [])) ∷ [])
      (except_of key_error (ensured (says (codes "b") ∷ []) (raises_again ∷ []) ∷ []) tree.NoClauses)
      ∷ [])
      ≡ codes "b\nraised KeyError: 'a'\n"
  --     def f():
  --         raise
  --     try:
  --         try:
  --             1 // 0
  --         finally:
  --             f()
  --     except ArithmeticError as e:
  --         print(e)
  pub pending_is_active_in_a_call :
      ends
      (define f [] (raises_again ∷ [])
      ∷ try_except
      (ensured (divides_by_zero ∷ []) (tree.Evaluate (called f []) ∷ []) ∷ [])
      (except_as arithmetic_error e (prints (tree.Name e ∷ []) ∷ []) tree.NoClauses)
      ∷ [])
      ≡ codes "division by zero\n"
  -- a clause that is left is over before the finally suite runs
  --     def f():
  --         try:
  --             1 // 0
  --         except ZeroDivisionError:
  --             return 'a'
  --         finally:
  --             raise
  --     try:
  --         f()
  --     except RuntimeError as e:
  --         print(e)
  pub none_active_after_a_return :
      ends
      (define f
      []
      (try_finally (divides_by_zero ∷ []) (except_of zero_division_error (tree.Return (Some (str (codes "a"))) ∷ []) tree.NoClauses) [] (raises_again ∷ [])
      ∷ [])
      ∷ try_except (tree.Evaluate (called f []) ∷ []) (except_as runtime_error e (prints (tree.Name e ∷ []) ∷ []) tree.NoClauses)
      ∷ [])
      ≡ codes "no active exception\n"
  -- in an else suite what is active around the `try`
  --     try:
  --         raise KeyError('a')
  --     except KeyError:
  --         try:
  --             print('b')
  --         except ValueError:
  --             print('c')
  --         else:
  --             raise
  pub outer_in_an_else_suite :
      ends
      (try_except
      (raises (new key_error (str (codes "a") ∷ [])) ∷ [])
      (except_of key_error
      (try_else (says (codes "b") ∷ []) (except_of value_error (says (codes "c") ∷ []) tree.NoClauses) (raises_again ∷ []) ∷ [])
      tree.NoClauses)
      ∷ [])
      ≡ codes "b\nraised KeyError: 'a'\n"
  -- ---- else suites
  --     try:
  --         print('a')
  --     except ValueError:
  --         print('b')
  --     else:
  --         print('c')
  pub else_suite :
      ends (try_else (says (codes "a") ∷ []) (except_of value_error (says (codes "b") ∷ []) tree.NoClauses) (says (codes "c") ∷ []) ∷ []) ≡ codes "a\nc\n"
  --     try:
  --         1 // 0
  --     except ZeroDivisionError:
  --         print('a')
  --     else:
  --         print('b')
  pub no_else_after_an_exception :
      ends (try_else (divides_by_zero ∷ []) (except_of zero_division_error (says (codes "a") ∷ []) tree.NoClauses) (says (codes "b") ∷ []) ∷ []) ≡ codes "a\n"
  --     for i in 'abc':
  --         try:
  --             print(i)
  --             break
  --         except ValueError:
  --             print('x')
  --         else:
  --             print('y')
  pub no_else_after_a_break :
      ends_within 1
      (each i (str (codes "abc"))
      (try_else (prints (tree.Name i ∷ []) ∷ tree.Break ∷ []) (except_of value_error (says (codes "x") ∷ []) tree.NoClauses) (says (codes "y") ∷ []) ∷ [])
      ∷ [])
      ≡ codes "a\n"
  --     def f():
  --         try:
  --             return 'a'
  --         except ValueError:
  --             print('b')
  --         else:
  --             print('c')
  --     print(f())
  pub no_else_after_a_return :
      ends
      (define f
      []
      (try_else (tree.Return (Some (str (codes "a"))) ∷ []) (except_of value_error (says (codes "b") ∷ []) tree.NoClauses) (says (codes "c") ∷ []) ∷ [])
      ∷ prints (called f [] ∷ [])
      ∷ [])
      ≡ codes "a\n"
  -- the clauses do not catch an exception of the else suite; the finally suite runs
  --     try:
  --         print('a')
  --     except ValueError:
  --         print('b')
  --     else:
  --         raise ValueError('x')
  --     finally:
  --         print('c')
  pub raised_in_an_else_suite :
      ends
      (try_finally
      (says (codes "a") ∷ [])
      (except_of value_error (says (codes "b") ∷ []) tree.NoClauses)
      (raises (new value_error (str (codes "x") ∷ [])) ∷ [])
      (says (codes "c") ∷ [])
      ∷ [])
      ≡ codes "a\nc\nraised ValueError: x\n"
  -- ---- visits
  -- The wait for the job is visit 1, the `try` 2, its statement 3, the quotient 4, 1 is 5 and 0 is 6. The first clause
  -- is 7, its expression 8; the second 9 and 10. Then `pass` is 11, and to tell the end of the run is visit 12: neither
  -- the name nor what is raised is a visit.
  --     try:
  --         1 // 0
  --     except KeyError:
  --         pass
  --     except ZeroDivisionError as e:
  --         pass
  pub visits_of_clauses :
      end_of (run_of (try_except (divides_by_zero ∷ []) (except_of key_error (tree.Pass ∷ []) (except_as zero_division_error e (tree.Pass ∷ []) tree.NoClauses)) ∷ []))
      ≡ Some (Some (End Returned), 12)
  -- a clause without an expression is a visit too, here 7; the visits before and after it are 6 and 8
  --     try:
  --         1 // 0
  --     except:
  --         pass
  pub visits_of_a_bare_clause : end_of (run_of (try_except (divides_by_zero ∷ []) (except_any (tree.Pass ∷ []) tree.NoClauses) ∷ [])) ≡ Some (Some (End Returned), 9)
  -- `raise ValueError('x')`: the statement is 2, the call 3, its callee 4, the literal 5
  pub visits_of_raise :
      end_of (run_of (raises (new value_error (str (codes "x") ∷ [])) ∷ [])) ≡ Some (Some (End (Raised ValueError (codes "x"))), 6)
  -- ---- messages
  -- `raise 'a'`: the kind and the message with which a run ends
  pub kind_and_message : outcome (run_of (raises (str (codes "a")) ∷ [])) ≡ Raised TypeError (codes "wrong type")
  -- of an exception whose str can't be written
  pub no_message : message_of (Err RecursionError) ≡ codes "<exception str() failed>"
  pub message_too_long : message_of (Err OverflowError) ≡ codes "<exception str() failed>"
  -- 200 exceptions within each other are written, and no more
  --     e = ValueError()
  --     for i in range(199):
  --         e = ValueError(e)
  --     raise e
  pub deepest : ends_within 200 (nested 199 (raises (tree.Name e))) ≡ codes "raised ValueError\n"
  -- the same with `range(200)`, and with `print(e)` after that
  pub too_deep : ends_within 201 (nested 200 (raises (tree.Name e))) ≡ codes "raised ValueError: <exception str() failed>\n"
  pub print_too_deep : ends_within 201 (nested 200 (prints (tree.Name e ∷ []))) ≡ codes "raised RecursionError: too deep\n"
  -- ---- texts of one life
  -- the exception of a text is not active in the next one, and what the first bound is still there
  pub second_text : texts_of (life_of 0 0 two_texts) ≡ codes "division by zero\n" ∷ []
  pub none_active_in_a_second_text : outcome (life_of 0 0 two_texts) ≡ Raised RuntimeError (codes "no active exception")
