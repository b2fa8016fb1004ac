-- Worked cases of `for`, ranges, kinds and `repr`: what scripts print and how they end, computed from the definitions.
use Rattle.std.specs.Prelude.{◌≡◌, codes, List, [], ◌∷◌, true, Some, None}
use Rattle.si_semantics.specs.Value.{Nothing, Truth}
use Rattle.si_semantics.specs.Tree as tree
use Rattle.si_semantics.specs.Tree.{Stmt}
use Rattle.si_semantics.specs.Life.{Returned, End, end_of, texts_of}
use Rattle.si_semantics.specs.Worked.Straight.{int, str, minus, suite, compared, run_within}
use Rattle.si_semantics.specs.Worked.Functions.{f, x, called, prints, define}
use Rattle.si_semantics.specs.Worked.Scripts.{a, c, e, i, lookup_error, index_error, key_error, type_error, value_error, says, divides_by_zero, new, a_range, a_str, a_repr, raises, except_as, try_except, each, each_else, ends_within, ends}

-- ---- scripts

-- `for i in range(3): print(i)`
abbrev pub three_turns : List Stmt
three_turns = each i (a_range (int 3 ∷ [])) (prints (tree.Name i ∷ []) ∷ []) ∷ []

-- ---- the cases

pub record ItemCases : Type 0 where
  -- ---- `for`
  --     for i in range(3):
  --         print(i)
  pub over_a_range : ends_within 4 (each i (a_range (int 3 ∷ [])) (prints (tree.Name i ∷ []) ∷ []) ∷ []) ≡ codes "0\n1\n2\n"
  --     for i in range(0, 7, 3):
  --         print(i)
  pub steps_of_three : ends_within 4 (each i (a_range (int 0 ∷ int 7 ∷ int 3 ∷ [])) (prints (tree.Name i ∷ []) ∷ []) ∷ []) ≡ codes "0\n3\n6\n"
  --     for i in range(3, 0, -1):
  --         print(i)
  pub steps_down : ends_within 4 (each i (a_range (int 3 ∷ int 0 ∷ minus (int 1) ∷ [])) (prints (tree.Name i ∷ []) ∷ []) ∷ []) ≡ codes "3\n2\n1\n"
  --     for i in range(2, 2):
  --         print(i)
  --     for i in range(0, 2, -1):
  --         print(i)
  --     for i in '':
  --         print(i)
  --     print('a')
  pub over_nothing :
      ends_within 1
      (each i (a_range (int 2 ∷ int 2 ∷ [])) (prints (tree.Name i ∷ []) ∷ [])
      ∷ each i (a_range (int 0 ∷ int 2 ∷ minus (int 1) ∷ [])) (prints (tree.Name i ∷ []) ∷ [])
      ∷ each i (str []) (prints (tree.Name i ∷ []) ∷ [])
      ∷ says (codes "a")
      ∷ [])
      ≡ codes "a\n"
  -- an item past the integers would lie past the stop
  --     for i in range(9223372036854775800, 9223372036854775807, 5):
  --         print(i)
  pub end_of_the_integers :
      ends_within 3 (each i (a_range (int 9223372036854775800 ∷ int 9223372036854775807 ∷ int 5 ∷ [])) (prints (tree.Name i ∷ []) ∷ []) ∷ [])
      ≡ codes "9223372036854775800\n9223372036854775805\n"
  --     for i in range(-9223372036854775807, -9223372036854775807 - 1, -1):
  --         print(i)
  pub start_of_the_integers :
      ends_within 2
      (each i (a_range (minus (int 9223372036854775807) ∷ tree.Binary tree.Subtract (minus (int 9223372036854775807)) (int 1) ∷ minus (int 1) ∷ []))
      (prints (tree.Name i ∷ []) ∷ [])
      ∷ [])
      ≡ codes "-9223372036854775807\n"
  --     for c in 'ab':
  --         print(c)
  pub over_a_text : ends_within 3 (each c (str (codes "ab")) (prints (tree.Name c ∷ []) ∷ []) ∷ []) ≡ codes "a\nb\n"
  -- the name keeps the last item
  --     for i in range(2):
  --         pass
  --     print(i)
  pub bound_after_the_loop : ends_within 3 (each i (a_range (int 2 ∷ [])) (tree.Pass ∷ []) ∷ prints (tree.Name i ∷ []) ∷ []) ≡ codes "1\n"
  --     for x in '':
  --         pass
  --     print(x)
  pub not_bound_without_an_item : ends_within 1 (each x (str []) (tree.Pass ∷ []) ∷ prints (tree.Name x ∷ []) ∷ []) ≡ codes "raised NameError: name x is not defined\n"
  -- in a function the name is local
  --     i = 'a'
  --     def f():
  --         for i in range(2):
  --             pass
  --         return i
  --     print(f(), i)
  pub local_target :
      ends_within 3
      (tree.Assign (tree.only (tree.Named i)) (str (codes "a"))
      ∷ define f [] (each i (a_range (int 2 ∷ [])) (tree.Pass ∷ []) ∷ tree.Return (Some (tree.Name i)) ∷ [])
      ∷ prints (called f [] ∷ tree.Name i ∷ [])
      ∷ [])
      ≡ codes "1 a\n"
  --     def f():
  --         global i
  --         for i in range(2):
  --             pass
  --     f()
  --     print(i)
  pub global_target :
      ends_within 3 (define f [] (tree.Global (i ∷ []) ∷ each i (a_range (int 2 ∷ [])) (tree.Pass ∷ []) ∷ []) ∷ tree.Evaluate (called f []) ∷ prints (tree.Name i ∷ []) ∷ [])
      ≡ codes "1\n"
  -- what the body binds the name to does not change the next item
  --     for i in range(2):
  --         i = 7
  --         print(i)
  --     print(i)
  pub bound_in_the_body :
      ends_within 3 (each i (a_range (int 2 ∷ [])) (tree.Assign (tree.only (tree.Named i)) (int 7) ∷ prints (tree.Name i ∷ []) ∷ []) ∷ prints (tree.Name i ∷ []) ∷ []) ≡ codes "7\n7\n7\n"
  --     a = 'ab'
  --     for c in a:
  --         a = a + c
  --     print(a)
  pub evaluated_once :
      ends_within 3 (tree.Assign (tree.only (tree.Named a)) (str (codes "ab")) ∷ each c (tree.Name a) (tree.Assign (tree.only (tree.Named a)) (tree.Binary tree.Add (tree.Name a) (tree.Name c)) ∷ []) ∷ prints (tree.Name a ∷ []) ∷ [])
      ≡ codes "abab\n"
  --     for i in 3:
  --         print(i)
  pub over_an_integer : ends (each i (int 3) (prints (tree.Name i ∷ []) ∷ []) ∷ []) ≡ codes "raised TypeError: wrong type\n"
  --     for i in ValueError:
  --         print(i)
  pub over_a_kind : ends (each i value_error (prints (tree.Name i ∷ []) ∷ []) ∷ []) ≡ codes "raised TypeError: wrong type\n"
  --     for i in ValueError('x'):
  --         print(i)
  pub over_an_exception : ends (each i (new value_error (str (codes "x") ∷ [])) (prints (tree.Name i ∷ []) ∷ []) ∷ []) ≡ codes "raised TypeError: wrong type\n"
  --     for a in 'ab':
  --         for i in range(2):
  --             print(a, i)
  pub in_another :
      ends_within 3 (each a (str (codes "ab")) (each i (a_range (int 2 ∷ [])) (prints (tree.Name a ∷ tree.Name i ∷ []) ∷ []) ∷ []) ∷ []) ≡ codes "a 0\na 1\nb 0\nb 1\n"
  --     for i in range(2):
  --         if i == 0:
  --             continue
  --         print(i)
  --     else:
  --         print('a')
  pub else_after_the_items :
      ends_within 3
      (each_else i (a_range (int 2 ∷ []))
      (tree.If (compared tree.Equal (tree.Name i) (int 0)) (suite (tree.Continue ∷ [])) tree.NoStmts ∷ prints (tree.Name i ∷ []) ∷ [])
      (says (codes "a") ∷ [])
      ∷ [])
      ≡ codes "1\na\n"
  --     for i in range(2):
  --         if i == 1:
  --             break
  --         print(i)
  --     else:
  --         print('a')
  --     print('b')
  pub no_else_after_break :
      ends_within 2
      (each_else i (a_range (int 2 ∷ []))
      (tree.If (compared tree.Equal (tree.Name i) (int 1)) (suite (tree.Break ∷ [])) tree.NoStmts ∷ prints (tree.Name i ∷ []) ∷ [])
      (says (codes "a") ∷ [])
      ∷ says (codes "b")
      ∷ [])
      ≡ codes "0\nb\n"
  --     i = 0
  --     while i < 2:
  --         i += 1
  --         continue
  --     else:
  --         print(i)
  pub else_of_a_while :
      ends_within 3
      (tree.Assign (tree.only (tree.Named i)) (int 0)
      ∷ tree.While (compared tree.Less (tree.Name i) (int 2)) (suite (tree.Augment i tree.Add (int 1) ∷ tree.Continue ∷ [])) (suite (prints (tree.Name i ∷ []) ∷ []))
      ∷ [])
      ≡ codes "2\n"
  --     while True:
  --         break
  --     else:
  --         print('a')
  --     print('b')
  pub no_else_of_a_while :
      ends_within 1 (tree.While (tree.Constant (Truth true)) (suite (tree.Break ∷ [])) (suite (says (codes "a") ∷ [])) ∷ says (codes "b") ∷ []) ≡ codes "b\n"
  -- `break` in an else suite belongs to the loop around it
  --     for a in 'ab':
  --         for i in '':
  --             pass
  --         else:
  --             break
  --         print('c')
  --     print(a)
  pub break_in_an_else_suite :
      ends_within 1 (each a (str (codes "ab")) (each_else i (str []) (tree.Pass ∷ []) (tree.Break ∷ []) ∷ says (codes "c") ∷ []) ∷ prints (tree.Name a ∷ []) ∷ [])
      ≡ codes "a\n"
  --     def f():
  --         for i in range(3):
  --             return i
  --         else:
  --             return 'a'
  --     print(f())
  pub returned_from_a_for :
      ends_within 1
      (define f [] (each_else i (a_range (int 3 ∷ [])) (tree.Return (Some (tree.Name i)) ∷ []) (tree.Return (Some (str (codes "a"))) ∷ []) ∷ [])
      ∷ prints (called f [] ∷ [])
      ∷ [])
      ≡ codes "0\n"
  --     for i in range(3):
  --         print(i)
  --         1 // 0
  --     else:
  --         print('a')
  pub raised_in_a_for :
      ends_within 1 (each_else i (a_range (int 3 ∷ [])) (prints (tree.Name i ∷ []) ∷ divides_by_zero ∷ []) (says (codes "a") ∷ []) ∷ [])
      ≡ codes "0\nraised ZeroDivisionError: division by zero\n"
  -- ---- ranges
  --     print(range(3), range(1, 3), range(0, 3, 2), repr(range(0, 3, -1)), range(True))
  pub reprs_of_ranges :
      ends
      (prints
      (a_range (int 3 ∷ [])
      ∷ a_range (int 1 ∷ int 3 ∷ [])
      ∷ a_range (int 0 ∷ int 3 ∷ int 2 ∷ [])
      ∷ a_repr (a_range (int 0 ∷ int 3 ∷ minus (int 1) ∷ []))
      ∷ a_range (tree.Constant (Truth true) ∷ [])
      ∷ [])
      ∷ [])
      ≡ codes "range(0, 3) range(1, 3) range(0, 3, 2) range(0, 3, -1) range(0, 1)\n"
  --     print('a')
  --     range(1, 2, 0)
  pub step_of_nothing : ends (says (codes "a") ∷ tree.Evaluate (a_range (int 1 ∷ int 2 ∷ int 0 ∷ [])) ∷ []) ≡ codes "a\nraised ValueError: wrong value\n"
  --     range('a')
  pub range_of_a_text : ends (tree.Evaluate (a_range (str (codes "a") ∷ [])) ∷ []) ≡ codes "raised TypeError: wrong type\n"
  --     range()
  pub range_of_nothing : ends (tree.Evaluate (a_range []) ∷ []) ≡ codes "raised TypeError: wrong arguments\n"
  -- ranges are equal that have the same items
  --     print(range(0, 3, 2) == range(0, 4, 2), range(0) == range(2, 1, 3), range(0, 1, 2) == range(0, 2, 5),
  --         range(1) == range(2), range(2) == range(1, 3))
  pub same_items :
      ends
      (prints
      (compared tree.Equal (a_range (int 0 ∷ int 3 ∷ int 2 ∷ [])) (a_range (int 0 ∷ int 4 ∷ int 2 ∷ []))
      ∷ compared tree.Equal (a_range (int 0 ∷ [])) (a_range (int 2 ∷ int 1 ∷ int 3 ∷ []))
      ∷ compared tree.Equal (a_range (int 0 ∷ int 1 ∷ int 2 ∷ [])) (a_range (int 0 ∷ int 2 ∷ int 5 ∷ []))
      ∷ compared tree.Equal (a_range (int 1 ∷ [])) (a_range (int 2 ∷ []))
      ∷ compared tree.Equal (a_range (int 2 ∷ [])) (a_range (int 1 ∷ int 3 ∷ []))
      ∷ [])
      ∷ [])
      ≡ codes "True True True False False\n"
  --     print(range(0, 3, 2) == range(0, 3, 1), range(3, 0, -2) == range(3, -1, -2), range(3) != range(0, 3))
  pub other_steps :
      ends
      (prints
      (compared tree.Equal (a_range (int 0 ∷ int 3 ∷ int 2 ∷ [])) (a_range (int 0 ∷ int 3 ∷ int 1 ∷ []))
      ∷ compared tree.Equal (a_range (int 3 ∷ int 0 ∷ minus (int 2) ∷ [])) (a_range (int 3 ∷ minus (int 1) ∷ minus (int 2) ∷ []))
      ∷ compared tree.NotEqual (a_range (int 3 ∷ [])) (a_range (int 0 ∷ int 3 ∷ []))
      ∷ [])
      ∷ [])
      ≡ codes "False True False\n"
  --     print(not range(0), not range(1), not range(0, 2, -1), not range(2, 0, -1))
  pub empty_range_is_false :
      ends
      (prints
      (tree.Unary tree.Not (a_range (int 0 ∷ []))
      ∷ tree.Unary tree.Not (a_range (int 1 ∷ []))
      ∷ tree.Unary tree.Not (a_range (int 0 ∷ int 2 ∷ minus (int 1) ∷ []))
      ∷ tree.Unary tree.Not (a_range (int 2 ∷ int 0 ∷ minus (int 1) ∷ []))
      ∷ [])
      ∷ [])
      ≡ codes "True False True False\n"
  --     range(1) < range(2)
  pub no_order_of_ranges : ends (tree.Evaluate (compared tree.Less (a_range (int 1 ∷ [])) (a_range (int 2 ∷ []))) ∷ []) ≡ codes "raised TypeError: wrong type\n"
  -- ---- kinds and exceptions as values
  --     print(ValueError, KeyError == KeyError, KeyError == LookupError, KeyError != IndexError)
  pub reprs_of_kinds :
      ends
      (prints
      (value_error ∷ compared tree.Equal key_error key_error ∷ compared tree.Equal key_error lookup_error ∷ compared tree.NotEqual key_error index_error ∷ [])
      ∷ [])
      ≡ codes "<class 'ValueError'> True False True\n"
  --     print(repr(ValueError('x')), repr(ValueError()), repr(KeyError(7)), repr(TypeError(None)))
  pub reprs_of_exceptions :
      ends
      (prints
      (a_repr (new value_error (str (codes "x") ∷ []))
      ∷ a_repr (new value_error [])
      ∷ a_repr (new key_error (int 7 ∷ []))
      ∷ a_repr (new type_error (tree.Constant Nothing ∷ []))
      ∷ [])
      ∷ [])
      ≡ codes "ValueError('x') ValueError() KeyError(7) TypeError(None)\n"
  -- the str of an exception is that of its argument, of a KeyError the repr of it
  --     print(ValueError('x'), str(KeyError('a')), KeyError(7), ValueError(7), ValueError(), KeyError(),
  --         IndexError('b'))
  pub strs_of_exceptions :
      ends
      (prints
      (new value_error (str (codes "x") ∷ [])
      ∷ a_str (new key_error (str (codes "a") ∷ []))
      ∷ new key_error (int 7 ∷ [])
      ∷ new value_error (int 7 ∷ [])
      ∷ new value_error []
      ∷ new key_error []
      ∷ new index_error (str (codes "b") ∷ [])
      ∷ [])
      ∷ [])
      ≡ codes "x 'a' 7 7   b\n"
  -- an exception is equal to itself alone
  --     e = ValueError('x')
  --     print(e == e, e == ValueError('x'), e != e, e == 'x', e == ValueError)
  pub exceptions_compared :
      ends
      (tree.Assign (tree.only (tree.Named e)) (new value_error (str (codes "x") ∷ []))
      ∷ prints
      (compared tree.Equal (tree.Name e) (tree.Name e)
      ∷ compared tree.Equal (tree.Name e) (new value_error (str (codes "x") ∷ []))
      ∷ compared tree.NotEqual (tree.Name e) (tree.Name e)
      ∷ compared tree.Equal (tree.Name e) (str (codes "x"))
      ∷ compared tree.Equal (tree.Name e) value_error
      ∷ [])
      ∷ [])
      ≡ codes "True False False False False\n"
  --     print(not ValueError(), not ValueError)
  pub exceptions_are_true : ends (prints (tree.Unary tree.Not (new value_error []) ∷ tree.Unary tree.Not value_error ∷ []) ∷ []) ≡ codes "False False\n"
  --     e = ValueError(KeyError('a'))
  --     print(repr(e), e, repr(IndexError(e)), KeyError(ValueError('b')))
  pub exceptions_of_exceptions :
      ends
      (tree.Assign (tree.only (tree.Named e)) (new value_error (new key_error (str (codes "a") ∷ []) ∷ []))
      ∷ prints (a_repr (tree.Name e) ∷ tree.Name e ∷ a_repr (new index_error (tree.Name e ∷ [])) ∷ new key_error (new value_error (str (codes "b") ∷ []) ∷ []) ∷ [])
      ∷ [])
      ≡ codes "ValueError(KeyError('a')) 'a' IndexError(ValueError(KeyError('a'))) ValueError('b')\n"
  -- at most one (this project's own)
  --     print('a')
  --     ValueError(1, 2)
  pub too_many_arguments : ends (says (codes "a") ∷ tree.Evaluate (new value_error (int 1 ∷ int 2 ∷ [])) ∷ []) ≡ codes "a\nraised TypeError: wrong arguments\n"
  -- some kinds have no built-in name
  --     NotShareableError
  pub kind_that_has_no_name : ends (tree.Evaluate (tree.Name (codes "NotShareableError")) ∷ []) ≡ codes "raised NameError: name NotShareableError is not defined\n"
  -- a global name hides that of a kind
  --     KeyError = ValueError
  --     try:
  --         raise ValueError('x')
  --     except KeyError as e:
  --         print(e)
  pub another_value :
      ends
      (tree.Assign (tree.only (tree.Named (codes "KeyError"))) value_error
      ∷ try_except (raises (new value_error (str (codes "x") ∷ [])) ∷ []) (except_as key_error e (prints (tree.Name e ∷ []) ∷ []) tree.NoClauses)
      ∷ [])
      ≡ codes "x\n"
  -- ---- str and repr
  --     print(str('a'), repr('a'), str(7), repr(7), str(None), repr(True), repr(repr('a')))
  pub strs_and_reprs :
      ends
      (prints
      (a_str (str (codes "a"))
      ∷ a_repr (str (codes "a"))
      ∷ a_str (int 7)
      ∷ a_repr (int 7)
      ∷ a_str (tree.Constant Nothing)
      ∷ a_repr (tree.Constant (Truth true))
      ∷ a_repr (a_repr (str (codes "a")))
      ∷ [])
      ∷ [])
      ≡ codes "a 'a' 7 7 None True \"'a'\"\n"
  --     str(1, 2)
  pub str_of_two : ends (tree.Evaluate (called (codes "str") (int 1 ∷ int 2 ∷ [])) ∷ []) ≡ codes "raised TypeError: wrong arguments\n"
  -- (this project's own)
  --     print(str, repr, range)
  pub shown_built_ins :
      ends (prints (tree.Name (codes "str") ∷ tree.Name (codes "repr") ∷ tree.Name (codes "range") ∷ []) ∷ []) ≡ codes "<built-in str> <built-in repr> <built-in range>\n"
  --     f = str
  --     print(f(7) + 'a', f == str, f == repr)
  pub called_by_another_name :
      ends
      (tree.Assign (tree.only (tree.Named f)) (tree.Name (codes "str"))
      ∷ prints
      (tree.Binary tree.Add (called f (int 7 ∷ [])) (str (codes "a"))
      ∷ compared tree.Equal (tree.Name f) (tree.Name (codes "str"))
      ∷ compared tree.Equal (tree.Name f) (tree.Name (codes "repr"))
      ∷ [])
      ∷ [])
      ≡ codes "7a True False\n"
  -- ---- visits and turns
  -- The wait for the job is visit 1, the loop 2, its literal 3. The first turn is 4, the target 5, `pass` 6;
  -- the second turn, for which there is no item, is 7, and the else suite 8.
  --     for c in 'a':
  --         pass
  --     else:
  --         pass
  pub visits_of_a_for : end_of (run_within 2 (each_else c (str (codes "a")) (tree.Pass ∷ []) (tree.Pass ∷ []) ∷ [])) ≡ Some (Some (End Returned), 9)
  -- with two turns it is cut after the second
  --     for i in range(3):
  --         print(i)
  pub cut_in_a_for : texts_of (run_within 2 three_turns) ≡ codes "0\n" ∷ codes "1\n" ∷ []
  pub no_end_of_a_for : end_of (run_within 2 three_turns) ≡ None
  -- to ask for an item is a turn where there is none too
  pub last_turn_counts : end_of (run_within 3 three_turns) ≡ None
  pub end_of_three_turns : end_of (run_within 4 three_turns) ≡ Some (Some (End Returned), 25)
