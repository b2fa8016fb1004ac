-- Worked cases of lists: what scripts print and how they end, computed from the definitions.
use Rattle.std.specs.Prelude.{◌≡◌, codes, ℕ, zero, suc, ◌+◌, List, [], ◌∷◌, ◌++◌, length, true, false, Some, Ok, Err}
use Rattle.si_plain.specs.declared.kind.Kind.TheVariants.{RecursionError}
use Rattle.si_semantics.specs.Value.{Value, Nothing, Truth, Str, Bytes, Address, Object, Items}
use Rattle.si_semantics.specs.Tree as tree
use Rattle.si_semantics.specs.World.{World}
use Rattle.si_semantics.specs.Text.{max_length, repr_of, repr_in}
use Rattle.si_semantics.specs.Operations.{gave, too_long, are_equal}
use Rattle.si_semantics.specs.Containers.{append, extended}
use Rattle.si_semantics.specs.Attributes.{encodes}
use Rattle.si_semantics.specs.Worked.Straight.{int, str, minus, arguments, compared, print}
use Rattle.si_semantics.specs.Worked.Functions.{f, n, x, called, prints, define}
use Rattle.si_semantics.specs.Worked.Scripts.{a, b, e, value_error, says, new, a_range, a_str, a_repr, raises, except_of, except_as, try_except, ends, list_of, dict_of, item, set, set_item}
use Rattle.si_semantics.specs.Worked.BuiltIns.{true_value, of_one, printed}
use Rattle.si_semantics.specs.Worked.Tuples.{display, first_world, is_broken}
use Rattle.si_semantics.specs.Worked.Attributes.{method}
use Rattle.si_semantics.specs.Worked.Module.{does}

-- ---- values

-- a list in a list and so on, so many, each at the address after that of the one that holds it; the last is empty
abbrev pub lists_within : (address count : ℕ) → List Object
lists_within x zero = Items [] ∷ []
lists_within x (suc n) = Items (Address (x + 1) ∷ []) ∷ lists_within (x + 1) n

-- two such, the second at the address after the last of the first
abbrev pub two_lists_within : ℕ → World
two_lists_within n = record first_world { store = lists_within 0 n ++ lists_within (n + 1) n }

-- ---- the cases

pub record ListCases : Type 0 where
  -- ---- displays and their text
  --     print([], [1], [1, 'a', (), [None, [True]]])
  pub displayed :
      printed
      (list_of []
      ∷ list_of (int 1 ∷ [])
      ∷ list_of (int 1 ∷ str (codes "a") ∷ display [] ∷ list_of (tree.Constant Nothing ∷ list_of (true_value ∷ []) ∷ []) ∷ [])
      ∷ [])
      ≡ codes "[] [1] [1, 'a', (), [None, [True]]]\n"
  --     print([print('a'), print('b')])
  pub items_from_the_left : printed (list_of (print (str (codes "a") ∷ []) ∷ print (str (codes "b") ∷ []) ∷ []) ∷ []) ≡ codes "a\nb\n[None, None]\n"
  --     a = [1]
  --     a.append(a)
  --     print(a)
  pub within_itself :
      ends (set a (list_of (int 1 ∷ [])) ∷ does (method (tree.Name a) (codes "append") (tree.Name a ∷ [])) ∷ prints (tree.Name a ∷ []) ∷ [])
      ≡ codes "[1, [...]]\n"
  --     a = []
  --     a.append((a, 1))
  --     print(a)
  pub within_a_tuple_in_itself :
      ends
      (set a (list_of []) ∷ does (method (tree.Name a) (codes "append") (display (tree.Name a ∷ int 1 ∷ []) ∷ [])) ∷ prints (tree.Name a ∷ []) ∷ [])
      ≡ codes "[([...], 1)]\n"
  -- a tuple is written again where it stands in itself, by a list: it has no identity (this project's own)
  --     a = []
  --     b = (a,)
  --     a.append(b)
  --     print(b)
  pub tuple_in_itself :
      ends
      (set a (list_of [])
      ∷ set b (display (tree.Name a ∷ []))
      ∷ does (method (tree.Name a) (codes "append") (tree.Name b ∷ []))
      ∷ prints (tree.Name b ∷ [])
      ∷ [])
      ≡ codes "([([...],)],)\n"
  --     a = []
  --     a.append(ValueError(a))
  --     print(a)
  pub within_an_exception_in_itself :
      ends
      (set a (list_of []) ∷ does (method (tree.Name a) (codes "append") (new value_error (tree.Name a ∷ []) ∷ [])) ∷ prints (tree.Name a ∷ []) ∷ [])
      ≡ codes "[ValueError([...])]\n"
  -- an exception is written again where it stands in its own list
  --     a = []
  --     e = ValueError(a)
  --     a.append(e)
  --     print(repr(e), e)
  pub an_exception_in_its_list :
      ends
      (set a (list_of [])
      ∷ set e (new value_error (tree.Name a ∷ []))
      ∷ does (method (tree.Name a) (codes "append") (tree.Name e ∷ []))
      ∷ prints (a_repr (tree.Name e) ∷ tree.Name e ∷ [])
      ∷ [])
      ≡ codes "ValueError([ValueError([...])]) [ValueError([...])]\n"
  --     a = [1]
  --     print([a, a])
  pub twice_is_not_within : ends (set a (list_of (int 1 ∷ [])) ∷ prints (list_of (tree.Name a ∷ tree.Name a ∷ []) ∷ []) ∷ []) ≡ codes "[[1], [1]]\n"
  --     a = [1]
  --     b = [a]
  --     a.append(b)
  --     print(a, b)
  pub two_in_each_other :
      ends
      (set a (list_of (int 1 ∷ []))
      ∷ set b (list_of (tree.Name a ∷ []))
      ∷ does (method (tree.Name a) (codes "append") (tree.Name b ∷ []))
      ∷ prints (tree.Name a ∷ tree.Name b ∷ [])
      ∷ [])
      ≡ codes "[1, [[...]]] [[1, [...]]]\n"
  --     print(str(['a']), repr(['a']) == str(['a']))
  pub str_and_repr :
      printed
      (a_str (list_of (str (codes "a") ∷ []))
      ∷ compared tree.Equal (a_repr (list_of (str (codes "a") ∷ []))) (a_str (list_of (str (codes "a") ∷ [])))
      ∷ [])
      ≡ codes "['a'] True\n"
  -- ---- one list under two names
  --     a = [1, 2]
  --     b = a
  --     a += (3,)
  --     print(b, a is None, [] == [])
  pub changed_under_both_names :
      ends
      (set a (list_of (int 1 ∷ int 2 ∷ []))
      ∷ set b (tree.Name a)
      ∷ tree.Augment a tree.Add (display (int 3 ∷ []))
      ∷ prints (tree.Name b ∷ compared tree.Is (tree.Name a) (tree.Constant Nothing) ∷ compared tree.Equal (list_of []) (list_of []) ∷ [])
      ∷ [])
      ≡ codes "[1, 2, 3] False True\n"
  --     def f(n):
  --         n.append(1)
  --     a = []
  --     f(a)
  --     print(a)
  pub changed_in_a_function :
      ends
      (define f (n ∷ []) (does (method (tree.Name n) (codes "append") (int 1 ∷ [])) ∷ [])
      ∷ set a (list_of [])
      ∷ does (called f (tree.Name a ∷ []))
      ∷ prints (tree.Name a ∷ [])
      ∷ [])
      ≡ codes "[1]\n"
  -- an item is set and no name bound, so the name stays global
  --     def f():
  --         a[0] = 2
  --     a = [1]
  --     f()
  --     print(a)
  pub set_without_global :
      ends
      (define f [] (set_item (tree.Name a) (int 0) (int 2) ∷ []) ∷ set a (list_of (int 1 ∷ [])) ∷ does (called f []) ∷ prints (tree.Name a ∷ []) ∷ [])
      ≡ codes "[2]\n"
  -- ---- `==`, `in` and truth
  --     print([1, [2]] == [True, [2]], [1] == [1, 2], [] == (), [[]] != [[]], [1, 2] == [2, 1])
  pub equal_by_items :
      printed
      (compared tree.Equal (list_of (int 1 ∷ list_of (int 2 ∷ []) ∷ [])) (list_of (true_value ∷ list_of (int 2 ∷ []) ∷ []))
      ∷ compared tree.Equal (list_of (int 1 ∷ [])) (list_of (int 1 ∷ int 2 ∷ []))
      ∷ compared tree.Equal (list_of []) (display [])
      ∷ compared tree.NotEqual (list_of (list_of [] ∷ [])) (list_of (list_of [] ∷ []))
      ∷ compared tree.Equal (list_of (int 1 ∷ int 2 ∷ [])) (list_of (int 2 ∷ int 1 ∷ []))
      ∷ [])
      ≡ codes "True False False False False\n"
  --     a = []
  --     a.append(a)
  --     print(a == a, a in a, [a] == [a])
  pub equal_to_itself :
      ends
      (set a (list_of [])
      ∷ does (method (tree.Name a) (codes "append") (tree.Name a ∷ []))
      ∷ prints
      (compared tree.Equal (tree.Name a) (tree.Name a)
      ∷ compared tree.In (tree.Name a) (tree.Name a)
      ∷ compared tree.Equal (list_of (tree.Name a ∷ [])) (list_of (tree.Name a ∷ []))
      ∷ [])
      ∷ [])
      ≡ codes "True True True\n"
  --     a = []
  --     a.append(a)
  --     b = []
  --     b.append(b)
  --     print(a == a)
  --     a == b
  pub compared_too_deep :
      ends
      (set a (list_of [])
      ∷ does (method (tree.Name a) (codes "append") (tree.Name a ∷ []))
      ∷ set b (list_of [])
      ∷ does (method (tree.Name b) (codes "append") (tree.Name b ∷ []))
      ∷ prints (compared tree.Equal (tree.Name a) (tree.Name a) ∷ [])
      ∷ does (compared tree.Equal (tree.Name a) (tree.Name b))
      ∷ [])
      ≡ codes "True\nraised RecursionError: too deep\n"
  -- lists of different lengths are not compared, and nothing after the first items that differ
  --     def f(): pass
  --     print([f] == [f, 1], [1, f] == [2, f])
  pub lengths_before_items :
      ends
      (define f [] (tree.Pass ∷ [])
      ∷ prints
      (compared tree.Equal (list_of (tree.Name f ∷ [])) (list_of (tree.Name f ∷ int 1 ∷ []))
      ∷ compared tree.Equal (list_of (int 1 ∷ tree.Name f ∷ [])) (list_of (int 2 ∷ tree.Name f ∷ []))
      ∷ [])
      ∷ [])
      ≡ codes "False False\n"
  -- (this project's own)
  --     def f(): pass
  --     [f] == [f]
  pub functions_in_it :
      ends (define f [] (tree.Pass ∷ []) ∷ does (compared tree.Equal (list_of (tree.Name f ∷ [])) (list_of (tree.Name f ∷ []))) ∷ [])
      ≡ codes "raised TypeError: wrong type\n"
  --     print(True in [1], [1] in [0, [1]], 2 not in [1], 'a' in ['ab'], [] in [])
  pub items_found :
      printed
      (compared tree.In true_value (list_of (int 1 ∷ []))
      ∷ compared tree.In (list_of (int 1 ∷ [])) (list_of (int 0 ∷ list_of (int 1 ∷ []) ∷ []))
      ∷ compared tree.NotIn (int 2) (list_of (int 1 ∷ []))
      ∷ compared tree.In (str (codes "a")) (list_of (str (codes "ab") ∷ []))
      ∷ compared tree.In (list_of []) (list_of [])
      ∷ [])
      ≡ codes "True True True False False\n"
  -- (this project's own)
  --     [1] < [2]
  pub no_order : ends (does (compared tree.Less (list_of (int 1 ∷ [])) (list_of (int 2 ∷ []))) ∷ []) ≡ codes "raised TypeError: wrong type\n"
  --     print(len([1, 2]), bool([]), bool([0]), not [])
  pub truth_and_length :
      printed
      (of_one (codes "len") (list_of (int 1 ∷ int 2 ∷ []))
      ∷ of_one (codes "bool") (list_of [])
      ∷ of_one (codes "bool") (list_of (int 0 ∷ []))
      ∷ tree.Unary tree.Not (list_of [])
      ∷ [])
      ≡ codes "2 False True True\n"
  --     print([] is None, [] is not True)
  pub is_not_none : printed (compared tree.Is (list_of []) (tree.Constant Nothing) ∷ compared tree.IsNot (list_of []) true_value ∷ []) ≡ codes "False True\n"
  -- ---- `+` and `*` make new lists
  --     a = [1]
  --     b = a + []
  --     b.append(2)
  --     print(a, b, [1] + [2])
  pub joined :
      ends
      (set a (list_of (int 1 ∷ []))
      ∷ set b (tree.Binary tree.Add (tree.Name a) (list_of []))
      ∷ does (method (tree.Name b) (codes "append") (int 2 ∷ []))
      ∷ prints (tree.Name a ∷ tree.Name b ∷ tree.Binary tree.Add (list_of (int 1 ∷ [])) (list_of (int 2 ∷ [])) ∷ [])
      ∷ [])
      ≡ codes "[1] [1, 2] [1, 2]\n"
  --     [1] + (2,)
  pub joined_with_a_tuple : ends (does (tree.Binary tree.Add (list_of (int 1 ∷ [])) (display (int 2 ∷ []))) ∷ []) ≡ codes "raised TypeError: wrong type\n"
  --     [1] + ValueError()
  pub joined_with_an_exception : ends (does (tree.Binary tree.Add (list_of (int 1 ∷ [])) (new value_error [])) ∷ []) ≡ codes "raised TypeError: wrong type\n"
  --     print([1, 2] * 2, 2 * [1], [1] * -1, [1] * True, False * [1])
  pub repeated :
      printed
      (tree.Binary tree.Multiply (list_of (int 1 ∷ int 2 ∷ [])) (int 2)
      ∷ tree.Binary tree.Multiply (int 2) (list_of (int 1 ∷ []))
      ∷ tree.Binary tree.Multiply (list_of (int 1 ∷ [])) (minus (int 1))
      ∷ tree.Binary tree.Multiply (list_of (int 1 ∷ [])) true_value
      ∷ tree.Binary tree.Multiply (tree.Constant (Truth false)) (list_of (int 1 ∷ []))
      ∷ [])
      ≡ codes "[1, 2, 1, 2] [1, 1] [] [1] []\n"
  --     a = [[]] * 2
  --     a[0].append(1)
  --     print(a)
  pub items_are_shared :
      ends
      (set a (tree.Binary tree.Multiply (list_of (list_of [] ∷ [])) (int 2))
      ∷ does (method (item (tree.Name a) (int 0)) (codes "append") (int 1 ∷ []))
      ∷ prints (tree.Name a ∷ [])
      ∷ [])
      ≡ codes "[[1], [1]]\n"
  -- (this project's own)
  --     [0] * 1048577
  pub repeated_too_long : ends (does (tree.Binary tree.Multiply (list_of (int 0 ∷ [])) (int 1048577)) ∷ []) ≡ codes "raised OverflowError: too long\n"
  --     [1] * [1]
  pub repeated_by_a_list : ends (does (tree.Binary tree.Multiply (list_of (int 1 ∷ [])) (list_of (int 1 ∷ []))) ∷ []) ≡ codes "raised TypeError: wrong type\n"
  -- ---- `list`, `tuple` and `bytes`
  --     print(list('ab'), list((1,)), list(range(2)), list(b'a'), list({'k': 1, 2: 3}))
  pub made_of_items :
      printed
      (of_one (codes "list") (str (codes "ab"))
      ∷ of_one (codes "list") (display (int 1 ∷ []))
      ∷ of_one (codes "list") (a_range (int 2 ∷ []))
      ∷ of_one (codes "list") (tree.Constant (Bytes (codes "a")))
      ∷ of_one (codes "list") (dict_of (str (codes "k") ∷ int 1 ∷ int 2 ∷ int 3 ∷ []))
      ∷ [])
      ≡ codes "['a', 'b'] [1] [0, 1] [97] ['k', 2]\n"
  --     a = [1]
  --     b = list(a)
  --     b.append(2)
  --     print(a, b)
  pub a_new_list :
      ends
      (set a (list_of (int 1 ∷ []))
      ∷ set b (of_one (codes "list") (tree.Name a))
      ∷ does (method (tree.Name b) (codes "append") (int 2 ∷ []))
      ∷ prints (tree.Name a ∷ tree.Name b ∷ [])
      ∷ [])
      ≡ codes "[1] [1, 2]\n"
  --     list(5)
  pub made_of_an_integer : ends (does (of_one (codes "list") (int 5)) ∷ []) ≡ codes "raised TypeError: wrong type\n"
  -- (this project's own)
  --     list()
  pub made_of_nothing : ends (does (called (codes "list") []) ∷ []) ≡ codes "raised TypeError: wrong arguments\n"
  --     print(tuple([1, [2]]), bytes([97, True]))
  pub tuples_and_bytes_of_it :
      printed
      (of_one (codes "tuple") (list_of (int 1 ∷ list_of (int 2 ∷ []) ∷ [])) ∷ of_one (codes "bytes") (list_of (int 97 ∷ true_value ∷ [])) ∷ [])
      ≡ codes "(1, [2]) b'a\\x01'\n"
  -- (this project's own)
  --     print(list)
  pub shown_built_in : printed (tree.Name (codes "list") ∷ []) ≡ codes "<built-in list>\n"
  --     bytes([256])
  pub no_byte : ends (does (of_one (codes "bytes") (list_of (int 256 ∷ []))) ∷ []) ≡ codes "raised ValueError: wrong value\n"
  -- (this project's own)
  --     bytes(['a'])
  pub item_that_is_no_byte : ends (does (of_one (codes "bytes") (list_of (str (codes "a") ∷ []))) ∷ []) ≡ codes "raised ValueError: wrong value\n"
  -- ---- subscriptions
  --     a = [1, 2, 3]
  --     print(a[0], a[-1], a[True], a[-3])
  pub items_by_index :
      ends
      (set a (list_of (int 1 ∷ int 2 ∷ int 3 ∷ []))
      ∷ prints
      (item (tree.Name a) (int 0) ∷ item (tree.Name a) (minus (int 1)) ∷ item (tree.Name a) true_value ∷ item (tree.Name a) (minus (int 3)) ∷ [])
      ∷ [])
      ≡ codes "1 3 2 1\n"
  --     a = [1]
  --     a[1]
  pub no_such_item : ends (set a (list_of (int 1 ∷ [])) ∷ does (item (tree.Name a) (int 1)) ∷ []) ≡ codes "raised IndexError: index out of range\n"
  --     a = [1]
  --     a[-2]
  pub before_the_first : ends (set a (list_of (int 1 ∷ [])) ∷ does (item (tree.Name a) (minus (int 2))) ∷ []) ≡ codes "raised IndexError: index out of range\n"
  --     a = [1]
  --     a['a']
  pub index_of_a_wrong_type : ends (set a (list_of (int 1 ∷ [])) ∷ does (item (tree.Name a) (str (codes "a"))) ∷ []) ≡ codes "raised TypeError: wrong type\n"
  --     a = [1, 2, 3]
  --     a[0] = 'x'
  --     a[-1] = a
  --     print(a)
  pub items_set :
      ends
      (set a (list_of (int 1 ∷ int 2 ∷ int 3 ∷ []))
      ∷ set_item (tree.Name a) (int 0) (str (codes "x"))
      ∷ set_item (tree.Name a) (minus (int 1)) (tree.Name a)
      ∷ prints (tree.Name a ∷ [])
      ∷ [])
      ≡ codes "['x', 2, [...]]\n"
  --     a = []
  --     a[0] = 1
  pub no_item_to_set : ends (set a (list_of []) ∷ set_item (tree.Name a) (int 0) (int 1) ∷ []) ≡ codes "raised IndexError: index out of range\n"
  --     a = [1]
  --     a[None] = 1
  pub set_at_a_wrong_type :
      ends (set a (list_of (int 1 ∷ [])) ∷ set_item (tree.Name a) (tree.Constant Nothing) (int 1) ∷ [])
      ≡ codes "raised TypeError: wrong type\n"
  --     a = (1,)
  --     a[0] = 2
  pub item_of_a_tuple_set : ends (set a (display (int 1 ∷ [])) ∷ set_item (tree.Name a) (int 0) (int 2) ∷ []) ≡ codes "raised TypeError: wrong type\n"
  --     a = 'x'
  --     a[0] = 'y'
  pub item_of_a_text_set : ends (set a (str (codes "x")) ∷ set_item (tree.Name a) (int 0) (str (codes "y")) ∷ []) ≡ codes "raised TypeError: wrong type\n"
  --     a = [1, 2, 3, 4]
  --     del a[1]
  --     del a[-1]
  --     print(a)
  pub items_deleted :
      ends
      (set a (list_of (int 1 ∷ int 2 ∷ int 3 ∷ int 4 ∷ []))
      ∷ tree.Delete (tree.Name a) (int 1)
      ∷ tree.Delete (tree.Name a) (minus (int 1))
      ∷ prints (tree.Name a ∷ [])
      ∷ [])
      ≡ codes "[1, 3]\n"
  --     a = [1]
  --     del a[1]
  pub no_item_to_delete : ends (set a (list_of (int 1 ∷ [])) ∷ tree.Delete (tree.Name a) (int 1) ∷ []) ≡ codes "raised IndexError: index out of range\n"
  --     a = [1]
  --     del a['x']
  pub deleted_at_a_wrong_type : ends (set a (list_of (int 1 ∷ [])) ∷ tree.Delete (tree.Name a) (str (codes "x")) ∷ []) ≡ codes "raised TypeError: wrong type\n"
  --     a = (1,)
  --     del a[0]
  pub item_of_a_tuple_deleted : ends (set a (display (int 1 ∷ [])) ∷ tree.Delete (tree.Name a) (int 0) ∷ []) ≡ codes "raised TypeError: wrong type\n"
  -- ---- methods
  --     a = []
  --     print(a.append([1]), a)
  pub appended :
      ends (set a (list_of []) ∷ prints (method (tree.Name a) (codes "append") (list_of (int 1 ∷ []) ∷ []) ∷ tree.Name a ∷ []) ∷ [])
      ≡ codes "None [[1]]\n"
  --     a = [1, 2, 3, 4]
  --     print(a.pop(), a.pop(0), a.pop(-2), a)
  pub popped :
      ends
      (set a (list_of (int 1 ∷ int 2 ∷ int 3 ∷ int 4 ∷ []))
      ∷ prints
      (method (tree.Name a) (codes "pop") []
      ∷ method (tree.Name a) (codes "pop") (int 0 ∷ [])
      ∷ method (tree.Name a) (codes "pop") (minus (int 2) ∷ [])
      ∷ tree.Name a
      ∷ [])
      ∷ [])
      ≡ codes "4 1 2 [3]\n"
  --     a = []
  --     a.pop()
  pub popped_of_none : ends (set a (list_of []) ∷ does (method (tree.Name a) (codes "pop") []) ∷ []) ≡ codes "raised IndexError: index out of range\n"
  --     a = [1]
  --     a.pop(1)
  pub popped_past_the_last :
      ends (set a (list_of (int 1 ∷ [])) ∷ does (method (tree.Name a) (codes "pop") (int 1 ∷ [])) ∷ [])
      ≡ codes "raised IndexError: index out of range\n"
  --     a = []
  --     a.pop('x')
  pub popped_at_a_wrong_type :
      ends (set a (list_of []) ∷ does (method (tree.Name a) (codes "pop") (str (codes "x") ∷ [])) ∷ [])
      ≡ codes "raised TypeError: wrong type\n"
  --     a = []
  --     a.append(1, 2)
  pub two_appended :
      ends (set a (list_of []) ∷ does (method (tree.Name a) (codes "append") (int 1 ∷ int 2 ∷ [])) ∷ [])
      ≡ codes "raised TypeError: wrong arguments\n"
  --     a = []
  --     a.append(x=1)
  pub appended_by_name :
      ends (set a (list_of []) ∷ does (tree.Call (tree.Name a) (Some (codes "append")) (arguments (int 1 ∷ [])) (codes "x" ∷ [])) ∷ [])
      ≡ codes "raised TypeError: wrong arguments\n"
  -- the method is looked for before the arguments; which there are is this project's own
  --     a = []
  --     a.sort(print('a'))
  pub method_that_is_not_there :
      ends (set a (list_of []) ∷ does (method (tree.Name a) (codes "sort") (print (str (codes "a") ∷ []) ∷ [])) ∷ [])
      ≡ codes "raised AttributeError: no attribute sort\n"
  --     a = []
  --     a.append(print('a'), 1)
  pub arguments_before_the_call :
      ends (set a (list_of []) ∷ does (method (tree.Name a) (codes "append") (print (str (codes "a") ∷ []) ∷ int 1 ∷ [])) ∷ [])
      ≡ codes "a\nraised TypeError: wrong arguments\n"
  --     a = [1]
  --     a.append(a.pop())
  --     print(a)
  pub changed_by_its_argument :
      ends
      (set a (list_of (int 1 ∷ []))
      ∷ does (method (tree.Name a) (codes "append") (method (tree.Name a) (codes "pop") [] ∷ []))
      ∷ prints (tree.Name a ∷ [])
      ∷ [])
      ≡ codes "[1]\n"
  -- ---- `join` and `encode`
  --     print(', '.join(['a', 'b', 'c']), ''.join(('x', 'y')), '-'.join('ab'), 'x'.join([]), 'x'.join(['y']))
  pub texts_joined :
      printed
      (method (str (codes ", ")) (codes "join") (list_of (str (codes "a") ∷ str (codes "b") ∷ str (codes "c") ∷ []) ∷ [])
      ∷ method (str []) (codes "join") (display (str (codes "x") ∷ str (codes "y") ∷ []) ∷ [])
      ∷ method (str (codes "-")) (codes "join") (str (codes "ab") ∷ [])
      ∷ method (str (codes "x")) (codes "join") (list_of [] ∷ [])
      ∷ method (str (codes "x")) (codes "join") (list_of (str (codes "y") ∷ []) ∷ [])
      ∷ [])
      ≡ codes "a, b, c xy a-b  y\n"
  --     ','.join(['a', 1])
  pub no_text_to_join :
      ends (does (method (str (codes ",")) (codes "join") (list_of (str (codes "a") ∷ int 1 ∷ []) ∷ [])) ∷ [])
      ≡ codes "raised TypeError: wrong type\n"
  --     ','.join(1)
  pub joined_by_an_integer : ends (does (method (str (codes ",")) (codes "join") (int 1 ∷ [])) ∷ []) ≡ codes "raised TypeError: wrong type\n"
  -- a dict is not joined (this project's own)
  --     ','.join({'a': 1})
  pub keys_joined :
      ends (does (method (str (codes ",")) (codes "join") (dict_of (str (codes "a") ∷ int 1 ∷ []) ∷ [])) ∷ [])
      ≡ codes "raised TypeError: wrong type\n"
  --     print('ab'.encode(), ''.encode())
  pub encoded : printed (method (str (codes "ab")) (codes "encode") [] ∷ method (str []) (codes "encode") [] ∷ []) ≡ codes "b'ab' b''\n"
  -- the characters of numbers 233, 8364 and 128512, of two, three and four bytes
  pub encoded_past_ascii : encodes (Str (233 ∷ 8364 ∷ 128512 ∷ [])) first_world ≡ gave (Bytes (195 ∷ 169 ∷ 226 ∷ 130 ∷ 172 ∷ 240 ∷ 159 ∷ 152 ∷ 128 ∷ [])) first_world
  -- (this project's own)
  --     'a'.encode('utf-8')
  pub encoded_as : ends (does (method (str (codes "a")) (codes "encode") (str (codes "utf-8") ∷ [])) ∷ []) ≡ codes "raised TypeError: wrong arguments\n"
  -- ---- exceptions
  --     raise [ValueError]
  pub list_raised : ends (raises (list_of (value_error ∷ [])) ∷ []) ≡ codes "raised TypeError: wrong type\n"
  --     try:
  --         raise ValueError
  --     except [ValueError]:
  --         print('a')
  pub list_of_kinds :
      ends (try_except (raises value_error ∷ []) (except_of (list_of (value_error ∷ [])) (says (codes "a") ∷ []) tree.NoClauses) ∷ [])
      ≡ codes "raised TypeError: wrong type\n"
  --     a = [1]
  --     try:
  --         raise ValueError(a)
  --     except ValueError as e:
  --         a.append(2)
  --         print(e)
  pub list_as_the_argument :
      ends
      (set a (list_of (int 1 ∷ []))
      ∷ try_except (raises (new value_error (tree.Name a ∷ [])) ∷ [])
      (except_as value_error e (does (method (tree.Name a) (codes "append") (int 2 ∷ [])) ∷ prints (tree.Name e ∷ []) ∷ []) tree.NoClauses)
      ∷ [])
      ≡ codes "[1, 2]\n"
  -- ---- how deep and how many
  pub written_200_deep : is_broken (repr_of 200 (lists_within 0 199) [] (Address 0)) ≡ false
  pub not_201_deep : repr_in (lists_within 0 200) (Address 0) ≡ Err RecursionError
  pub compared_200_deep : are_equal (Address 0) (Address 200) (two_lists_within 199) ≡ Ok true
  pub not_compared_201_deep : are_equal (Address 0) (Address 201) (two_lists_within 200) ≡ Err RecursionError
  -- `append` to a list that has as many items as it may have, and `+=` of one item more than there is room for; in both cases
  -- the store stays as it was
  pub full_list : (x : ℕ) (vs : List Value) (v : Value) (w : World) → length vs ≡ max_length → append x (Some (Items vs)) v w ≡ too_long w
  pub one_item_too_many : (x : ℕ) (vs us : List Value) (w : World) → length vs + length us ≡ max_length + 1 → extended x vs (Some us) w ≡ too_long w
