-- Worked cases of dicts: what scripts print and how they end, computed from the definitions.
use Rattle.std.specs.Prelude.{◌≡◌, codes, [], ◌∷◌, Some}
use Rattle.si_semantics.specs.Value.{Nothing}
use Rattle.si_semantics.specs.Tree as tree
use Rattle.si_semantics.specs.Worked.Straight.{int, str, suite, compared, print}
use Rattle.si_semantics.specs.Worked.Functions.{f, n, called, prints, define}
use Rattle.si_semantics.specs.Worked.Scripts.{a, b, d, e, k, key_error, a_repr, except_as, try_except, each, ends_within, ends, list_of, dict_of, item, unpacks, set, set_item}
use Rattle.si_semantics.specs.Worked.BuiltIns.{true_value, of_one, printed}
use Rattle.si_semantics.specs.Worked.Tuples.{display}
use Rattle.si_semantics.specs.Worked.Attributes.{method}
use Rattle.si_semantics.specs.Worked.Module.{does}

pub record DictCases : Type 0 where
  -- ---- displays and their text
  --     print({}, {1: 'x', 'k': [None, True]})
  pub displayed :
      printed (dict_of [] ∷ dict_of (int 1 ∷ str (codes "x") ∷ str (codes "k") ∷ list_of (tree.Constant Nothing ∷ true_value ∷ []) ∷ []) ∷ [])
      ≡ codes "{} {1: 'x', 'k': [None, True]}\n"
  --     def f(n):
  --         print(n)
  --         return n
  --     print({f(1): f('a'), f(2): f('b')})
  pub keys_before_values :
      ends
      (define f (n ∷ []) (prints (tree.Name n ∷ []) ∷ tree.Return (Some (tree.Name n)) ∷ [])
      ∷ prints (dict_of (called f (int 1 ∷ []) ∷ called f (str (codes "a") ∷ []) ∷ called f (int 2 ∷ []) ∷ called f (str (codes "b") ∷ []) ∷ []) ∷ [])
      ∷ [])
      ≡ codes "1\na\n2\nb\n{1: 'a', 2: 'b'}\n"
  -- the later value, at the place of the earlier
  --     print({1: 'a', 2: 'b', 1: 'c'})
  pub key_that_comes_again :
      printed (dict_of (int 1 ∷ str (codes "a") ∷ int 2 ∷ str (codes "b") ∷ int 1 ∷ str (codes "c") ∷ []) ∷ [])
      ≡ codes "{1: 'c', 2: 'b'}\n"
  --     print({1: 'a', '1': 'b'})
  pub integers_and_texts_differ : printed (dict_of (int 1 ∷ str (codes "a") ∷ str (codes "1") ∷ str (codes "b") ∷ []) ∷ []) ≡ codes "{1: 'a', '1': 'b'}\n"
  -- all items are evaluated before a key is refused
  --     {[]: print('a'), 1: print('b')}
  pub no_key_after_all_items :
      ends (does (dict_of (list_of [] ∷ print (str (codes "a") ∷ []) ∷ int 1 ∷ print (str (codes "b") ∷ []) ∷ [])) ∷ [])
      ≡ codes "a\nb\nraised TypeError: wrong type\n"
  --     a = {}
  --     a['k'] = a
  --     print(a, [a])
  pub within_itself :
      ends (set a (dict_of []) ∷ set_item (tree.Name a) (str (codes "k")) (tree.Name a) ∷ prints (tree.Name a ∷ list_of (tree.Name a ∷ []) ∷ []) ∷ [])
      ≡ codes "{'k': {...}} [{'k': {...}}]\n"
  --     a = {}
  --     a[1] = [a]
  --     print(a, a[1])
  pub within_a_list_in_itself :
      ends
      (set a (dict_of []) ∷ set_item (tree.Name a) (int 1) (list_of (tree.Name a ∷ [])) ∷ prints (tree.Name a ∷ item (tree.Name a) (int 1) ∷ []) ∷ [])
      ≡ codes "{1: [{...}]} [{1: [...]}]\n"
  -- ---- keys
  -- (this project's own)
  --     a = {}
  --     a[True] = 1
  pub truth_is_no_key : ends (set a (dict_of []) ∷ set_item (tree.Name a) true_value (int 1) ∷ []) ≡ codes "raised TypeError: wrong type\n"
  -- (this project's own)
  --     {None: 1}
  pub none_is_no_key : ends (does (dict_of (tree.Constant Nothing ∷ int 1 ∷ [])) ∷ []) ≡ codes "raised TypeError: wrong type\n"
  -- (this project's own)
  --     {(1,): 1}
  pub tuple_is_no_key : ends (does (dict_of (display (int 1 ∷ []) ∷ int 1 ∷ [])) ∷ []) ≡ codes "raised TypeError: wrong type\n"
  --     {[]: 1}
  pub list_is_no_key : ends (does (dict_of (list_of [] ∷ int 1 ∷ [])) ∷ []) ≡ codes "raised TypeError: wrong type\n"
  --     [] in {}
  pub no_key_is_in_it : ends (does (compared tree.In (list_of []) (dict_of [])) ∷ []) ≡ codes "raised TypeError: wrong type\n"
  -- (this project's own)
  --     a = {1: 2}
  --     a[True]
  pub truth_looked_up : ends (set a (dict_of (int 1 ∷ int 2 ∷ [])) ∷ does (item (tree.Name a) true_value) ∷ []) ≡ codes "raised TypeError: wrong type\n"
  -- ---- `==`, `in` and truth
  --     print({1: 2, 3: 4} == {3: 4, 1: 2}, {1: 2} == {1: 3}, {1: 2} == {2: 2}, {} == [], {1: [2]} == {1: [True + 1]}, {1: 2} == {1: 2, 3: 4})
  pub equal_by_pairs :
      printed
      (compared tree.Equal (dict_of (int 1 ∷ int 2 ∷ int 3 ∷ int 4 ∷ [])) (dict_of (int 3 ∷ int 4 ∷ int 1 ∷ int 2 ∷ []))
      ∷ compared tree.Equal (dict_of (int 1 ∷ int 2 ∷ [])) (dict_of (int 1 ∷ int 3 ∷ []))
      ∷ compared tree.Equal (dict_of (int 1 ∷ int 2 ∷ [])) (dict_of (int 2 ∷ int 2 ∷ []))
      ∷ compared tree.Equal (dict_of []) (list_of [])
      ∷ compared tree.Equal (dict_of (int 1 ∷ list_of (int 2 ∷ []) ∷ []))
      (dict_of (int 1 ∷ list_of (tree.Binary tree.Add true_value (int 1) ∷ []) ∷ []))
      ∷ compared tree.Equal (dict_of (int 1 ∷ int 2 ∷ [])) (dict_of (int 1 ∷ int 2 ∷ int 3 ∷ int 4 ∷ []))
      ∷ [])
      ≡ codes "True False False False True False\n"
  --     a = {}
  --     a[1] = a
  --     b = {}
  --     b[1] = b
  --     print(a == a)
  --     a == b
  pub compared_too_deep :
      ends
      (set a (dict_of [])
      ∷ set_item (tree.Name a) (int 1) (tree.Name a)
      ∷ set b (dict_of [])
      ∷ set_item (tree.Name b) (int 1) (tree.Name b)
      ∷ prints (compared tree.Equal (tree.Name a) (tree.Name a) ∷ [])
      ∷ does (compared tree.Equal (tree.Name a) (tree.Name b))
      ∷ [])
      ≡ codes "True\nraised RecursionError: too deep\n"
  --     a = {1: 'x', 'k': 2}
  --     print(1 in a, 'k' in a, 'x' in a, 2 not in a)
  pub keys_are_in_it :
      ends
      (set a (dict_of (int 1 ∷ str (codes "x") ∷ str (codes "k") ∷ int 2 ∷ []))
      ∷ prints
      (compared tree.In (int 1) (tree.Name a)
      ∷ compared tree.In (str (codes "k")) (tree.Name a)
      ∷ compared tree.In (str (codes "x")) (tree.Name a)
      ∷ compared tree.NotIn (int 2) (tree.Name a)
      ∷ [])
      ∷ [])
      ≡ codes "True True False True\n"
  --     print(bool({}), bool({0: 0}), len({}), len({1: 2, 3: 4}))
  pub truth_and_length :
      printed
      (of_one (codes "bool") (dict_of [])
      ∷ of_one (codes "bool") (dict_of (int 0 ∷ int 0 ∷ []))
      ∷ of_one (codes "len") (dict_of [])
      ∷ of_one (codes "len") (dict_of (int 1 ∷ int 2 ∷ int 3 ∷ int 4 ∷ []))
      ∷ [])
      ≡ codes "False True 0 2\n"
  --     {1: 2} + {3: 4}
  pub not_joined :
      ends (does (tree.Binary tree.Add (dict_of (int 1 ∷ int 2 ∷ [])) (dict_of (int 3 ∷ int 4 ∷ []))) ∷ [])
      ≡ codes "raised TypeError: wrong type\n"
  -- (this project's own)
  --     {1: 2} | {3: 4}
  pub not_united :
      ends (does (tree.Binary tree.BitOr (dict_of (int 1 ∷ int 2 ∷ [])) (dict_of (int 3 ∷ int 4 ∷ []))) ∷ [])
      ≡ codes "raised TypeError: wrong type\n"
  -- ---- subscriptions
  --     a = {1: 'x', 'k': [2]}
  --     print(a[1], a['k'][0])
  pub value_of_a_key :
      ends
      (set a (dict_of (int 1 ∷ str (codes "x") ∷ str (codes "k") ∷ list_of (int 2 ∷ []) ∷ []))
      ∷ prints (item (tree.Name a) (int 1) ∷ item (item (tree.Name a) (str (codes "k"))) (int 0) ∷ [])
      ∷ [])
      ≡ codes "x 2\n"
  --     a = {1: 2}
  --     a['k']
  pub key_that_is_not_there : ends (set a (dict_of (int 1 ∷ int 2 ∷ [])) ∷ does (item (tree.Name a) (str (codes "k"))) ∷ []) ≡ codes "raised KeyError: 'k'\n"
  --     try:
  --         {}[7]
  --     except KeyError as e:
  --         print(e, repr(e))
  pub key_is_the_argument :
      ends
      (try_except (does (item (dict_of []) (int 7)) ∷ [])
      (except_as key_error e (prints (tree.Name e ∷ a_repr (tree.Name e) ∷ []) ∷ []) tree.NoClauses)
      ∷ [])
      ≡ codes "7 KeyError(7)\n"
  -- a replaced value keeps the place of its key, a new key is the last
  --     a = {'a': 1, 2: 'b'}
  --     a['a'] = 5
  --     del a[2]
  --     a[2] = 0
  --     a[3] = 1
  --     print(a)
  pub replaced_and_added :
      ends
      (set a (dict_of (str (codes "a") ∷ int 1 ∷ int 2 ∷ str (codes "b") ∷ []))
      ∷ set_item (tree.Name a) (str (codes "a")) (int 5)
      ∷ tree.Delete (tree.Name a) (int 2)
      ∷ set_item (tree.Name a) (int 2) (int 0)
      ∷ set_item (tree.Name a) (int 3) (int 1)
      ∷ prints (tree.Name a ∷ [])
      ∷ [])
      ≡ codes "{'a': 5, 2: 0, 3: 1}\n"
  --     d = {'a': 1, 2: 'b'}
  --     d['a'] = 5
  --     del d[2]
  --     d[2] = 0
  --     print(d)
  --     d[True] = 1
  pub four_changes :
      ends
      (set d (dict_of (str (codes "a") ∷ int 1 ∷ int 2 ∷ str (codes "b") ∷ []))
      ∷ set_item (tree.Name d) (str (codes "a")) (int 5)
      ∷ tree.Delete (tree.Name d) (int 2)
      ∷ set_item (tree.Name d) (int 2) (int 0)
      ∷ prints (tree.Name d ∷ [])
      ∷ set_item (tree.Name d) true_value (int 1)
      ∷ [])
      ≡ codes "{'a': 5, 2: 0}\nraised TypeError: wrong type\n"
  --     a = {}
  --     del a[1]
  pub no_key_to_delete : ends (set a (dict_of []) ∷ tree.Delete (tree.Name a) (int 1) ∷ []) ≡ codes "raised KeyError: 1\n"
  --     a = {'k': 1, 'l': []}
  --     a['k'] += 2
  --     a['l'] += 'x'
  --     print(a)
  pub augmented :
      ends
      (set a (dict_of (str (codes "k") ∷ int 1 ∷ str (codes "l") ∷ list_of [] ∷ []))
      ∷ tree.AugmentItem (tree.Name a) (str (codes "k")) tree.Add (int 2)
      ∷ tree.AugmentItem (tree.Name a) (str (codes "l")) tree.Add (str (codes "x"))
      ∷ prints (tree.Name a ∷ [])
      ∷ [])
      ≡ codes "{'k': 3, 'l': ['x']}\n"
  --     a = {}
  --     a['k'] += print('a')
  pub augmented_without_its_key :
      ends (set a (dict_of []) ∷ tree.AugmentItem (tree.Name a) (str (codes "k")) tree.Add (print (str (codes "a") ∷ [])) ∷ [])
      ≡ codes "raised KeyError: 'k'\n"
  -- ---- methods
  --     a = {1: 'x'}
  --     print(a.get(1), a.get(2), a.get(2, 'y'), a.get(1, 'y'), a)
  pub values_got :
      ends
      (set a (dict_of (int 1 ∷ str (codes "x") ∷ []))
      ∷ prints
      (method (tree.Name a) (codes "get") (int 1 ∷ [])
      ∷ method (tree.Name a) (codes "get") (int 2 ∷ [])
      ∷ method (tree.Name a) (codes "get") (int 2 ∷ str (codes "y") ∷ [])
      ∷ method (tree.Name a) (codes "get") (int 1 ∷ str (codes "y") ∷ [])
      ∷ tree.Name a
      ∷ [])
      ∷ [])
      ≡ codes "x None y x {1: 'x'}\n"
  --     a = {1: 'x', 2: 'y', 3: 'z'}
  --     print(a.pop(2), a)
  pub values_popped :
      ends
      (set a (dict_of (int 1 ∷ str (codes "x") ∷ int 2 ∷ str (codes "y") ∷ int 3 ∷ str (codes "z") ∷ []))
      ∷ prints (method (tree.Name a) (codes "pop") (int 2 ∷ []) ∷ tree.Name a ∷ [])
      ∷ [])
      ≡ codes "y {1: 'x', 3: 'z'}\n"
  --     a = {}
  --     a.pop('k')
  pub popped_without_its_key :
      ends (set a (dict_of []) ∷ does (method (tree.Name a) (codes "pop") (str (codes "k") ∷ [])) ∷ [])
      ≡ codes "raised KeyError: 'k'\n"
  -- (this project's own)
  --     a = {}
  --     a.pop(1, 2)
  pub popped_with_another_value :
      ends (set a (dict_of []) ∷ does (method (tree.Name a) (codes "pop") (int 1 ∷ int 2 ∷ [])) ∷ [])
      ≡ codes "raised TypeError: wrong arguments\n"
  --     a = {}
  --     a.get()
  pub got_without_a_key : ends (set a (dict_of []) ∷ does (method (tree.Name a) (codes "get") []) ∷ []) ≡ codes "raised TypeError: wrong arguments\n"
  --     a = {}
  --     a.get([])
  pub no_key_got : ends (set a (dict_of []) ∷ does (method (tree.Name a) (codes "get") (list_of [] ∷ [])) ∷ []) ≡ codes "raised TypeError: wrong type\n"
  -- (this project's own)
  --     a = {}
  --     a.keys()
  pub no_views : ends (set a (dict_of []) ∷ does (method (tree.Name a) (codes "keys") []) ∷ []) ≡ codes "raised AttributeError: no attribute keys\n"
  --     a = {}
  --     a.append(1)
  pub not_appended_to :
      ends (set a (dict_of []) ∷ does (method (tree.Name a) (codes "append") (int 1 ∷ [])) ∷ [])
      ≡ codes "raised AttributeError: no attribute append\n"
  -- ---- going over keys
  --     for k in {1: 'x', 'b': 2}:
  --         print(k)
  pub over_keys :
      ends_within 3 (each k (dict_of (int 1 ∷ str (codes "x") ∷ str (codes "b") ∷ int 2 ∷ [])) (prints (tree.Name k ∷ []) ∷ []) ∷ [])
      ≡ codes "1\nb\n"
  --     d = {1: 0}
  --     for k in d:
  --         d['b'] = k
  pub over_a_dict_that_grows :
      ends_within 2 (set d (dict_of (int 1 ∷ int 0 ∷ [])) ∷ each k (tree.Name d) (set_item (tree.Name d) (str (codes "b")) (tree.Name k) ∷ []) ∷ [])
      ≡ codes "raised RuntimeError: dictionary changed size\n"
  --     a = {1: 0, 2: 0}
  --     for k in a:
  --         print(k)
  --         a.pop(k)
  pub over_a_dict_that_shrinks :
      ends_within 2
      (set a (dict_of (int 1 ∷ int 0 ∷ int 2 ∷ int 0 ∷ []))
      ∷ each k (tree.Name a) (prints (tree.Name k ∷ []) ∷ does (method (tree.Name a) (codes "pop") (tree.Name k ∷ [])) ∷ [])
      ∷ [])
      ≡ codes "1\nraised RuntimeError: dictionary changed size\n"
  --     a = {1: 0, 2: 0}
  --     for k in a:
  --         a[k] = k
  --     print(a)
  pub values_changed_meanwhile :
      ends_within 3
      (set a (dict_of (int 1 ∷ int 0 ∷ int 2 ∷ int 0 ∷ []))
      ∷ each k (tree.Name a) (set_item (tree.Name a) (tree.Name k) (tree.Name k) ∷ [])
      ∷ prints (tree.Name a ∷ [])
      ∷ [])
      ≡ codes "{1: 1, 2: 2}\n"
  --     a = {1: 0}
  --     for k in a:
  --         a[2] = k
  --         break
  --     print(a)
  pub left_before_the_next_turn :
      ends_within 2
      (set a (dict_of (int 1 ∷ int 0 ∷ []))
      ∷ each k (tree.Name a) (set_item (tree.Name a) (int 2) (tree.Name k) ∷ tree.Break ∷ [])
      ∷ prints (tree.Name a ∷ [])
      ∷ [])
      ≡ codes "{1: 0, 2: 1}\n"
  -- it goes by position, and looks at the count alone (this project's own)
  --     a = {1: 0, 2: 0}
  --     for k in a:
  --         print(k)
  --         if k == 1:
  --             a.pop(1)
  --             a[3] = 0
  pub as_many_keys_as_before :
      ends_within 3
      (set a (dict_of (int 1 ∷ int 0 ∷ int 2 ∷ int 0 ∷ []))
      ∷ each k (tree.Name a)
      (prints (tree.Name k ∷ [])
      ∷ tree.If (compared tree.Equal (tree.Name k) (int 1))
      (suite (does (method (tree.Name a) (codes "pop") (int 1 ∷ [])) ∷ set_item (tree.Name a) (int 3) (int 0) ∷ []))
      tree.NoStmts
      ∷ [])
      ∷ [])
      ≡ codes "1\n3\n"
  --     a, b = {'x': 1, 2: 3}
  --     print(a, b, list({1: 2}), tuple({1: 2, 'k': 3}))
  pub keys_as_items :
      ends
      (unpacks (tree.Named a ∷ tree.Named b ∷ []) (dict_of (str (codes "x") ∷ int 1 ∷ int 2 ∷ int 3 ∷ []))
      ∷ prints
      (tree.Name a
      ∷ tree.Name b
      ∷ of_one (codes "list") (dict_of (int 1 ∷ int 2 ∷ []))
      ∷ of_one (codes "tuple") (dict_of (int 1 ∷ int 2 ∷ str (codes "k") ∷ int 3 ∷ []))
      ∷ [])
      ∷ [])
      ≡ codes "x 2 [1] (1, 'k')\n"
  -- (this project's own)
  --     bytes({1: 2})
  pub no_bytes_of_it : ends (does (of_one (codes "bytes") (dict_of (int 1 ∷ int 2 ∷ []))) ∷ []) ≡ codes "raised TypeError: wrong type\n"
