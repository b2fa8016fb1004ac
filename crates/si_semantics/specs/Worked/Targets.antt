-- Worked cases of assignment, of unpacking and of the targets of `for`: what scripts print and how they end, computed from the
-- definitions.
use Rattle.std.specs.Prelude.{◌≡◌, codes, [], ◌∷◌, Some}
use Rattle.si_semantics.specs.Value.{Bytes}
use Rattle.si_semantics.specs.Tree as tree
use Rattle.si_semantics.specs.Life.{Returned, End, end_of}
use Rattle.si_semantics.specs.Worked.Straight.{int, str, minus, suite, compared, print, run_of}
use Rattle.si_semantics.specs.Worked.Functions.{f, g, n, x, called, prints, define}
use Rattle.si_semantics.specs.Worked.Scripts.{a, b, c, d, e, i, type_error, value_error, says, a_range, except_of, try_except, each, ends_within, ends, list_of, dict_of, unpack, unpacks, set, set_item, set_all}
use Rattle.si_semantics.specs.Worked.Tuples.{display}
use Rattle.si_semantics.specs.Worked.Attributes.{method}
use Rattle.si_semantics.specs.Worked.Module.{does}

pub record TargetCases : Type 0 where
  -- ---- augmented assignment
  --     a = [1]
  --     b = a
  --     a += 'xy'
  --     a += {3: 4}
  --     a += range(2)
  --     a += b'a'
  --     print(b)
  pub any_items_added :
      ends
      (set a (list_of (int 1 ∷ []))
      ∷ set b (tree.Name a)
      ∷ tree.Augment a tree.Add (str (codes "xy"))
      ∷ tree.Augment a tree.Add (dict_of (int 3 ∷ int 4 ∷ []))
      ∷ tree.Augment a tree.Add (a_range (int 2 ∷ []))
      ∷ tree.Augment a tree.Add (tree.Constant (Bytes (codes "a")))
      ∷ prints (tree.Name b ∷ [])
      ∷ [])
      ≡ codes "[1, 'x', 'y', 3, 0, 1, 97]\n"
  --     a = [1, 2]
  --     a += a
  --     print(a)
  pub added_to_itself :
      ends (set a (list_of (int 1 ∷ int 2 ∷ [])) ∷ tree.Augment a tree.Add (tree.Name a) ∷ prints (tree.Name a ∷ []) ∷ [])
      ≡ codes "[1, 2, 1, 2]\n"
  --     a = [1]
  --     a += 2
  pub an_integer_added : ends (set a (list_of (int 1 ∷ [])) ∷ tree.Augment a tree.Add (int 2) ∷ []) ≡ codes "raised TypeError: wrong type\n"
  -- only `+=` changes a list in its place (this project's own)
  --     a = [1]
  --     b = a
  --     a *= 2
  --     print(a, b)
  pub repeated_in_a_new_list :
      ends (set a (list_of (int 1 ∷ [])) ∷ set b (tree.Name a) ∷ tree.Augment a tree.Multiply (int 2) ∷ prints (tree.Name a ∷ tree.Name b ∷ []) ∷ [])
      ≡ codes "[1, 1] [1]\n"
  -- the list is changed before the tuple refuses that its item is set
  --     a = ([1],)
  --     try:
  --         a[0] += [2]
  --     except TypeError:
  --         print(a)
  pub item_of_a_tuple_augmented :
      ends
      (set a (display (list_of (int 1 ∷ []) ∷ []))
      ∷ try_except (tree.AugmentItem (tree.Name a) (int 0) tree.Add (list_of (int 2 ∷ [])) ∷ [])
      (except_of type_error (prints (tree.Name a ∷ []) ∷ []) tree.NoClauses)
      ∷ [])
      ≡ codes "([1, 2],)\n"
  --     a = [1, [2]]
  --     a[0] += 3
  --     a[-1] += 'x'
  --     print(a)
  pub items_augmented :
      ends
      (set a (list_of (int 1 ∷ list_of (int 2 ∷ []) ∷ []))
      ∷ tree.AugmentItem (tree.Name a) (int 0) tree.Add (int 3)
      ∷ tree.AugmentItem (tree.Name a) (minus (int 1)) tree.Add (str (codes "x"))
      ∷ prints (tree.Name a ∷ [])
      ∷ [])
      ≡ codes "[4, [2, 'x']]\n"
  -- object and index are evaluated once, before the right side
  --     def f(n):
  --         print(n)
  --         return n
  --     def g(n):
  --         print('g')
  --         return n
  --     a = [1, 2]
  --     g(a)[f(1)] += f(5)
  --     print(a)
  pub object_index_right_side :
      ends
      (define f (n ∷ []) (prints (tree.Name n ∷ []) ∷ tree.Return (Some (tree.Name n)) ∷ [])
      ∷ define g (n ∷ []) (says (codes "g") ∷ tree.Return (Some (tree.Name n)) ∷ [])
      ∷ set a (list_of (int 1 ∷ int 2 ∷ []))
      ∷ tree.AugmentItem (called g (tree.Name a ∷ [])) (called f (int 1 ∷ [])) tree.Add (called f (int 5 ∷ []))
      ∷ prints (tree.Name a ∷ [])
      ∷ [])
      ≡ codes "g\n1\n5\n[1, 7]\n"
  --     def f():
  --         a[0] = 7
  --         return 1
  --     a = [1]
  --     a[0] += f()
  --     print(a)
  pub read_before_the_right_side :
      ends
      (define f [] (set_item (tree.Name a) (int 0) (int 7) ∷ tree.Return (Some (int 1)) ∷ [])
      ∷ set a (list_of (int 1 ∷ []))
      ∷ tree.AugmentItem (tree.Name a) (int 0) tree.Add (called f [])
      ∷ prints (tree.Name a ∷ [])
      ∷ [])
      ≡ codes "[2]\n"
  --     a = []
  --     a[0] += print('a')
  pub read_before_it_raises :
      ends (set a (list_of []) ∷ tree.AugmentItem (tree.Name a) (int 0) tree.Add (print (str (codes "a") ∷ [])) ∷ [])
      ≡ codes "raised IndexError: index out of range\n"
  -- ---- assignment: the right side, then the targets from the left
  --     def f(n):
  --         print(n)
  --         return n
  --     a = [1, 2]
  --     a[f(0)], a[f(1)] = f('x'), f('y')
  --     print(a)
  pub targets_after_the_right_side :
      ends
      (define f (n ∷ []) (prints (tree.Name n ∷ []) ∷ tree.Return (Some (tree.Name n)) ∷ [])
      ∷ set a (list_of (int 1 ∷ int 2 ∷ []))
      ∷ unpacks (tree.Item (tree.Name a) (called f (int 0 ∷ [])) ∷ tree.Item (tree.Name a) (called f (int 1 ∷ [])) ∷ [])
      (display (called f (str (codes "x") ∷ []) ∷ called f (str (codes "y") ∷ []) ∷ []))
      ∷ prints (tree.Name a ∷ [])
      ∷ [])
      ≡ codes "x\ny\n0\n1\n['x', 'y']\n"
  --     b[print('a')] = print('b')
  pub object_before_the_index :
      ends (set_item (tree.Name b) (print (str (codes "a") ∷ [])) (print (str (codes "b") ∷ [])) ∷ [])
      ≡ codes "b\nraised NameError: name b is not defined\n"
  --     i = 0
  --     a = [1, 2]
  --     i = a[i] = 1
  --     print(a, i)
  pub each_target_after_the_other :
      ends
      (set i (int 0)
      ∷ set a (list_of (int 1 ∷ int 2 ∷ []))
      ∷ set_all (tree.Named i ∷ tree.Item (tree.Name a) (tree.Name i) ∷ []) (int 1)
      ∷ prints (tree.Name a ∷ tree.Name i ∷ [])
      ∷ [])
      ≡ codes "[1, 1] 1\n"
  --     a = b = []
  --     a.append(1)
  --     print(b)
  pub one_value_for_all :
      ends
      (set_all (tree.Named a ∷ tree.Named b ∷ []) (list_of [])
      ∷ does (method (tree.Name a) (codes "append") (int 1 ∷ []))
      ∷ prints (tree.Name b ∷ [])
      ∷ [])
      ≡ codes "[1]\n"
  --     a = b, c = 'xy'
  --     print(a, b, c)
  pub all_bound_to_the_whole :
      ends
      (set_all (tree.Named a ∷ unpack (tree.Named b ∷ tree.Named c ∷ []) ∷ []) (str (codes "xy"))
      ∷ prints (tree.Name a ∷ tree.Name b ∷ tree.Name c ∷ [])
      ∷ [])
      ≡ codes "xy x y\n"
  --     a, b = [1, 2]
  --     [c, d] = 'xy'
  --     (e, (f, g)) = 3, {4: 0, 5: 0}
  --     x, = range(1)
  --     print(a, b, c, d, e, f, g, x)
  pub unpacked :
      ends
      (unpacks (tree.Named a ∷ tree.Named b ∷ []) (list_of (int 1 ∷ int 2 ∷ []))
      ∷ unpacks (tree.Named c ∷ tree.Named d ∷ []) (str (codes "xy"))
      ∷ unpacks (tree.Named e ∷ unpack (tree.Named f ∷ tree.Named g ∷ []) ∷ []) (display (int 3 ∷ dict_of (int 4 ∷ int 0 ∷ int 5 ∷ int 0 ∷ []) ∷ []))
      ∷ unpacks (tree.Named x ∷ []) (a_range (int 1 ∷ []))
      ∷ prints (tree.Name a ∷ tree.Name b ∷ tree.Name c ∷ tree.Name d ∷ tree.Name e ∷ tree.Name f ∷ tree.Name g ∷ tree.Name x ∷ [])
      ∷ [])
      ≡ codes "1 2 x y 3 4 5 0\n"
  --     a, b = 1, 2
  --     a, b = b, a
  --     print(a, b)
  pub exchanged :
      ends
      (unpacks (tree.Named a ∷ tree.Named b ∷ []) (display (int 1 ∷ int 2 ∷ []))
      ∷ unpacks (tree.Named a ∷ tree.Named b ∷ []) (display (tree.Name b ∷ tree.Name a ∷ []))
      ∷ prints (tree.Name a ∷ tree.Name b ∷ [])
      ∷ [])
      ≡ codes "2 1\n"
  -- no target is bound where the count is wrong
  --     a = 0
  --     try:
  --         a, b = 1, 2, 3
  --     except ValueError:
  --         print(a)
  pub too_many_items :
      ends
      (set a (int 0)
      ∷ try_except (unpacks (tree.Named a ∷ tree.Named b ∷ []) (display (int 1 ∷ int 2 ∷ int 3 ∷ [])) ∷ [])
      (except_of value_error (prints (tree.Name a ∷ []) ∷ []) tree.NoClauses)
      ∷ [])
      ≡ codes "0\n"
  --     a, b = 'x'
  pub too_few_items : ends (unpacks (tree.Named a ∷ tree.Named b ∷ []) (str (codes "x")) ∷ []) ≡ codes "raised ValueError: wrong value\n"
  --     a, b = 5
  pub no_items : ends (unpacks (tree.Named a ∷ tree.Named b ∷ []) (int 5) ∷ []) ≡ codes "raised TypeError: wrong type\n"
  --     a = 0
  --     b = ()
  --     try:
  --         a, b[0] = 1, 2
  --     except TypeError:
  --         print(a, b)
  pub bound_before_another_raises :
      ends
      (set a (int 0)
      ∷ set b (display [])
      ∷ try_except (unpacks (tree.Named a ∷ tree.Item (tree.Name b) (int 0) ∷ []) (display (int 1 ∷ int 2 ∷ [])) ∷ [])
      (except_of type_error (prints (tree.Name a ∷ tree.Name b ∷ []) ∷ []) tree.NoClauses)
      ∷ [])
      ≡ codes "1 ()\n"
  -- the items are those before the first target is bound
  --     a = [1, 2]
  --     a[0], a = a
  --     print(a)
  pub items_before_the_targets :
      ends
      (set a (list_of (int 1 ∷ int 2 ∷ []))
      ∷ unpacks (tree.Item (tree.Name a) (int 0) ∷ tree.Named a ∷ []) (tree.Name a)
      ∷ prints (tree.Name a ∷ [])
      ∷ [])
      ≡ codes "2\n"
  --     a = 1
  --     def f():
  --         a, b = 2, 3
  --         return a + b
  --     print(f(), a)
  pub local_targets :
      ends
      (set a (int 1)
      ∷ define f []
      (unpacks (tree.Named a ∷ tree.Named b ∷ []) (display (int 2 ∷ int 3 ∷ []))
      ∷ tree.Return (Some (tree.Binary tree.Add (tree.Name a) (tree.Name b)))
      ∷ [])
      ∷ prints (called f [] ∷ tree.Name a ∷ [])
      ∷ [])
      ≡ codes "5 1\n"
  -- ---- `for`
  --     for x in [1, 'a']:
  --         print(x)
  pub over_items : ends_within 3 (each x (list_of (int 1 ∷ str (codes "a") ∷ [])) (prints (tree.Name x ∷ []) ∷ []) ∷ []) ≡ codes "1\na\n"
  --     a = [3]
  --     for x in a:
  --         if x > 0:
  --             a.append(x - 1)
  --     print(a)
  pub over_a_list_that_grows :
      ends_within 5
      (set a (list_of (int 3 ∷ []))
      ∷ each x (tree.Name a)
      (tree.If (compared tree.Greater (tree.Name x) (int 0))
      (suite (does (method (tree.Name a) (codes "append") (tree.Binary tree.Subtract (tree.Name x) (int 1) ∷ [])) ∷ []))
      tree.NoStmts
      ∷ [])
      ∷ prints (tree.Name a ∷ [])
      ∷ [])
      ≡ codes "[3, 2, 1, 0]\n"
  --     a = [1, 2, 3, 4]
  --     for x in a:
  --         print(x, a.pop())
  pub over_a_list_that_shrinks :
      ends_within 3
      (set a (list_of (int 1 ∷ int 2 ∷ int 3 ∷ int 4 ∷ []))
      ∷ each x (tree.Name a) (prints (tree.Name x ∷ method (tree.Name a) (codes "pop") [] ∷ []) ∷ [])
      ∷ [])
      ≡ codes "1 4\n2 3\n"
  --     a = [1, 2]
  --     for x in a:
  --         a[1] = 7
  --         print(x)
  pub over_a_list_that_changes :
      ends_within 3
      (set a (list_of (int 1 ∷ int 2 ∷ [])) ∷ each x (tree.Name a) (set_item (tree.Name a) (int 1) (int 7) ∷ prints (tree.Name x ∷ []) ∷ []) ∷ [])
      ≡ codes "1\n7\n"
  -- the list is gone over, and not the name
  --     a = [1, 2]
  --     for x in a:
  --         a = []
  --         print(x)
  pub bound_anew_in_the_body :
      ends_within 3 (set a (list_of (int 1 ∷ int 2 ∷ [])) ∷ each x (tree.Name a) (set a (list_of []) ∷ prints (tree.Name x ∷ []) ∷ []) ∷ [])
      ≡ codes "1\n2\n"
  --     for a, (b, c) in [(1, 'xy'), [2, (3, 4)]]:
  --         print(a, b, c)
  pub unpacked_in_a_for :
      ends_within 3
      (tree.For (unpack (tree.Named a ∷ unpack (tree.Named b ∷ tree.Named c ∷ []) ∷ []))
      (list_of (display (int 1 ∷ str (codes "xy") ∷ []) ∷ list_of (int 2 ∷ display (int 3 ∷ int 4 ∷ []) ∷ []) ∷ []))
      (suite (prints (tree.Name a ∷ tree.Name b ∷ tree.Name c ∷ []) ∷ []))
      tree.NoStmts
      ∷ [])
      ≡ codes "1 x y\n2 3 4\n"
  --     for a, b in [(1, 2), (3,)]:
  --         print(a)
  pub count_in_a_for :
      ends_within 2
      (tree.For (unpack (tree.Named a ∷ tree.Named b ∷ [])) (list_of (display (int 1 ∷ int 2 ∷ []) ∷ display (int 3 ∷ []) ∷ []))
      (suite (prints (tree.Name a ∷ []) ∷ []))
      tree.NoStmts
      ∷ [])
      ≡ codes "1\nraised ValueError: wrong value\n"
  --     a = [0, 1]
  --     for a[0] in 'xy':
  --         print(a)
  pub item_as_the_target :
      ends_within 3
      (set a (list_of (int 0 ∷ int 1 ∷ []))
      ∷ tree.For (tree.Item (tree.Name a) (int 0)) (str (codes "xy")) (suite (prints (tree.Name a ∷ []) ∷ [])) tree.NoStmts
      ∷ [])
      ≡ codes "['x', 1]\n['y', 1]\n"
  -- ---- visits
  -- The wait for the job is visit 1, the statement 2, the display 3, its item 4, the targets 5 and 6; then the end of the run is
  -- told.
  --     a = b = [7]
  pub visits_of_two_targets : end_of (run_of (set_all (tree.Named a ∷ tree.Named b ∷ []) (list_of (int 7 ∷ [])) ∷ [])) ≡ Some (Some (End Returned), 7)
  -- `a = [7]` is 2 to 5; then the statement is 6, the literal 7, the target 8, its object 9, its index 10
  --     a = [7]
  --     a[0] = 1
  pub visits_of_an_item : end_of (run_of (set a (list_of (int 7 ∷ [])) ∷ set_item (tree.Name a) (int 0) (int 1) ∷ [])) ≡ Some (Some (End Returned), 11)
  -- the statement is 6, the target 7, its object 8, its index 9, the right side 10
  --     a = [7]
  --     a[0] += 1
  pub visits_of_an_augmented_item : end_of (run_of (set a (list_of (int 7 ∷ [])) ∷ tree.AugmentItem (tree.Name a) (int 0) tree.Add (int 1) ∷ [])) ≡ Some (Some (End Returned), 11)
  --     a = [7]
  --     del a[0]
  pub visits_of_a_deletion : end_of (run_of (set a (list_of (int 7 ∷ [])) ∷ tree.Delete (tree.Name a) (int 0) ∷ [])) ≡ Some (Some (End Returned), 10)
  -- after the wait for the job: the statement, its text, the targets in a row, and each of the two
  --     a, b = 'xy'
  pub visits_of_an_unpacking : end_of (run_of (unpacks (tree.Named a ∷ tree.Named b ∷ []) (str (codes "xy")) ∷ [])) ≡ Some (Some (End Returned), 7)
