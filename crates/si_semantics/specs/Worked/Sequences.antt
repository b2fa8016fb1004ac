-- Worked cases of `in` and of subscriptions: what scripts print and how they end, computed from the definitions.
use Rattle.std.specs.Prelude.{◌≡◌, codes, [], ◌∷◌}
use Rattle.si_semantics.specs.Value.{Text, Nothing}
use Rattle.si_semantics.specs.Tree as tree
use Rattle.si_semantics.specs.Tree.{Expr}
use Rattle.si_semantics.specs.Worked.Straight.{int, str, minus, compared}
use Rattle.si_semantics.specs.Worked.Functions.{called}
use Rattle.si_semantics.specs.Worked.Scripts.{a_range, ends}
use Rattle.si_semantics.specs.Worked.BuiltIns.{true_value, printed, wrong_type, least_integer}

-- ---- scripts

-- `PART in WHOLE`, `PART not in WHOLE`, `OBJECT[INDEX]`
abbrev pub within : Expr → Expr → Expr
within u v = compared tree.In u v

abbrev pub without : Expr → Expr → Expr
without u v = compared tree.NotIn u v

abbrev pub item : Expr → Expr → Expr
item u v = tree.Subscript u v

-- `'abab'`
abbrev pub abab : Expr
abab = str (codes "abab")

-- `range(10, 0, -3)`: 10, 7, 4, 1
abbrev pub downwards : Expr
downwards = a_range (int 10 ∷ int 0 ∷ minus (int 3) ∷ [])

-- `range(-9223372036854775807 - 1, 9223372036854775807)`
abbrev pub all_integers : Expr
all_integers = a_range (least_integer ∷ int 9223372036854775807 ∷ [])

abbrev pub index_error : Text
index_error = codes "raised IndexError: index out of range\n"

-- ---- the cases

pub record SequenceCases : Type 0 where
  -- ---- `in`
  --     print('ba' in 'abab', '' in '', '' in 'a', 'aa' in 'abab', 'abc' in 'ab', 'b' in '')
  pub parts :
      printed
      (within (str (codes "ba")) abab
      ∷ within (str []) (str [])
      ∷ within (str []) (str (codes "a"))
      ∷ within (str (codes "aa")) abab
      ∷ within (str (codes "abc")) (str (codes "ab"))
      ∷ within (str (codes "b")) (str [])
      ∷ [])
      ≡ codes "True True True False False False\n"
  --     print('ba' not in 'abab', 'c' not in 'abab')
  pub no_parts : printed (without (str (codes "ba")) abab ∷ without (str (codes "c")) abab ∷ []) ≡ codes "False True\n"
  --     print(0 in range(3), 3 in range(3), -1 in range(3), True in range(3), 2 in range(0, 5, 2), 3 in range(0, 5, 2))
  pub items_of_a_range :
      printed
      (within (int 0) (a_range (int 3 ∷ []))
      ∷ within (int 3) (a_range (int 3 ∷ []))
      ∷ within (minus (int 1)) (a_range (int 3 ∷ []))
      ∷ within true_value (a_range (int 3 ∷ []))
      ∷ within (int 2) (a_range (int 0 ∷ int 5 ∷ int 2 ∷ []))
      ∷ within (int 3) (a_range (int 0 ∷ int 5 ∷ int 2 ∷ []))
      ∷ [])
      ≡ codes "True False False True True False\n"
  --     print(10 in range(10, 0, -3), 4 in range(10, 0, -3), 5 in range(10, 0, -3), 0 in range(10, 0, -3))
  pub items_downwards :
      printed (within (int 10) downwards ∷ within (int 4) downwards ∷ within (int 5) downwards ∷ within (int 0) downwards ∷ []) ≡ codes "True True False False\n"
  --     print('a' in range(3), None not in range(3))
  pub no_items : printed (within (str (codes "a")) (a_range (int 3 ∷ [])) ∷ without (tree.Constant Nothing) (a_range (int 3 ∷ [])) ∷ []) ≡ codes "False True\n"
  --     1 in 'abab'
  pub no_part_of_a_text : printed (within (int 1) abab ∷ []) ≡ wrong_type
  --     1 not in 1
  pub in_an_integer : printed (without (int 1) (int 1) ∷ []) ≡ wrong_type
  -- a chain: `'a' in 'ab' in range(3)` is `'a' in 'ab' and 'ab' in range(3)`
  pub chain_of_parts :
      printed (tree.Compare (str (codes "a")) (tree.MoreComparisons tree.In (str (codes "ab")) (tree.MoreComparisons tree.In (a_range (int 3 ∷ [])) tree.NoComparisons)) ∷ [])
      ≡ codes "False\n"
  -- ---- subscriptions
  --     print('abc'[0], 'abc'[2], 'abc'[-1], 'abc'[-3], 'abc'[True])
  pub characters :
      printed
      (item (str (codes "abc")) (int 0)
      ∷ item (str (codes "abc")) (int 2)
      ∷ item (str (codes "abc")) (minus (int 1))
      ∷ item (str (codes "abc")) (minus (int 3))
      ∷ item (str (codes "abc")) true_value
      ∷ [])
      ≡ codes "a c c a b\n"
  --     print('abc'[3])
  pub after_the_last : printed (item (str (codes "abc")) (int 3) ∷ []) ≡ index_error
  --     print('abc'[-4])
  pub before_the_first : printed (item (str (codes "abc")) (minus (int 4)) ∷ []) ≡ index_error
  --     print(''[0])
  pub of_nothing : printed (item (str []) (int 0) ∷ []) ≡ index_error
  --     print(range(10, 0, -3)[1], range(10, 0, -3)[-1], range(5)[4])
  pub numbers : printed (item downwards (int 1) ∷ item downwards (minus (int 1)) ∷ item (a_range (int 5 ∷ [])) (int 4) ∷ []) ≡ codes "7 1 4\n"
  --     print(range(5)[5])
  pub after_the_stop : printed (item (a_range (int 5 ∷ [])) (int 5) ∷ []) ≡ index_error
  -- a range with more items than the greatest integer:
  --     print(range(-9223372036854775807 - 1, 9223372036854775807)[-1])
  --     print(range(-9223372036854775807 - 1, 9223372036854775807)[9223372036854775807])
  pub past_the_integers : printed (item all_integers (minus (int 1)) ∷ item all_integers (int 9223372036854775807) ∷ []) ≡ codes "9223372036854775806 -1\n"
  --     print('abc'['a'])
  pub index_of_a_text : printed (item (str (codes "abc")) (str (codes "a")) ∷ []) ≡ wrong_type
  --     print(7[0])
  pub of_an_integer : printed (item (int 7) (int 0) ∷ []) ≡ wrong_type
  -- the object first, then the index:
  --     print('a')[print('b')]
  pub object_first : ends (tree.Evaluate (item (called (codes "print") (str (codes "a") ∷ [])) (called (codes "print") (str (codes "b") ∷ []))) ∷ []) ≡ codes "a\nb\nraised TypeError: wrong type\n"
