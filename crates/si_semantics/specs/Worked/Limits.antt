-- Worked cases of limits: how deep, how long and how many, computed from the definitions.
use Rattle.std.specs.Prelude.{◌≡◌, codes, ℕ, zero, suc, List, [], ◌∷◌, Some, None}
use Rattle.si_semantics.specs.Tree as tree
use Rattle.si_semantics.specs.Tree.{Stmt, Stmts}
use Rattle.si_semantics.specs.Limits.{depth_of, longest_literal, greatest_in, most_parameters_in, nesting_in}
use Rattle.si_semantics.specs.Worked.Straight.{int, str, minus, arguments, suite, compared, i_name, a_text}
use Rattle.si_semantics.specs.Worked.Functions.{f, n, x, define, prints}
use Rattle.si_semantics.specs.Worked.Scripts.{list_of, dict_of, unpacks}

-- ---- statements

-- `pass` for a suite
abbrev pub nothing : Stmts
nothing = suite (tree.Pass ∷ [])

-- `if i:` in `if i:`, so many
abbrev pub nested : ℕ → Stmts
nested zero = nothing
nested (suc k) = suite (tree.If i_name (nested k) tree.NoStmts ∷ [])

-- `if i: pass`, and so many times `elif i: pass` after it
abbrev pub chained : ℕ → Stmts
chained zero = suite (tree.If i_name nothing tree.NoStmts ∷ [])
chained (suc k) = suite (tree.If i_name nothing (chained k) ∷ [])

-- `x = 'abc'`
abbrev pub set_text : Stmt
set_text = tree.Assign (tree.only (tree.Named x)) (str (codes "abc"))

-- `def f(n, x):` with these statements for its suite
abbrev pub of_two : List Stmt → Stmt
of_two body = define f (n ∷ x ∷ []) body

-- ---- the cases

pub record LimitCases : Type 0 where
  -- `-1 + i if i and -i < i else 'a'`: the literal, the sign, the sum, the choice; beside it the comparison and the `and`
  pub deepest : depth_of (tree.Conditional (tree.Boolean tree.And i_name (arguments (compared tree.Less (minus i_name) i_name ∷ []))) (tree.Binary tree.Add (minus (int 1)) i_name) a_text) ≡ 5
  -- `return -i` in a function in a loop, and `raise i` in a clause of a `try` in an else suite
  pub depth_in_suites :
      greatest_in depth_of (suite (tree.While i_name (suite (of_two (tree.Return (Some (minus i_name)) ∷ []) ∷ []))
      (suite (tree.Try nothing (tree.MoreClauses None None (suite (tree.Raise (Some i_name) ∷ [])) tree.NoClauses) tree.NoStmts ∷ [])) ∷ [])) ≡ 2
  -- `print('a', 'abc' + 'a')`, `print(i)`
  pub longest : greatest_in longest_literal (suite (prints (a_text ∷ tree.Binary tree.Add (str (codes "abc")) a_text ∷ []) ∷ prints (i_name ∷ []) ∷ [])) ≡ 3
  -- `x = 'abc'` in a finally suite, after `except 'a': pass`
  pub longest_in_a_finally_suite :
      greatest_in longest_literal (suite (tree.Finally nothing (tree.MoreClauses (Some a_text) None nothing tree.NoClauses) tree.NoStmts (suite (set_text ∷ [])) ∷ [])) ≡ 3
  -- `for x in i:` with `def f(n, x): pass` for its else suite
  pub parameters : most_parameters_in (suite (tree.For (tree.Named x) i_name nothing (suite (of_two (tree.Pass ∷ []) ∷ [])) ∷ [])) ≡ 2
  -- simple statements; 21 of `if` in each other; one with 30 of `elif`
  pub simple_statements : nesting_in (suite (set_text ∷ tree.Pass ∷ [])) ≡ 0
  pub ifs_in_each_other : nesting_in (nested 21) ≡ 21
  pub elifs_after_each_other : nesting_in (chained 30) ≡ 1
  -- `if i: pass`, `else:` with `if i: pass` and `pass`; with `while i: pass`
  pub if_in_an_else_suite : nesting_in (suite (tree.If i_name nothing (suite (tree.If i_name nothing tree.NoStmts ∷ tree.Pass ∷ [])) ∷ [])) ≡ 2
  pub loop_in_an_else_suite : nesting_in (suite (tree.If i_name nothing (suite (tree.While i_name nothing tree.NoStmts ∷ [])) ∷ [])) ≡ 2
  -- `if i: pass`, `elif i: while i: pass`, `else: pass`
  pub loop_after_an_elif : nesting_in (suite (tree.If i_name nothing (suite (tree.If i_name (suite (tree.While i_name nothing tree.NoStmts ∷ [])) nothing ∷ [])) ∷ [])) ≡ 2
  -- `if i: pass` in the else suite of a loop, in a function
  pub if_in_a_loops_else_suite : nesting_in (suite (of_two (tree.While i_name nothing (chained 0) ∷ []) ∷ [])) ≡ 3
  -- `if i:` in `if i:` in a clause; a finally suite with three
  pub ifs_in_a_clause : nesting_in (suite (tree.Try nothing (tree.MoreClauses None None (nested 2) tree.NoClauses) nothing ∷ [])) ≡ 3
  pub ifs_in_a_finally_suite : nesting_in (suite (tree.Finally (nested 2) tree.NoClauses tree.NoStmts (nested 3) ∷ [])) ≡ 4
  -- `[]`, `{}`, `[[i]]`, `{i: [-i]}`: keys and values add nothing of their own
  pub depth_of_an_empty_list : depth_of (list_of []) ≡ 1
  pub depth_of_an_empty_dict : depth_of (dict_of []) ≡ 1
  pub depth_of_a_list : depth_of (list_of (list_of (i_name ∷ []) ∷ [])) ≡ 3
  pub depth_of_a_dict : depth_of (dict_of (i_name ∷ list_of (minus i_name ∷ []) ∷ [])) ≡ 4
  -- the object and the index of a target count: `x, i[-i] = 1`, `i['abc'] += 1`, `del i['abc']`
  pub depth_in_a_target : greatest_in depth_of (suite (unpacks (tree.Named x ∷ tree.Item i_name (minus i_name) ∷ []) (int 1) ∷ [])) ≡ 2
  pub longest_in_an_augmented_target : greatest_in longest_literal (suite (tree.AugmentItem i_name (str (codes "abc")) tree.Add (int 1) ∷ [])) ≡ 3
  pub longest_in_a_deletion : greatest_in longest_literal (suite (tree.Delete i_name (str (codes "abc")) ∷ [])) ≡ 3
