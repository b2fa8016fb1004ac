-- Worked cases of scopes: which texts are well scoped, and which names are local, computed from the definitions.
use Rattle.std.specs.Prelude.{◌≡◌, codes, List, [], ◌∷◌, Bool, true, false, Option, Some, None}
use Rattle.si_semantics.specs.Value.{Text}
use Rattle.si_semantics.specs.Tree as tree
use Rattle.si_semantics.specs.Tree.{Stmt, Stmts, Clauses}
use Rattle.si_semantics.specs.Scope.{is_scoped, locals_of}
use Rattle.si_semantics.specs.Worked.Straight.{int, i_name, suite, left_by_break}
use Rattle.si_semantics.specs.Worked.Functions.{f, g, n, x, define, prints}
use Rattle.si_semantics.specs.Worked.Scripts.{i, unpack, unpacks, set_all, set_item}

-- ---- scripts

-- a text of these statements is well scoped
abbrev pub scoped : List Stmt → Bool
scoped body = is_scoped (suite body)

-- the same of a function `f(n)` with these statements for its suite
abbrev pub scoped_in_f : List Stmt → Bool
scoped_in_f body = scoped (define f (n ∷ []) body ∷ [])

-- `global x`
abbrev pub global_x : Stmt
global_x = tree.Global (x ∷ [])

-- `x = 1`
abbrev pub set_x : Stmt
set_x = tree.Assign (tree.only (tree.Named x)) (int 1)

-- `pass` for a suite
abbrev pub nothing : Stmts
nothing = suite (tree.Pass ∷ [])

-- `while n:` with these statements for its body
abbrev pub looped : List Stmt → Stmt
looped body = tree.While (tree.Name n) (suite body) tree.NoStmts

-- `for x in n:` with these statements for its body, and these for its else suite
abbrev pub each_x : (body last : List Stmt) → Stmt
each_x body last = tree.For (tree.Named x) (tree.Name n) (suite body) (suite last)

-- `except NAME:`, or `except:`, with these statements for its suite, and the clauses after it
abbrev pub except : Option Text → List Stmt → Clauses → Clauses
except None body more = tree.MoreClauses None None (suite body) more
except (Some y) body more = tree.MoreClauses (Some (tree.Name y)) None (suite body) more

-- `except n as x:` with these statements for its suite, alone
abbrev pub as_x : List Stmt → Clauses
as_x body = tree.MoreClauses (Some (tree.Name n)) (Some x) (suite body) tree.NoClauses

-- `try: pass`, `finally:` with these statements for its suite
abbrev pub finishes : List Stmt → Stmt
finishes body = tree.Finally nothing tree.NoClauses tree.NoStmts (suite body)

-- `try:` with these statements for its suite, `except: pass`
abbrev pub tries : List Stmt → Stmt
tries body = tree.Try (suite body) (except None (tree.Pass ∷ []) tree.NoClauses) tree.NoStmts

-- the names that are local to `f(n)` with these statements for its suite
abbrev pub locals_in_f : List Stmt → List Text
locals_in_f body = locals_of (record { name = f; parameters = n ∷ []; body = suite body })

-- `x[0] = n`, `x[0] += n` and `del x[0]`
abbrev pub set_x_item : Stmt
set_x_item = set_item (tree.Name x) (int 0) (tree.Name n)

abbrev pub augment_x_item : Stmt
augment_x_item = tree.AugmentItem (tree.Name x) (int 0) tree.Add (tree.Name n)

abbrev pub delete_x_item : Stmt
delete_x_item = tree.Delete (tree.Name x) (int 0)

-- `x, i = n`, and `for x, i in n:` with these statements for its body
abbrev pub unpack_x_i : Stmt
unpack_x_i = unpacks (tree.Named x ∷ tree.Named i ∷ []) (tree.Name n)

abbrev pub each_x_i : List Stmt → Stmt
each_x_i body = tree.For (unpack (tree.Named x ∷ tree.Named i ∷ [])) (tree.Name n) (suite body) tree.NoStmts

-- ---- the cases

pub record ScopeCases : Type 0 where
  -- `break` and `continue` within an `if` in a loop stand in the loop; alone they don't, nor in a loop's else suite
  pub break_in_a_loop : scoped left_by_break ≡ true
  pub break_alone : scoped (tree.If i_name (suite (tree.Break ∷ [])) tree.NoStmts ∷ []) ≡ false
  pub continue_in_an_else_suite : scoped (tree.While i_name (suite (tree.Pass ∷ [])) (suite (tree.Continue ∷ [])) ∷ []) ≡ false
  -- `while n: break` in a function; `while i:` `def f(n): break`: that loop is none of the function
  pub break_in_a_loop_of_a_function : scoped_in_f (tree.While (tree.Name n) (suite (tree.Break ∷ [])) tree.NoStmts ∷ []) ≡ true
  pub break_in_a_function_in_a_loop : scoped (tree.While i_name (suite (define f [] (tree.Break ∷ []) ∷ [])) tree.NoStmts ∷ []) ≡ false
  -- `return` in a loop of a function, and in a text
  pub return_in_a_function : scoped_in_f (tree.While (tree.Name n) (suite (tree.Return (Some (tree.Name n)) ∷ [])) tree.NoStmts ∷ []) ≡ true
  pub return_in_a_text : scoped (tree.Return None ∷ []) ≡ false
  -- `def` in an `if` of a text, and in one of a function
  pub function_in_an_if : scoped (tree.If i_name (suite (define f [] (tree.Pass ∷ []) ∷ [])) tree.NoStmts ∷ []) ≡ true
  pub function_in_a_function : scoped_in_f (tree.If (tree.Name n) (suite (define g [] (tree.Pass ∷ []) ∷ [])) tree.NoStmts ∷ []) ≡ false
  -- `global x`, `x = 1` in a function, and in a text
  pub global_in_a_function : scoped_in_f (global_x ∷ set_x ∷ []) ≡ true
  pub global_in_a_text : scoped (global_x ∷ set_x ∷ []) ≡ false
  -- `global x, x` and `global x` once more
  pub global_twice : scoped_in_f (tree.Global (x ∷ x ∷ []) ∷ global_x ∷ []) ≡ true
  -- `global n` in `f(n)`
  pub global_of_a_parameter : scoped_in_f (tree.Global (n ∷ []) ∷ []) ≡ false
  -- `x = 1`, then `global x`; `print(x)`, then `global x`
  pub global_after_a_binding : scoped_in_f (set_x ∷ global_x ∷ []) ≡ false
  pub global_after_a_use : scoped_in_f (prints (tree.Name x ∷ []) ∷ global_x ∷ []) ≡ false
  -- `if n:` `global x`, then `x = 1`; `if x:` `global x`; `while x:` `global x`
  pub global_in_a_branch : scoped_in_f (tree.If (tree.Name n) (suite (global_x ∷ [])) tree.NoStmts ∷ set_x ∷ []) ≡ true
  pub global_after_its_test : scoped_in_f (tree.If (tree.Name x) (suite (global_x ∷ [])) tree.NoStmts ∷ []) ≡ false
  pub global_after_the_test_of_a_loop : scoped_in_f (tree.While (tree.Name x) (suite (global_x ∷ [])) tree.NoStmts ∷ []) ≡ false
  -- `if n:` `global x`, `else:` `x = 1`; `if n:` `x = 1`, `else:` `global x`
  pub global_before_an_else_suite : scoped_in_f (tree.If (tree.Name n) (suite (global_x ∷ [])) (suite (set_x ∷ [])) ∷ []) ≡ true
  pub global_in_an_else_suite : scoped_in_f (tree.If (tree.Name n) (suite (set_x ∷ [])) (suite (global_x ∷ [])) ∷ []) ≡ false
  -- `def f(n, x): pass`, and `def f(n, n): pass`
  pub two_parameters : scoped (define f (n ∷ x ∷ []) (tree.Pass ∷ []) ∷ []) ≡ true
  pub doubled_parameter : scoped (define f (n ∷ n ∷ []) (tree.Pass ∷ []) ∷ []) ≡ false
  -- `def f(n):` `global x`, `x = 1`, `i = x`, `if i:` `n = 1`, `i += 1`: the parameter first, then what is bound and
  -- not global, once
  pub locals :
      locals_in_f (global_x ∷ set_x ∷ tree.Assign (tree.only (tree.Named (codes "i"))) (tree.Name x) ∷ tree.If i_name (suite (tree.Assign (tree.only (tree.Named n)) (int 1) ∷ tree.Augment (codes "i") tree.Add (int 1) ∷ [])) tree.NoStmts ∷ [])
      ≡ n ∷ codes "i" ∷ []
  -- `while n: pass`, `else: x = 1`; `while n: global x`, `else: x = 1`; `while n: x = 1`, `else: global x`
  pub binding_in_an_else_suite : locals_in_f (tree.While (tree.Name n) nothing (suite (set_x ∷ [])) ∷ []) ≡ n ∷ x ∷ []
  pub global_in_front_of_a_loops_else_suite : scoped_in_f (tree.While (tree.Name n) (suite (global_x ∷ [])) (suite (set_x ∷ [])) ∷ []) ≡ true
  pub global_in_a_loops_else_suite : scoped_in_f (tree.While (tree.Name n) (suite (set_x ∷ [])) (suite (global_x ∷ [])) ∷ []) ≡ false
  -- `while n:` with `while x: pass`, `else: break` in it: the else suite stands in the outer loop
  pub break_in_an_inner_else_suite : scoped_in_f (looped (tree.While (tree.Name x) nothing (suite (tree.Break ∷ [])) ∷ []) ∷ []) ≡ true
  -- `for x in n: break`, in a function and in a text; `for x in n: pass`, `else: break`
  pub break_in_a_for : scoped_in_f (each_x (tree.Break ∷ []) [] ∷ []) ≡ true
  pub continue_in_a_for_of_a_text : scoped (each_x (tree.Continue ∷ []) [] ∷ []) ≡ true
  pub break_in_the_else_suite_of_a_for : scoped_in_f (each_x (tree.Pass ∷ []) (tree.Break ∷ []) ∷ []) ≡ false
  -- `for x in n: i = 1`, `else: x += 1`: the target is local, and what the suites bind
  pub target_is_local : locals_in_f (each_x (tree.Assign (tree.only (tree.Named (codes "i"))) (int 1) ∷ []) (tree.Augment x tree.Add (int 1) ∷ []) ∷ []) ≡ n ∷ x ∷ codes "i" ∷ []
  -- `global x`, then `for x in n: pass`; `for x in n: global x`
  pub global_target : locals_in_f (global_x ∷ each_x (tree.Pass ∷ []) [] ∷ []) ≡ n ∷ []
  pub global_of_a_target : scoped_in_f (each_x (global_x ∷ []) [] ∷ []) ≡ false
  -- `for i in x: global x`
  pub global_of_what_is_gone_over : scoped_in_f (tree.For (tree.Named (codes "i")) (tree.Name x) (suite (global_x ∷ [])) tree.NoStmts ∷ []) ≡ false
  -- `try: pass`, `except n as x: i = 1`, `else: g = 1`; the same with `finally: g = 1` after an empty else suite: `as`
  -- binds, and so do the suites
  pub name_after_as_is_local :
      locals_in_f (tree.Try nothing (as_x (tree.Assign (tree.only (tree.Named (codes "i"))) (int 1) ∷ [])) (suite (tree.Assign (tree.only (tree.Named g)) (int 1) ∷ [])) ∷ []) ≡ n ∷ x ∷ codes "i" ∷ g ∷ []
  pub name_bound_in_a_finally_suite :
      locals_in_f (tree.Finally nothing (as_x (tree.Assign (tree.only (tree.Named (codes "i"))) (int 1) ∷ [])) tree.NoStmts (suite (tree.Assign (tree.only (tree.Named g)) (int 1) ∷ [])) ∷ []) ≡ n ∷ x ∷ codes "i" ∷ g ∷ []
  -- `global x`, then `try: pass`, `except n as x: pass`; `try: pass`, `except n as x: global x`
  pub global_name_after_as : locals_in_f (global_x ∷ tree.Try nothing (as_x (tree.Pass ∷ [])) tree.NoStmts ∷ []) ≡ n ∷ []
  pub global_of_a_name_after_as : scoped_in_f (tree.Try nothing (as_x (global_x ∷ [])) tree.NoStmts ∷ []) ≡ false
  -- `try: x = 1`, `except: global x`
  pub global_in_a_clause : scoped_in_f (tree.Try (suite (set_x ∷ [])) (except None (global_x ∷ []) tree.NoClauses) tree.NoStmts ∷ []) ≡ false
  -- `try: pass`, `except x: pass`, `except: global x`; `try: pass`, `except n: x = 1`, `except: global x`
  pub global_after_the_expression_of_a_clause :
      scoped_in_f (tree.Try nothing (except (Some x) (tree.Pass ∷ []) (except None (global_x ∷ []) tree.NoClauses)) tree.NoStmts ∷ []) ≡ false
  pub global_after_a_clause : scoped_in_f (tree.Try nothing (except (Some n) (set_x ∷ []) (except None (global_x ∷ []) tree.NoClauses)) tree.NoStmts ∷ []) ≡ false
  -- `try: global x`, `except: x = 1`, `else: x = 1`
  pub global_in_front_of_a_clause : scoped_in_f (tree.Try (suite (global_x ∷ [])) (except None (set_x ∷ []) tree.NoClauses) (suite (set_x ∷ [])) ∷ []) ≡ true
  -- `try: pass`, `except: x = 1`, `else: global x`; `try: x = 1`, `finally: global x`
  pub global_in_the_else_suite_of_a_try : scoped_in_f (tree.Try nothing (except None (set_x ∷ []) tree.NoClauses) (suite (global_x ∷ [])) ∷ []) ≡ false
  pub global_in_a_finally_suite : scoped_in_f (tree.Finally (suite (set_x ∷ [])) tree.NoClauses tree.NoStmts (suite (global_x ∷ [])) ∷ []) ≡ false
  -- `raise x`, then `global x`
  pub global_after_a_raise : scoped_in_f (tree.Raise (Some (tree.Name x)) ∷ global_x ∷ []) ≡ false
  -- `try: return`, `except: return`, `else: return`, and then `finally: pass`
  pub return_in_a_try :
      scoped_in_f (tree.Finally (suite (tree.Return None ∷ [])) (except None (tree.Return None ∷ []) tree.NoClauses) (suite (tree.Return None ∷ [])) nothing ∷ []) ≡ true
  -- `while n:` with `try: break`, `except: continue`, `else: break` in it, in a text
  pub break_in_a_try_in_a_loop : scoped (looped (tree.Try (suite (tree.Break ∷ [])) (except None (tree.Continue ∷ []) tree.NoClauses) (suite (tree.Break ∷ [])) ∷ []) ∷ []) ≡ true
  pub break_in_a_clause_alone : scoped (tree.Try nothing (except None (tree.Break ∷ []) tree.NoClauses) tree.NoStmts ∷ []) ≡ false
  -- `try: pass`, `finally: return`; `while n:` with `try: pass`, `finally: break` in it, or `continue`, in a function
  -- and in a text
  pub return_in_a_finally_suite : scoped_in_f (finishes (tree.Return None ∷ []) ∷ []) ≡ false
  pub break_in_a_finally_suite : scoped_in_f (looped (finishes (tree.Break ∷ []) ∷ []) ∷ []) ≡ false
  pub continue_in_a_finally_suite : scoped (looped (finishes (tree.Continue ∷ []) ∷ []) ∷ []) ≡ false
  -- the same within `try: ..`, `except: pass` in the finally suite
  pub return_in_a_try_in_a_finally_suite : scoped_in_f (finishes (tries (tree.Return None ∷ []) ∷ []) ∷ []) ≡ false
  pub break_in_a_try_in_a_finally_suite : scoped_in_f (looped (finishes (tries (tree.Break ∷ []) ∷ []) ∷ []) ∷ []) ≡ false
  pub continue_in_a_try_in_a_finally_suite : scoped (looped (finishes (tries (tree.Continue ∷ []) ∷ []) ∷ []) ∷ []) ≡ false
  -- a loop within the finally suite has its own `break`, and no `return`
  pub break_in_a_loop_in_a_finally_suite : scoped_in_f (finishes (looped (tree.Break ∷ []) ∷ each_x (tree.Continue ∷ []) [] ∷ []) ∷ []) ≡ true
  pub return_in_a_loop_in_a_finally_suite : scoped_in_f (finishes (looped (tree.Return None ∷ []) ∷ []) ∷ []) ≡ false
  -- `def f(n): return` in the finally suite of a text
  pub function_in_a_finally_suite : scoped (finishes (define f (n ∷ []) (tree.Return None ∷ []) ∷ []) ∷ []) ≡ true
  -- `x, i = n`; `x = [g, (i,)] = n`; `for x, i in n: pass`: each name among the targets is local
  pub unpacked_names_are_local : locals_in_f (unpack_x_i ∷ []) ≡ n ∷ x ∷ i ∷ []
  pub names_of_all_targets_are_local :
      locals_in_f (set_all (tree.Named x ∷ unpack (tree.Named g ∷ unpack (tree.Named i ∷ []) ∷ []) ∷ []) (tree.Name n) ∷ []) ≡ n ∷ x ∷ g ∷ i ∷ []
  pub unpacked_targets_of_a_for_are_local : locals_in_f (each_x_i (tree.Pass ∷ []) ∷ []) ≡ n ∷ x ∷ i ∷ []
  -- `x[0] = n`, `x[0] += n`, `del x[0]`, `for x[0] in n: pass`: no name is bound
  pub items_bind_no_name : locals_in_f (set_x_item ∷ augment_x_item ∷ delete_x_item ∷ []) ≡ n ∷ []
  pub item_as_the_target_of_a_for : locals_in_f (tree.For (tree.Item (tree.Name x) (int 0)) (tree.Name n) nothing tree.NoStmts ∷ []) ≡ n ∷ []
  -- `x, i[0] = n`
  pub item_beside_a_name : locals_in_f (unpacks (tree.Named x ∷ tree.Item (tree.Name i) (int 0) ∷ []) (tree.Name n) ∷ []) ≡ n ∷ x ∷ []
  -- `global x`, then `x, i = n`; `x, i = n`, then `global i`; `for x, i in n: global x`
  pub global_among_targets : locals_in_f (global_x ∷ unpack_x_i ∷ []) ≡ n ∷ i ∷ []
  pub global_after_an_unpacking : scoped_in_f (unpack_x_i ∷ tree.Global (i ∷ []) ∷ []) ≡ false
  pub global_of_an_unpacked_target : scoped_in_f (each_x_i (global_x ∷ []) ∷ []) ≡ false
  -- `x[0] = n`, `x[0] += n` or `del x[0]`, then `global x`: each uses the name
  pub global_after_an_item : scoped_in_f (set_x_item ∷ global_x ∷ []) ≡ false
  pub global_after_an_augmented_item : scoped_in_f (augment_x_item ∷ global_x ∷ []) ≡ false
  pub global_after_a_deletion : scoped_in_f (delete_x_item ∷ global_x ∷ []) ≡ false
  -- `[x]` or `{n: x}`, then `global x`
  pub global_after_a_list :
      scoped_in_f (tree.Evaluate (tree.ListDisplay (tree.MoreExprs (tree.Name x) tree.NoExprs)) ∷ global_x ∷ []) ≡ false
  pub global_after_a_dict :
      scoped_in_f (tree.Evaluate (tree.DictDisplay (tree.MoreExprs (tree.Name n) (tree.MoreExprs (tree.Name x) tree.NoExprs))) ∷ global_x ∷ []) ≡ false
