-- Which names are local, and where statements stand (Python Language Reference 3.14, 4.2.2, 7.6, 7.9, 7.10, 7.12 and
-- 8.7).
use Rattle.std.specs.Prelude.{ℕ, ◌+◌, List, [], ◌∷◌, ◌++◌, Bool, true, false, not, ◌&&◌, ◌||◌, Option, Some, None, option_map, if◌then◌else◌}
use Rattle.si_semantics.specs.Value.{Text}
use Rattle.si_semantics.specs.Text.{same_text, module_name}
use Rattle.si_semantics.specs.Tree as tree
use Rattle.si_semantics.specs.Tree.{Expr, Exprs, Comparisons, Stmt, Target, Targets, Stmts, Clauses, Function}

-- ---- lists of names

-- a name is one of these
abbrev pub is_in : Text → List Text → Bool
is_in x [] = false
is_in x (y ∷ ys) = same_text x y || is_in x ys

-- none of the first is one of the second
abbrev pub are_apart : List Text → List Text → Bool
are_apart [] ys = true
are_apart (x ∷ xs) ys = not (is_in x ys) && are_apart xs ys

-- no name comes twice
abbrev pub are_distinct : List Text → Bool
are_distinct [] = true
are_distinct (x ∷ xs) = not (is_in x xs) && are_distinct xs

-- with each of these that is in neither list at its end, once
abbrev pub with_new : List Text → List Text → List Text → List Text
with_new names but [] = names
with_new names but (x ∷ xs) = with_new (if is_in x names || is_in x but then names else names ++ x ∷ []) but xs

-- the place of a name
abbrev pub place_of : Text → List Text → Option ℕ
place_of x [] = None
place_of x (y ∷ ys) = if same_text x y then Some 0 else option_map (λ k. k + 1) (place_of x ys)

-- ---- the names of a suite

abbrev mutual
  -- the names that an expression uses
  pub names_of : Expr → List Text
  names_of (tree.Constant v) = []
  names_of (tree.Name x) = x ∷ []
  names_of (tree.Unary o a) = names_of a
  names_of (tree.Binary o a b) = names_of a ++ names_of b
  names_of (tree.Attribute a x) = names_of a
  names_of (tree.Call f x args keywords) = names_of f ++ names_of_all args
  names_of (tree.Subscript a b) = names_of a ++ names_of b
  names_of (tree.Tuple items) = names_of_all items
  names_of (tree.ListDisplay items) = names_of_all items
  names_of (tree.DictDisplay items) = names_of_all items
  names_of (tree.Boolean o a more) = names_of a ++ names_of_all more
  names_of (tree.Compare a cs) = names_of a ++ names_of_chain cs
  names_of (tree.Conditional a b c) = names_of a ++ names_of b ++ names_of c

  pub names_of_all : Exprs → List Text
  names_of_all tree.NoExprs = []
  names_of_all (tree.MoreExprs a args) = names_of a ++ names_of_all args

  pub names_of_chain : Comparisons → List Text
  names_of_chain tree.NoComparisons = []
  names_of_chain (tree.MoreComparisons o a cs) = names_of a ++ names_of_chain cs

-- the names of an expression that may be left out
abbrev pub names_of_value : Option Expr → List Text
names_of_value None = []
names_of_value (Some a) = names_of a

abbrev mutual
  -- the names that a target binds (4.2.1)
  pub bound_by_target : Target → List Text
  bound_by_target (tree.Named x) = x ∷ []
  bound_by_target (tree.Item a b) = []
  bound_by_target (tree.Unpack ts) = bound_by_targets ts

  pub bound_by_targets : Targets → List Text
  bound_by_targets tree.NoTargets = []
  bound_by_targets (tree.MoreTargets t ts) = bound_by_target t ++ bound_by_targets ts

abbrev mutual
  -- the names that a target uses or binds
  pub used_by_target : Target → List Text
  used_by_target (tree.Named x) = x ∷ []
  used_by_target (tree.Item a b) = names_of a ++ names_of b
  used_by_target (tree.Unpack ts) = used_by_targets ts

  pub used_by_targets : Targets → List Text
  used_by_targets tree.NoTargets = []
  used_by_targets (tree.MoreTargets t ts) = used_by_target t ++ used_by_targets ts

-- a name that may be left out
abbrev pub name_in : Option Text → List Text
name_in None = []
name_in (Some y) = y ∷ []

abbrev mutual
  -- the names that a statement binds (4.2.1): a `for` its target, an `except` clause the name after `as`
  pub bound_by : Stmt → List Text
  bound_by (tree.Assign ts a) = bound_by_targets ts
  bound_by (tree.Augment x o a) = x ∷ []
  bound_by (tree.If a b c) = bound_in b ++ bound_in c
  bound_by (tree.While a b c) = bound_in b ++ bound_in c
  bound_by (tree.For t a b c) = bound_by_target t ++ (bound_in b ++ bound_in c)
  bound_by (tree.Define f ps b) = f ∷ []
  bound_by (tree.Import m) = module_name m ∷ []
  bound_by (tree.Try b cs c) = bound_in b ++ (bound_in_clauses cs ++ bound_in c)
  bound_by (tree.Finally b cs c f) = bound_in b ++ (bound_in_clauses cs ++ (bound_in c ++ bound_in f))
  bound_by _ = []

  pub bound_in : Stmts → List Text
  bound_in tree.NoStmts = []
  bound_in (tree.MoreStmts a b) = bound_by a ++ bound_in b

  pub bound_in_clauses : Clauses → List Text
  bound_in_clauses tree.NoClauses = []
  bound_in_clauses (tree.MoreClauses a y b cs) = name_in y ++ (bound_in b ++ bound_in_clauses cs)

abbrev mutual
  -- the names that a statement declares global (7.12)
  pub declared_by : Stmt → List Text
  declared_by (tree.Global xs) = xs
  declared_by (tree.If a b c) = declared_in b ++ declared_in c
  declared_by (tree.While a b c) = declared_in b ++ declared_in c
  declared_by (tree.For t a b c) = declared_in b ++ declared_in c
  declared_by (tree.Try b cs c) = declared_in b ++ (declared_in_clauses cs ++ declared_in c)
  declared_by (tree.Finally b cs c f) = declared_in b ++ (declared_in_clauses cs ++ (declared_in c ++ declared_in f))
  declared_by _ = []

  pub declared_in : Stmts → List Text
  declared_in tree.NoStmts = []
  declared_in (tree.MoreStmts a b) = declared_by a ++ declared_in b

  pub declared_in_clauses : Clauses → List Text
  declared_in_clauses tree.NoClauses = []
  declared_in_clauses (tree.MoreClauses a y b cs) = declared_in b ++ declared_in_clauses cs

abbrev mutual
  -- the names that a statement uses or binds; a declaration is no use
  pub used_by : Stmt → List Text
  used_by (tree.Evaluate a) = names_of a
  used_by (tree.Assign ts a) = used_by_targets ts ++ names_of a
  used_by (tree.Augment x o a) = x ∷ names_of a
  used_by (tree.AugmentItem a b o c) = names_of a ++ (names_of b ++ names_of c)
  used_by (tree.Delete a b) = names_of a ++ names_of b
  used_by tree.Pass = []
  used_by (tree.If a b c) = names_of a ++ used_in b ++ used_in c
  used_by (tree.While a b c) = names_of a ++ used_in b ++ used_in c
  used_by (tree.For t a b c) = used_by_target t ++ (names_of a ++ used_in b ++ used_in c)
  used_by tree.Break = []
  used_by tree.Continue = []
  used_by (tree.Define f ps b) = f ∷ []
  used_by (tree.Return a) = names_of_value a
  used_by (tree.Global xs) = []
  used_by (tree.Import m) = module_name m ∷ []
  used_by (tree.Raise a) = names_of_value a
  used_by (tree.Try b cs c) = used_in b ++ (used_in_clauses cs ++ used_in c)
  used_by (tree.Finally b cs c f) = used_in b ++ (used_in_clauses cs ++ (used_in c ++ used_in f))

  pub used_in : Stmts → List Text
  used_in tree.NoStmts = []
  used_in (tree.MoreStmts a b) = used_by a ++ used_in b

  pub used_in_clauses : Clauses → List Text
  used_in_clauses tree.NoClauses = []
  used_in_clauses (tree.MoreClauses a y b cs) = names_of_value a ++ (name_in y ++ (used_in b ++ used_in_clauses cs))

abbrev mutual
  -- no name is used in front of its declaration (7.12)
  pub declares_first : Stmt → Bool
  declares_first (tree.If a b c) =
      are_apart (names_of a) (declared_in b ++ declared_in c) && are_apart (used_in b) (declared_in c) && declare_first b && declare_first c
  declares_first (tree.While a b c) =
      are_apart (names_of a) (declared_in b ++ declared_in c) && are_apart (used_in b) (declared_in c) && declare_first b && declare_first c
  declares_first (tree.For t a b c) =
      are_apart (used_by_target t ++ names_of a) (declared_in b ++ declared_in c) && are_apart (used_in b) (declared_in c) && declare_first b && declare_first c
  declares_first (tree.Try b cs c) =
      are_apart (used_in b) (declared_in_clauses cs ++ declared_in c) && are_apart (used_in_clauses cs) (declared_in c)
      && declare_first b && clauses_declare_first cs && declare_first c
  declares_first (tree.Finally b cs c f) =
      are_apart (used_in b) (declared_in_clauses cs ++ (declared_in c ++ declared_in f)) && are_apart (used_in_clauses cs) (declared_in c ++ declared_in f)
      && are_apart (used_in c) (declared_in f) && declare_first b && clauses_declare_first cs && declare_first c && declare_first f
  declares_first _ = true

  pub declare_first : Stmts → Bool
  declare_first tree.NoStmts = true
  declare_first (tree.MoreStmts a b) = are_apart (used_by a) (declared_in b) && declares_first a && declare_first b

  pub clauses_declare_first : Clauses → Bool
  clauses_declare_first tree.NoClauses = true
  clauses_declare_first (tree.MoreClauses a y b cs) =
      are_apart (names_of_value a ++ name_in y) (declared_in b ++ declared_in_clauses cs) && are_apart (used_in b) (declared_in_clauses cs)
      && declare_first b && clauses_declare_first cs

-- the names that are local to a function: its parameters, and what it binds and does not declare global (4.2.2); their
-- order is this project's own
abbrev pub locals_of : Function → List Text
locals_of f = with_new f.parameters (declared_in f.body) (bound_in f.body)

-- ---- where statements stand

-- what a statement stands in
pub data Within : Type 0 where
  -- a text, and no loop of it or one
  InText : (loop : Bool) → Within
  -- a function, no loop of it or one, and whether `return` may stand there: it does not leave a finally suite
  InFunction : (loop returns : Bool) → Within

-- `break` and `continue` stand in a loop of the same function or text, and do not leave a finally suite (7.9, 7.10; PEP
-- 765)
abbrev pub in_loop : Within → Bool
in_loop (InText loop) = loop
in_loop (InFunction loop returns) = loop

-- `global` stands in a function (7.12: at module level this project refuses it), and `def` and `import` in none (this
-- project's own)
abbrev pub in_function : Within → Bool
in_function (InText loop) = false
in_function (InFunction loop returns) = true

-- `return` stands in a function (7.6), and does not leave a finally suite (PEP 765, whose warning is a refusal here)
abbrev pub may_return : Within → Bool
may_return (InText loop) = false
may_return (InFunction loop returns) = returns

-- in the body of a loop there
abbrev pub looping : Within → Within
looping (InText loop) = InText true
looping (InFunction loop returns) = InFunction true returns

-- in a finally suite there
abbrev pub finishing : Within → Within
finishing (InText loop) = InText false
finishing (InFunction loop returns) = InFunction false false

abbrev mutual
  -- a statement stands where it may; a loop's else suite is no part of its body
  pub stmt_scoped : Within → Stmt → Bool
  stmt_scoped w (tree.Evaluate a) = true
  stmt_scoped w (tree.Assign ts a) = true
  stmt_scoped w (tree.Augment x o a) = true
  stmt_scoped w (tree.AugmentItem a b o c) = true
  stmt_scoped w (tree.Delete a b) = true
  stmt_scoped w tree.Pass = true
  stmt_scoped w (tree.If a b c) = stmts_scoped w b && stmts_scoped w c
  stmt_scoped w (tree.While a b c) = stmts_scoped (looping w) b && stmts_scoped w c
  stmt_scoped w (tree.For t a b c) = stmts_scoped (looping w) b && stmts_scoped w c
  stmt_scoped w tree.Break = in_loop w
  stmt_scoped w tree.Continue = in_loop w
  stmt_scoped w (tree.Define f ps b) =
      not (in_function w) && are_distinct ps && are_apart ps (declared_in b) && declare_first b && stmts_scoped (InFunction false true) b
  stmt_scoped w (tree.Return a) = may_return w
  stmt_scoped w (tree.Global xs) = in_function w
  stmt_scoped w (tree.Import m) = not (in_function w)
  stmt_scoped w (tree.Raise a) = true
  stmt_scoped w (tree.Try b cs c) = stmts_scoped w b && clauses_scoped w cs && stmts_scoped w c
  stmt_scoped w (tree.Finally b cs c f) = stmts_scoped w b && clauses_scoped w cs && stmts_scoped w c && stmts_scoped (finishing w) f

  -- statements in a row
  pub stmts_scoped : Within → Stmts → Bool
  stmts_scoped w tree.NoStmts = true
  stmts_scoped w (tree.MoreStmts a b) = stmt_scoped w a && stmts_scoped w b

  -- except clauses
  pub clauses_scoped : Within → Clauses → Bool
  clauses_scoped w tree.NoClauses = true
  clauses_scoped w (tree.MoreClauses a y b cs) = stmts_scoped w b && clauses_scoped w cs

-- the statements of a text are well scoped
abbrev pub is_scoped : Stmts → Bool
is_scoped body = stmts_scoped (InText false) body
