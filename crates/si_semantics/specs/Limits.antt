-- The limits that a tree keeps, which are this project's own: how deep its expressions are, how long its literals, how many
-- parameters its functions have, and how deep its compound statements are nested. The grammar derives no tree past them.
use Rattle.std.specs.Prelude.{ℕ, ◌+◌, ◌≤◌, max, Bool, true, false, length, Option, Some, None, if◌then◌else◌}
use Rattle.si_semantics.specs.Value.{Text, Str, Bytes}
use Rattle.si_semantics.specs.Tree as tree
use Rattle.si_semantics.specs.Tree.{Expr, Exprs, Comparisons, Stmt, Target, Targets, Stmts, Clauses}
use Rattle.si_semantics.specs.Text.{max_length}
use Rattle.si_semantics.specs.Grammar.{max_depth, max_parameters, max_nesting}

-- ---- expressions

-- the depth of a callee, by that of its object where an attribute of it is called
abbrev pub depth_called : Option Text → ℕ → ℕ
depth_called None n = n
depth_called (Some x) n = n + 1

-- the depth of a tree: a name or a literal has 1, others 1 more than their deepest part
abbrev mutual
  pub depth_of : Expr → ℕ
  depth_of (tree.Constant v) = 1
  depth_of (tree.Name x) = 1
  depth_of (tree.Unary op a) = depth_of a + 1
  depth_of (tree.Binary op a b) = max (depth_of a) (depth_of b) + 1
  depth_of (tree.Attribute a x) = depth_of a + 1
  depth_of (tree.Call a x args names) = max (depth_called x (depth_of a)) (depth_of_all args) + 1
  depth_of (tree.Subscript a b) = max (depth_of a) (depth_of b) + 1
  depth_of (tree.Tuple items) = depth_of_all items + 1
  depth_of (tree.ListDisplay items) = depth_of_all items + 1
  depth_of (tree.DictDisplay items) = depth_of_all items + 1
  depth_of (tree.Boolean o a more) = max (depth_of a) (depth_of_all more) + 1
  depth_of (tree.Compare a cs) = max (depth_of a) (depth_of_chain cs) + 1
  depth_of (tree.Conditional a b c) = max (depth_of a) (max (depth_of b) (depth_of c)) + 1

  pub depth_of_all : Exprs → ℕ
  depth_of_all tree.NoExprs = 0
  depth_of_all (tree.MoreExprs e es) = max (depth_of e) (depth_of_all es)

  pub depth_of_chain : Comparisons → ℕ
  depth_of_chain tree.NoComparisons = 0
  depth_of_chain (tree.MoreComparisons o e cs) = max (depth_of e) (depth_of_chain cs)

-- how many characters or bytes the longest literal of an expression has, of str or bytes; 0 where there is none
abbrev mutual
  pub longest_literal : Expr → ℕ
  longest_literal (tree.Constant (Str s)) = length s
  longest_literal (tree.Constant (Bytes bs)) = length bs
  longest_literal (tree.Constant _) = 0
  longest_literal (tree.Name x) = 0
  longest_literal (tree.Unary op a) = longest_literal a
  longest_literal (tree.Binary op a b) = max (longest_literal a) (longest_literal b)
  longest_literal (tree.Attribute a x) = longest_literal a
  longest_literal (tree.Call a x args names) = max (longest_literal a) (longest_literal_of_all args)
  longest_literal (tree.Subscript a b) = max (longest_literal a) (longest_literal b)
  longest_literal (tree.Tuple items) = longest_literal_of_all items
  longest_literal (tree.ListDisplay items) = longest_literal_of_all items
  longest_literal (tree.DictDisplay items) = longest_literal_of_all items
  longest_literal (tree.Boolean o a more) = max (longest_literal a) (longest_literal_of_all more)
  longest_literal (tree.Compare a cs) = max (longest_literal a) (longest_literal_of_chain cs)
  longest_literal (tree.Conditional a b c) = max (longest_literal a) (max (longest_literal b) (longest_literal c))

  pub longest_literal_of_all : Exprs → ℕ
  longest_literal_of_all tree.NoExprs = 0
  longest_literal_of_all (tree.MoreExprs e es) = max (longest_literal e) (longest_literal_of_all es)

  pub longest_literal_of_chain : Comparisons → ℕ
  longest_literal_of_chain tree.NoComparisons = 0
  longest_literal_of_chain (tree.MoreComparisons o e cs) = max (longest_literal e) (longest_literal_of_chain cs)

-- ---- statements

-- a measure of an expression that may be left out
abbrev pub greatest_of_value : (Expr → ℕ) → Option Expr → ℕ
greatest_of_value m None = 0
greatest_of_value m (Some e) = m e

-- the greatest measure of an expression that stands in a target; 0 where none does
abbrev mutual
  pub greatest_of_target : (Expr → ℕ) → Target → ℕ
  greatest_of_target m (tree.Named x) = 0
  greatest_of_target m (tree.Item a b) = max (m a) (m b)
  greatest_of_target m (tree.Unpack ts) = greatest_of_targets m ts

  pub greatest_of_targets : (Expr → ℕ) → Targets → ℕ
  greatest_of_targets m tree.NoTargets = 0
  greatest_of_targets m (tree.MoreTargets t ts) = max (greatest_of_target m t) (greatest_of_targets m ts)

-- the greatest measure of an expression that stands in a statement; 0 where none does
abbrev mutual
  pub greatest_of : (Expr → ℕ) → Stmt → ℕ
  greatest_of m (tree.Evaluate e) = m e
  greatest_of m (tree.Assign ts e) = max (greatest_of_targets m ts) (m e)
  greatest_of m (tree.Augment x op e) = m e
  greatest_of m (tree.AugmentItem a b op e) = max (m a) (max (m b) (m e))
  greatest_of m (tree.Delete a b) = max (m a) (m b)
  greatest_of m (tree.If test body other) = max (m test) (max (greatest_in m body) (greatest_in m other))
  greatest_of m (tree.While test body other) = max (m test) (max (greatest_in m body) (greatest_in m other))
  greatest_of m (tree.For t over body other) = max (greatest_of_target m t) (max (m over) (max (greatest_in m body) (greatest_in m other)))
  greatest_of m (tree.Define x ps body) = greatest_in m body
  greatest_of m (tree.Return a) = greatest_of_value m a
  greatest_of m (tree.Raise a) = greatest_of_value m a
  greatest_of m (tree.Try body cs other) = max (greatest_in m body) (max (greatest_in_clauses m cs) (greatest_in m other))
  greatest_of m (tree.Finally body cs other last) = max (greatest_in m body) (max (greatest_in_clauses m cs) (max (greatest_in m other) (greatest_in m last)))
  greatest_of m _ = 0

  pub greatest_in : (Expr → ℕ) → Stmts → ℕ
  greatest_in m tree.NoStmts = 0
  greatest_in m (tree.MoreStmts s ss) = max (greatest_of m s) (greatest_in m ss)

  pub greatest_in_clauses : (Expr → ℕ) → Clauses → ℕ
  greatest_in_clauses m tree.NoClauses = 0
  greatest_in_clauses m (tree.MoreClauses a y b cs) = max (greatest_of_value m a) (max (greatest_in m b) (greatest_in_clauses m cs))

-- the most parameters of a function that a statement defines, at any depth; 0 where it defines none
abbrev mutual
  pub most_parameters_of : Stmt → ℕ
  most_parameters_of (tree.Define x ps body) = max (length ps) (most_parameters_in body)
  most_parameters_of (tree.If test body other) = max (most_parameters_in body) (most_parameters_in other)
  most_parameters_of (tree.While test body other) = max (most_parameters_in body) (most_parameters_in other)
  most_parameters_of (tree.For t over body other) = max (most_parameters_in body) (most_parameters_in other)
  most_parameters_of (tree.Try body cs other) = max (most_parameters_in body) (max (most_parameters_in_clauses cs) (most_parameters_in other))
  most_parameters_of (tree.Finally body cs other last) =
      max (most_parameters_in body) (max (most_parameters_in_clauses cs) (max (most_parameters_in other) (most_parameters_in last)))
  most_parameters_of _ = 0

  pub most_parameters_in : Stmts → ℕ
  most_parameters_in tree.NoStmts = 0
  most_parameters_in (tree.MoreStmts s ss) = max (most_parameters_of s) (most_parameters_in ss)

  pub most_parameters_in_clauses : Clauses → ℕ
  most_parameters_in_clauses tree.NoClauses = 0
  most_parameters_in_clauses (tree.MoreClauses a y b cs) = max (most_parameters_in b) (most_parameters_in_clauses cs)

-- an else suite can be written as an `elif`: an `if` stands in it, alone
abbrev pub is_elif : Stmts → Bool
is_elif (tree.MoreStmts (tree.If test body other) tree.NoStmts) = true
is_elif _ = false

-- how deep compound statements are nested: 0 where there are none, and in others 1 more than in their suites. An `elif` nests no
-- deeper than its `if`; a tree doesn't tell it from an `if` that stands alone after an `else`, which so counts the same.
abbrev mutual
  pub nesting_of : Stmt → ℕ
  nesting_of (tree.If test body other) = max (nesting_in body + 1) (nesting_in other + (if is_elif other then 0 else 1))
  nesting_of (tree.While test body other) = max (nesting_in body) (nesting_in other) + 1
  nesting_of (tree.For t over body other) = max (nesting_in body) (nesting_in other) + 1
  nesting_of (tree.Define x ps body) = nesting_in body + 1
  nesting_of (tree.Try body cs other) = max (nesting_in body) (max (nesting_in_clauses cs) (nesting_in other)) + 1
  nesting_of (tree.Finally body cs other last) = max (nesting_in body) (max (nesting_in_clauses cs) (max (nesting_in other) (nesting_in last))) + 1
  nesting_of _ = 0

  pub nesting_in : Stmts → ℕ
  nesting_in tree.NoStmts = 0
  nesting_in (tree.MoreStmts s ss) = max (nesting_of s) (nesting_in ss)

  pub nesting_in_clauses : Clauses → ℕ
  nesting_in_clauses tree.NoClauses = 0
  nesting_in_clauses (tree.MoreClauses a y b cs) = max (nesting_in b) (nesting_in_clauses cs)

-- ---- the limits

-- statements are within all limits
pub record IsWithinLimits (body : Stmts) : Type 0 where
  pub depth : greatest_in depth_of body ≤ max_depth
  pub literals : greatest_in longest_literal body ≤ max_length
  pub parameters : most_parameters_in body ≤ max_parameters
  pub nesting : nesting_in body ≤ max_nesting
