-- A tree that is derived is within the limits.
use Rattle.std.proofs.Common.{◌≡◌, ℕ, zero, suc, ◌+◌, ◌≤◌, List, [], ◌∷◌, ◌++◌, Bool, true, false, inl, inr, map, Option, Some, None, refl, sym, ap, ◌∙◌, subst, arith}
use Rattle.std.specs.Prelude.{flat_map, if◌then◌else◌}
use Rattle.si_semantics.specs.Value.{Text, Nothing, Truth, Int, Str, Bytes, Provided, Function, Range, Tuple, Class, Module, Queue, Interpreter, Exec, Address}
use Rattle.si_semantics.specs.Tree as tree
use Rattle.si_semantics.specs.Tree.{BooleanOperator, Expr, Exprs, Comparisons, Target, Targets, Stmt, Stmts, Clauses, callee_of}
use Rattle.si_semantics.specs.Tokens as token
use Rattle.si_semantics.specs.Text.{max_length}
use Rattle.si_semantics.specs.Grammar.{Terminal, Word, left_level, right_level, prefix_level, item_level, word_of, Many, After, Following, Separated, Ended, Argument, Positional, ByName, Passes, IsPassed, items_of, exprs_of, links_of, Compares, PairsOf, Spells, unpack_of, target_of, targets_of, IsTarget, IsForTarget, Targeted, max_depth, max_item_depth, IsExpressions, max_parameters, Small, Simple, stmts_of, Lines, Suite, Branch, Tested, Otherwise, elifs_of, clause_list, Excepts, Handlers, Compound, Nests, max_nesting, Derives}
use Rattle.si_semantics.specs.Limits.{depth_called, depth_of, depth_of_all, depth_of_chain, longest_literal, longest_literal_of_all, longest_literal_of_chain, greatest_of_target, greatest_of_targets, greatest_of, greatest_in, greatest_in_clauses, most_parameters_of, most_parameters_in, most_parameters_in_clauses, is_elif, nesting_of, nesting_in, nesting_in_clauses, IsWithinLimits}
use Rattle.si_parse.proofs.Laws.{some_inj, exprs_of_items, items_of_exprs}
use Rattle.si_parse.proofs.Unbracketed.{AreExpressions}
use Rattle.si_parse.proofs.Targets.{more_split, unpack_split}

-- ---- expressions

-- an expression is no deeper than this, and its str literals are within the limit
record IsLow (n : ℕ) (e : Expr) : Type 0 where
  depth : depth_of e ≤ n
  literals : longest_literal e ≤ max_length

record AreLow (n : ℕ) (es : Exprs) : Type 0 where
  depth : depth_of_all es ≤ n
  literals : longest_literal_of_all es ≤ max_length

record ChainIsLow (n : ℕ) (cs : Comparisons) : Type 0 where
  depth : depth_of_chain cs ≤ n
  literals : longest_literal_of_chain cs ≤ max_length

abbrev Bounded : ℕ → Type 0
Bounded n = (l : ℕ) (e : Expr) (f : List Terminal) → Spells n l e f → IsLow n e

-- the expression of an argument
abbrev value_of : Argument → Expr
value_of (Positional e) = e
value_of (ByName x e) = e

argument_bounded : (n : ℕ) → Bounded n → (a : Argument) (f : List Terminal) → Passes (Spells n) a f → IsLow n (value_of a)
argument_bounded n b (Positional e) f h = b 1 e f h
argument_bounded n b (ByName x e) f h = b 1 e h.0 h.2

none_low : (n : ℕ) → AreLow n tree.NoExprs
none_low n = record { depth = omega arith; literals = omega arith }

more_low : (n : ℕ) (e : Expr) (es : Exprs) → IsLow n e → AreLow n es → AreLow n (tree.MoreExprs e es)
more_low n e es h k = record { depth = omega (arith, h.depth, k.depth); literals = omega (arith, h.literals, k.literals) }

following_bounded : (n : ℕ) → Bounded n → (arguments : List Argument) (g : List Terminal) → Following (Passes (Spells n)) token.Comma arguments g → AreLow n (exprs_of (map value_of arguments))
following_bounded n b [] g h = none_low n
following_bounded n b (a ∷ rest) g h = more_low n (value_of a) (exprs_of (map value_of rest)) (argument_bounded n b a h.0 h.3) (following_bounded n b rest h.1 h.4)

separated_bounded : (n : ℕ) → Bounded n → (arguments : List Argument) (g : List Terminal) → Separated (Passes (Spells n)) token.Comma arguments g → AreLow n (exprs_of (map value_of arguments))
separated_bounded n b [] g h = none_low n
separated_bounded n b (a ∷ rest) g h = more_low n (value_of a) (exprs_of (map value_of rest)) (argument_bounded n b a h.0 h.3) (following_bounded n b rest h.1 h.4)

named_values : (named : List (Text × Expr)) → map value_of (map (λ p. ByName p.0 p.1) named) ≡ map (λ p. p.1) named
named_values [] = refl
named_values (p ∷ named) = ap (λ l. p.1 ∷ l) (named_values named)

ordered_values : (positional : List Expr) (named : List (Text × Expr)) → map value_of (map Positional positional ++ map (λ p. ByName p.0 p.1) named) ≡ positional ++ map (λ p. p.1) named
ordered_values [] named = named_values named
ordered_values (e ∷ positional) named = ap (λ l. e ∷ l) (ordered_values positional named)

arguments_bounded : (n : ℕ) → Bounded n → (arguments : List Argument) (args : Exprs) (names : List Text) (g : List Terminal) → IsPassed arguments (items_of args) names → Separated (Passes (Spells n)) token.Comma arguments g
    → AreLow n args
arguments_bounded n b arguments args names g p h =
    let values : map value_of arguments ≡ items_of args = ap (map value_of) p.in_order ∙ ordered_values p.positional p.named ∙ sym p.values_are in
    subst (AreLow n) (ap exprs_of values ∙ exprs_of_items args) (separated_bounded n b arguments g h)

-- the items of a tuple or a list after its first
others_bounded : (n l : ℕ) → Bounded n → (es : Exprs) (g : List Terminal) → Following (Spells n l) token.Comma (items_of es) g → AreLow n es
others_bounded n l b tree.NoExprs g h = none_low n
others_bounded n l b (tree.MoreExprs e es) g h = more_low n e es (b l e h.0 h.3) (others_bounded n l b es h.1 h.4)

items_bounded : (n l : ℕ) → Bounded n → (es : Exprs) (g : List Terminal) → Ended (Spells n l) token.Comma (items_of es) g → AreLow n es
items_bounded n l b tree.NoExprs g h = none_low n
items_bounded n l b (tree.MoreExprs e tree.NoExprs) g h = more_low n e tree.NoExprs (b l e h.0 h.2) (none_low n)
items_bounded n l b (tree.MoreExprs e (tree.MoreExprs x es)) g h = more_low n e (tree.MoreExprs x es) (b l e h.0 h.3) (others_bounded n l b (tree.MoreExprs x es) h.1 h.4)

-- the items of a list
listed_bounded : (n : ℕ) → Bounded n → (es : Exprs) (g : List Terminal) → Separated (Spells n 1) token.Comma (items_of es) g → AreLow n es
listed_bounded n b tree.NoExprs g h = none_low n
listed_bounded n b (tree.MoreExprs e es) g h = more_low n e es (b 1 e h.0 h.3) (others_bounded n 1 b es h.1 h.4)

-- the keys and values of a dict
abbrev both_of : List (Expr × Expr) → Exprs
both_of ps = exprs_of (flat_map (λ p. p.0 ∷ p.1 ∷ []) ps)

pair_low : (n : ℕ) → Bounded n → (p : Expr × Expr) (f : List Terminal) (es : Exprs) → PairsOf (Spells n) p f → AreLow n es → AreLow n (tree.MoreExprs p.0 (tree.MoreExprs p.1 es))
pair_low n b p f es h low = more_low n p.0 (tree.MoreExprs p.1 es) (b 1 p.0 h.0 h.3) (more_low n p.1 es (b 1 p.1 h.1 h.4) low)

others_paired : (n : ℕ) → Bounded n → (ps : List (Expr × Expr)) (g : List Terminal) → Following (PairsOf (Spells n)) token.Comma ps g → AreLow n (both_of ps)
others_paired n b [] g h = none_low n
others_paired n b (p ∷ ps) g h = pair_low n b p h.0 (both_of ps) h.3 (others_paired n b ps h.1 h.4)

paired_bounded : (n : ℕ) → Bounded n → (ps : List (Expr × Expr)) (g : List Terminal) → Separated (PairsOf (Spells n)) token.Comma ps g → AreLow n (both_of ps)
paired_bounded n b [] g h = none_low n
paired_bounded n b (p ∷ ps) g h = pair_low n b p h.0 (both_of ps) h.3 (others_paired n b ps h.1 h.4)

chain_bounded : (n : ℕ) → Bounded n → (cs : Comparisons) (g : List Terminal) → Many (Compares (Spells n)) (links_of cs) g → ChainIsLow n cs
chain_bounded n b tree.NoComparisons g h = record { depth = omega arith; literals = omega arith }
chain_bounded n b (tree.MoreComparisons op e cs) g h =
    let x = b 10 e h.3.0 h.3.2 in
    let y = chain_bounded n b cs h.1 h.4 in record { depth = omega (arith, x.depth, y.depth); literals = omega (arith, x.literals, y.literals) }

operands_bounded : (n : ℕ) → Bounded n → (op : BooleanOperator) (es : Exprs) (g : List Terminal) → Many (After (Word (word_of op)) (Spells n (item_level op))) (items_of es) g → AreLow n es
operands_bounded n b op tree.NoExprs g h = none_low n
operands_bounded n b op (tree.MoreExprs e es) g h = more_low n e es (b (item_level op) e h.3.0 h.3.2) (operands_bounded n b op es h.1 h.4)

leaf_low : (n : ℕ) (e : Expr) → depth_of e ≡ 1 → longest_literal e ≡ 0 → IsLow (suc n) e
leaf_low n e h k = record { depth = omega (arith, h); literals = omega (arith, k) }

-- a callee is as low as the tree that is called
callee_depth : (e : Expr) → depth_called (callee_of e).1 (depth_of (callee_of e).0) ≡ depth_of e
callee_depth (tree.Attribute a x) = refl
callee_depth (tree.Name x) = refl
callee_depth (tree.Constant v) = refl
callee_depth (tree.Unary op a) = refl
callee_depth (tree.Binary op a b) = refl
callee_depth (tree.Call a x args names) = refl
callee_depth (tree.Subscript a b) = refl
callee_depth (tree.Tuple items) = refl
callee_depth (tree.ListDisplay items) = refl
callee_depth (tree.DictDisplay items) = refl
callee_depth (tree.Boolean op a others) = refl
callee_depth (tree.Compare a cs) = refl
callee_depth (tree.Conditional test value other) = refl

callee_literals : (e : Expr) → longest_literal (callee_of e).0 ≡ longest_literal e
callee_literals (tree.Attribute a x) = refl
callee_literals (tree.Name x) = refl
callee_literals (tree.Constant v) = refl
callee_literals (tree.Unary op a) = refl
callee_literals (tree.Binary op a b) = refl
callee_literals (tree.Call a x args names) = refl
callee_literals (tree.Subscript a b) = refl
callee_literals (tree.Tuple items) = refl
callee_literals (tree.ListDisplay items) = refl
callee_literals (tree.DictDisplay items) = refl
callee_literals (tree.Boolean op a others) = refl
callee_literals (tree.Compare a cs) = refl
callee_literals (tree.Conditional test value other) = refl

callee_low : (n : ℕ) (a : Expr) (x : Option Text) (e : Expr) → callee_of e ≡ (a, x) → IsLow n e → (depth_called x (depth_of a) ≤ n) × (longest_literal a ≤ max_length)
callee_low n a x e is h =
    let P : Expr × Option Text → Type 0 = λ c. (depth_called c.1 (depth_of c.0) ≤ n) × (longest_literal c.0 ≤ max_length) in
    subst P is (omega (arith, callee_depth e, h.depth), omega (arith, callee_literals e, h.literals))

bounded : (n : ℕ) → Bounded n
bounded zero l e f h = absurd h
bounded (suc n) l e f (inr h) = let x = bounded n 1 e h.0 h.2 in record { depth = omega (arith, x.depth); literals = x.literals }
bounded (suc n) l (tree.Name x) f (inl h) = leaf_low n (tree.Name x) refl refl
bounded (suc n) l (tree.Constant (Str s)) f (inl h) = record { depth = omega arith; literals = h.1 }
bounded (suc n) l (tree.Constant (Int i)) f (inl h) = leaf_low n (tree.Constant (Int i)) refl refl
bounded (suc n) l (tree.Constant Nothing) f (inl h) = leaf_low n (tree.Constant Nothing) refl refl
bounded (suc n) l (tree.Constant (Truth b)) f (inl h) = leaf_low n (tree.Constant (Truth b)) refl refl
bounded (suc n) l (tree.Constant (Provided b)) f (inl h) = absurd h
bounded (suc n) l (tree.Constant (Bytes bs)) f (inl h) = record { depth = omega arith; literals = h.1 }
bounded (suc n) l (tree.Constant (Function x k)) f (inl h) = absurd h
bounded (suc n) l (tree.Constant (Range a b c)) f (inl h) = absurd h
bounded (suc n) l (tree.Constant (Tuple us)) f (inl h) = absurd h
bounded (suc n) l (tree.Constant (Class k)) f (inl h) = absurd h
bounded (suc n) l (tree.Constant (Module m)) f (inl h) = absurd h
bounded (suc n) l (tree.Constant (Queue i m)) f (inl h) = absurd h
bounded (suc n) l (tree.Constant (Interpreter i)) f (inl h) = absurd h
bounded (suc n) l (tree.Constant (Exec i)) f (inl h) = absurd h
bounded (suc n) l (tree.Constant (Address x)) f (inl h) = absurd h
bounded (suc n) l (tree.Unary op a) f (inl h) = let x = bounded n (prefix_level op) a h.0 h.3 in record { depth = omega (arith, x.depth); literals = x.literals }
bounded (suc n) l (tree.Binary op a b) f (inl h) =
    let x = bounded n (left_level op) a h.0 h.4 in
    let y = bounded n (right_level op) b h.1 h.5 in record { depth = omega (arith, x.depth, y.depth); literals = omega (arith, x.literals, y.literals) }
bounded (suc n) l (tree.Attribute a x) f (inl h) = let y = bounded n 18 a h.0 h.3 in record { depth = omega (arith, y.depth); literals = y.literals }
bounded (suc n) l (tree.Call a x args names) f (inl h) =
    let p = callee_low n a x h.2 h.7 (bounded n 18 h.2 h.0 h.6) in
    let y = arguments_bounded n (bounded n) h.3 args names h.1 h.8 h.9 in record { depth = omega (arith, p.0, y.depth); literals = omega (arith, p.1, y.literals) }
bounded (suc n) l (tree.Subscript a b) f (inl h) =
    let x = bounded n 18 a h.0 h.4 in
    let y = bounded n 1 b h.1 h.5 in record { depth = omega (arith, x.depth, y.depth); literals = omega (arith, x.literals, y.literals) }
bounded (suc n) l (tree.Tuple items) f (inl h) = let x = items_bounded n 1 (bounded n) items h.0 h.2 in record { depth = omega (arith, x.depth); literals = x.literals }
bounded (suc n) l (tree.ListDisplay items) f (inl h) = let x = listed_bounded n (bounded n) items h.0 h.2 in record { depth = omega (arith, x.depth); literals = x.literals }
bounded (suc n) l (tree.DictDisplay items) f (inl h) =
    let x = subst (AreLow n) (ap exprs_of (sym h.3) ∙ exprs_of_items items) (paired_bounded n (bounded n) h.0 h.1 h.4) in record { depth = omega (arith, x.depth); literals = x.literals }
bounded (suc n) l (tree.Compare a cs) f (inl h) =
    let x = bounded n 10 a h.0 h.4 in
    let y = chain_bounded n (bounded n) cs h.1 h.6 in record { depth = omega (arith, x.depth, y.depth); literals = omega (arith, x.literals, y.literals) }
bounded (suc n) l (tree.Boolean op a others) f (inl h) =
    let x = bounded n (item_level op) a h.0 h.4 in
    let y = operands_bounded n (bounded n) op others h.1 h.6 in record { depth = omega (arith, x.depth, y.depth); literals = omega (arith, x.literals, y.literals) }
bounded (suc n) l (tree.Conditional test value other) f (inl h) =
    let x = bounded n 3 test h.1 h.6 in
    let y = bounded n 3 value h.0 h.5 in
    let z = bounded n 1 other h.2 h.7 in
    record { depth = omega (arith, x.depth, y.depth, z.depth); literals = omega (arith, x.literals, y.literals, z.literals) }

-- a tuple round which no brackets stand is as low as one with brackets
spelled_low : (l : ℕ) (e : Expr) (f : List Terminal) → AreExpressions l e f → IsLow max_depth e
spelled_low l e f (inl h) = bounded max_depth l e f h
spelled_low l e f (inr h) =
    let P : List Expr → Type 0 = λ items. Ended (Spells max_item_depth l) token.Comma items f in
    let x = items_bounded max_item_depth l (bounded max_item_depth) (exprs_of h.0) f (subst P (sym (items_of_exprs h.0)) h.3) in
    let low : IsLow max_depth (tree.Tuple (exprs_of h.0)) = record { depth = omega (arith, x.depth); literals = x.literals } in
    subst (IsLow max_depth) (sym h.1) low

expressions_bounded : (e : Expr) (f : List Terminal) → IsExpressions e f → IsLow max_depth e
expressions_bounded = spelled_low 1

-- ---- targets

-- the expressions of a target are no deeper than this, and their literals are within the limit
record TargetIsLow (n : ℕ) (t : Target) : Type 0 where
  depth : greatest_of_target depth_of t ≤ n
  literals : greatest_of_target longest_literal t ≤ max_length

record TargetsAreLow (n : ℕ) (ts : Targets) : Type 0 where
  depth : greatest_of_targets depth_of ts ≤ n
  literals : greatest_of_targets longest_literal ts ≤ max_length

more_targets_low : (n : ℕ) (t : Target) (ts : Targets) → TargetIsLow n t → TargetsAreLow n ts → TargetsAreLow n (tree.MoreTargets t ts)
more_targets_low n t ts h k = record { depth = omega (arith, h.depth, k.depth); literals = omega (arith, h.literals, k.literals) }

-- the targets that items are, where these are as low as a whole tree of them
unpacked_low : (n : ℕ) (items : Exprs) (t : Target) → ((ts : Targets) → targets_of items ≡ Some ts → TargetsAreLow n ts) → unpack_of (targets_of items) ≡ Some t → TargetIsLow n t
unpacked_low n items t low is =
    let u = unpack_split (targets_of items) t is in
    let x = low (tree.MoreTargets u.0 u.1) u.2 in
    subst (TargetIsLow n) u.3 (record { depth = x.depth; literals = x.literals })

mutual
  target_low : (n : ℕ) (e : Expr) (t : Target) → target_of e ≡ Some t → IsLow n e → TargetIsLow n t
  target_low n (tree.Name x) t is low = subst (TargetIsLow n) (some_inj (tree.Named x) t is) (record { depth = omega arith; literals = omega arith })
  target_low n (tree.Subscript a b) t is low = subst (TargetIsLow n) (some_inj (tree.Item a b) t is) (record { depth = omega (arith, low.depth); literals = omega (arith, low.literals) })
  target_low n (tree.Tuple items) t is low = unpacked_low n items t (λ ts same. targets_low n items ts same (record { depth = omega (arith, low.depth); literals = low.literals })) is
  target_low n (tree.ListDisplay items) t is low = unpacked_low n items t (λ ts same. targets_low n items ts same (record { depth = omega (arith, low.depth); literals = low.literals })) is
  target_low n (tree.DictDisplay items) t is low = cc
  target_low n (tree.Constant v) t is low = cc
  target_low n (tree.Unary op a) t is low = cc
  target_low n (tree.Binary op a b) t is low = cc
  target_low n (tree.Attribute a x) t is low = cc
  target_low n (tree.Call a x args names) t is low = cc
  target_low n (tree.Boolean op a others) t is low = cc
  target_low n (tree.Compare a cs) t is low = cc
  target_low n (tree.Conditional test value other) t is low = cc

  targets_low : (n : ℕ) (es : Exprs) (ts : Targets) → targets_of es ≡ Some ts → AreLow n es → TargetsAreLow n ts
  targets_low n tree.NoExprs ts is low = subst (TargetsAreLow n) (some_inj tree.NoTargets ts is) (record { depth = omega arith; literals = omega arith })
  targets_low n (tree.MoreExprs e es) ts is low =
      let m = more_split (target_of e) (targets_of es) ts is in
      let first = target_low n e m.0 m.2 (record { depth = omega (arith, low.depth); literals = omega (arith, low.literals) }) in
      let others = targets_low n es m.1 m.3 (record { depth = omega (arith, low.depth); literals = omega (arith, low.literals) }) in
      subst (TargetsAreLow n) m.4 (more_targets_low n m.0 m.1 first others)

-- those of an assignment, each in front of its `=`
is_target_low : (t : Target) (f : List Terminal) → IsTarget t f → TargetIsLow max_depth t
is_target_low t f h = target_low max_depth h.0 t h.1 (expressions_bounded h.0 f h.2)

targeted_low : (ts : Targets) (f : List Terminal) → Targeted ts f → TargetsAreLow max_depth ts
targeted_low tree.NoTargets f h = absurd h
targeted_low (tree.MoreTargets t tree.NoTargets) f h = more_targets_low max_depth t tree.NoTargets (is_target_low t h.0 h.2) (record { depth = omega arith; literals = omega arith })
targeted_low (tree.MoreTargets t (tree.MoreTargets u us)) f h =
    more_targets_low max_depth t (tree.MoreTargets u us) (is_target_low t h.3.0 h.3.2) (targeted_low (tree.MoreTargets u us) h.1 h.4)

-- that of a `for`
for_target_low : (t : Target) (f : List Terminal) → IsForTarget t f → TargetIsLow max_depth t
for_target_low t f h = target_low max_depth h.0 t h.1 (spelled_low 18 h.0 f h.2)

-- ---- statements

-- a statement is within the limits, and nested this deep at most
record Keeps (n : ℕ) (s : Stmt) : Type 0 where
  depth : greatest_of depth_of s ≤ max_depth
  literals : greatest_of longest_literal s ≤ max_length
  parameters : most_parameters_of s ≤ max_parameters
  nesting : nesting_of s ≤ n

record AllKeep (n : ℕ) (body : Stmts) : Type 0 where
  depth : greatest_in depth_of body ≤ max_depth
  literals : greatest_in longest_literal body ≤ max_length
  parameters : most_parameters_in body ≤ max_parameters
  nesting : nesting_in body ≤ n

record ClausesKeep (n : ℕ) (cs : Clauses) : Type 0 where
  depth : greatest_in_clauses depth_of cs ≤ max_depth
  literals : greatest_in_clauses longest_literal cs ≤ max_length
  parameters : most_parameters_in_clauses cs ≤ max_parameters
  nesting : nesting_in_clauses cs ≤ n

-- the same of the else suite of an `if`, which is nested as deep as that
record OtherKeeps (n : ℕ) (other : Stmts) : Type 0 where
  depth : greatest_in depth_of other ≤ max_depth
  literals : greatest_in longest_literal other ≤ max_length
  parameters : most_parameters_in other ≤ max_parameters
  nesting : nesting_in other + (if is_elif other then 0 else 1) ≤ suc n

none_keep : (n : ℕ) → AllKeep n tree.NoStmts
none_keep n = record { depth = omega arith; literals = omega arith; parameters = omega arith; nesting = omega arith }

more_keep : (n : ℕ) (s : Stmt) (ss : Stmts) → Keeps n s → AllKeep n ss → AllKeep n (tree.MoreStmts s ss)
more_keep n s ss h k = record {
  depth = omega (arith, h.depth, k.depth);
  literals = omega (arith, h.literals, k.literals);
  parameters = omega (arith, h.parameters, k.parameters);
  nesting = omega (arith, h.nesting, k.nesting);
}

first_keeps : (n : ℕ) (s : Stmt) (ss : Stmts) → AllKeep n (tree.MoreStmts s ss) → Keeps n s
first_keeps n s ss h = record {
  depth = omega (arith, h.depth);
  literals = omega (arith, h.literals);
  parameters = omega (arith, h.parameters);
  nesting = omega (arith, h.nesting);
}

rest_keep : (n : ℕ) (s : Stmt) (ss : Stmts) → AllKeep n (tree.MoreStmts s ss) → AllKeep n ss
rest_keep n s ss h = record {
  depth = omega (arith, h.depth);
  literals = omega (arith, h.literals);
  parameters = omega (arith, h.parameters);
  nesting = omega (arith, h.nesting);
}

both_keep : (n : ℕ) (xs ys : List Stmt) → AllKeep n (stmts_of xs) → AllKeep n (stmts_of ys) → AllKeep n (stmts_of (xs ++ ys))
both_keep n [] ys g h = h
both_keep n (x ∷ xs) ys g h =
    more_keep n x (stmts_of (xs ++ ys)) (first_keeps n x (stmts_of xs) g) (both_keep n xs ys (rest_keep n x (stmts_of xs) g) h)

-- ---- small statements

-- a statement of this expression alone
of_expression : (n : ℕ) (s : Stmt) (e : Expr)
    → greatest_of depth_of s ≡ depth_of e → greatest_of longest_literal s ≡ longest_literal e → most_parameters_of s ≡ 0 → nesting_of s ≡ 0 → IsLow max_depth e → Keeps n s
of_expression n s e d t p k h = record {
  depth = omega (arith, d, h.depth);
  literals = omega (arith, t, h.literals);
  parameters = omega (arith, p);
  nesting = omega (arith, k);
}

-- a statement of no expression
of_none : (n : ℕ) (s : Stmt) → greatest_of depth_of s ≡ 0 → greatest_of longest_literal s ≡ 0 → most_parameters_of s ≡ 0 → nesting_of s ≡ 0 → Keeps n s
of_none n s d t p k = record { depth = omega (arith, d); literals = omega (arith, t); parameters = omega (arith, p); nesting = omega (arith, k) }

small_keeps : (n : ℕ) (s : Stmt) (f : List Terminal) → Small s f → Keeps n s
small_keeps n (tree.Evaluate e) f h = of_expression n (tree.Evaluate e) e refl refl refl refl (expressions_bounded e f h)
small_keeps n (tree.Assign ts e) f h =
    let t = targeted_low ts h.0 h.3 in
    let v = expressions_bounded e h.1 h.4 in record { depth = omega (arith, t.depth, v.depth); literals = omega (arith, t.literals, v.literals); parameters = omega arith; nesting = omega arith }
small_keeps n (tree.Augment x op e) f h = of_expression n (tree.Augment x op e) e refl refl refl refl (expressions_bounded e h.1 h.4)
small_keeps n (tree.AugmentItem a b op e) f h =
    let t = is_target_low (tree.Item a b) h.0 h.3 in
    let v = expressions_bounded e h.1 h.4 in record { depth = omega (arith, t.depth, v.depth); literals = omega (arith, t.literals, v.literals); parameters = omega arith; nesting = omega arith }
small_keeps n (tree.Delete a b) f h =
    let t = target_low max_depth (tree.Subscript a b) (tree.Item a b) refl (bounded max_depth 18 (tree.Subscript a b) h.0 h.2) in
    record { depth = omega (arith, t.depth); literals = omega (arith, t.literals); parameters = omega arith; nesting = omega arith }
small_keeps n tree.Pass f h = of_none n tree.Pass refl refl refl refl
small_keeps n tree.Break f h = of_none n tree.Break refl refl refl refl
small_keeps n tree.Continue f h = of_none n tree.Continue refl refl refl refl
small_keeps n (tree.Return None) f h = of_none n (tree.Return None) refl refl refl refl
small_keeps n (tree.Return (Some e)) f h = of_expression n (tree.Return (Some e)) e refl refl refl refl (expressions_bounded e h.0 h.2)
small_keeps n (tree.Global xs) f h = of_none n (tree.Global xs) refl refl refl refl
small_keeps n (tree.Import m) f h = of_none n (tree.Import m) refl refl refl refl
small_keeps n (tree.Define x ps body) f h = absurd h
small_keeps n (tree.If test body other) f h = absurd h
small_keeps n (tree.While test body other) f h = absurd h
small_keeps n (tree.For t over body other) f h = absurd h
small_keeps n (tree.Raise None) f h = of_none n (tree.Raise None) refl refl refl refl
small_keeps n (tree.Raise (Some e)) f h = of_expression n (tree.Raise (Some e)) e refl refl refl refl (bounded max_depth 1 e h.0 h.2)
small_keeps n (tree.Try body cs other) f h = absurd h
small_keeps n (tree.Finally body cs other last) f h = absurd h

following_keep : (n : ℕ) (ss : List Stmt) (g : List Terminal) → Following Small token.Semicolon ss g → AllKeep n (stmts_of ss)
following_keep n [] g h = none_keep n
following_keep n (s ∷ ss) g h = more_keep n s (stmts_of ss) (small_keeps n s h.0 h.3) (following_keep n ss h.1 h.4)

line_keeps : (n : ℕ) (ss : List Stmt) (f : List Terminal) → Simple ss f → AllKeep n (stmts_of ss)
line_keeps n [] f h = none_keep n
line_keeps n (s ∷ ss) f h = more_keep n s (stmts_of ss) (small_keeps n s h.3.0 h.3.3) (following_keep n ss h.3.1 h.3.4)

-- ---- compound statements

if_keeps : (n : ℕ) (test : Expr) (body other : Stmts) → IsLow max_depth test → AllKeep n body → OtherKeeps n other → Keeps (suc n) (tree.If test body other)
if_keeps n test body other t b o = record {
  depth = omega (arith, t.depth, b.depth, o.depth);
  literals = omega (arith, t.literals, b.literals, o.literals);
  parameters = omega (arith, b.parameters, o.parameters);
  nesting = omega (arith, b.nesting, o.nesting);
}

-- a loop, or another statement with an expression and two suites
looped_keeps : (n : ℕ) (s : Stmt) (e : Expr) (body other : Stmts)
    → ((m : Expr → ℕ) → greatest_of m s ≡ greatest_of m (tree.If e body other))
    → most_parameters_of s ≡ most_parameters_of (tree.If e body other)
    → nesting_of s ≤ nesting_of (tree.While e body other)
    → IsLow max_depth e → AllKeep n body → AllKeep n other → Keeps (suc n) s
looped_keeps n s e body other m p k t b o = record {
  depth = omega (arith, m depth_of, t.depth, b.depth, o.depth);
  literals = omega (arith, m longest_literal, t.literals, b.literals, o.literals);
  parameters = omega (arith, p, b.parameters, o.parameters);
  nesting = omega (arith, k, b.nesting, o.nesting);
}

for_keeps : (n : ℕ) (t : Target) (over : Expr) (body other : Stmts) → TargetIsLow max_depth t → IsLow max_depth over → AllKeep n body → AllKeep n other → Keeps (suc n) (tree.For t over body other)
for_keeps n t over body other g v b o = record {
  depth = omega (arith, g.depth, v.depth, b.depth, o.depth);
  literals = omega (arith, g.literals, v.literals, b.literals, o.literals);
  parameters = omega (arith, b.parameters, o.parameters);
  nesting = omega (arith, b.nesting, o.nesting);
}

clause_keeps : (n : ℕ) (e : Expr) (y : Option Text) (b : Stmts) (cs : Clauses) → IsLow max_depth e → AllKeep n b → ClausesKeep n cs → ClausesKeep n (tree.MoreClauses (Some e) y b cs)
clause_keeps n e y b cs t h k = record {
  depth = omega (arith, t.depth, h.depth, k.depth);
  literals = omega (arith, t.literals, h.literals, k.literals);
  parameters = omega (arith, h.parameters, k.parameters);
  nesting = omega (arith, h.nesting, k.nesting);
}

bare_keeps : (n : ℕ) (y : Option Text) (b : Stmts) (cs : Clauses) → AllKeep n b → ClausesKeep n cs → ClausesKeep n (tree.MoreClauses None y b cs)
bare_keeps n y b cs h k = record {
  depth = omega (arith, h.depth, k.depth);
  literals = omega (arith, h.literals, k.literals);
  parameters = omega (arith, h.parameters, k.parameters);
  nesting = omega (arith, h.nesting, k.nesting);
}

try_keeps : (n : ℕ) (body : Stmts) (cs : Clauses) (other : Stmts) → AllKeep n body → ClausesKeep n cs → AllKeep n other → Keeps (suc n) (tree.Try body cs other)
try_keeps n body cs other b k o = record {
  depth = omega (arith, b.depth, k.depth, o.depth);
  literals = omega (arith, b.literals, k.literals, o.literals);
  parameters = omega (arith, b.parameters, k.parameters, o.parameters);
  nesting = omega (arith, b.nesting, k.nesting, o.nesting);
}

finally_keeps : (n : ℕ) (body : Stmts) (cs : Clauses) (other last : Stmts)
    → AllKeep n body → ClausesKeep n cs → AllKeep n other → AllKeep n last → Keeps (suc n) (tree.Finally body cs other last)
finally_keeps n body cs other last b k o l = record {
  depth = omega (arith, b.depth, k.depth, o.depth, l.depth);
  literals = omega (arith, b.literals, k.literals, o.literals, l.literals);
  parameters = omega (arith, b.parameters, k.parameters, o.parameters, l.parameters);
  nesting = omega (arith, b.nesting, k.nesting, o.nesting, l.nesting);
}

at_most_one : (b : Bool) → (if b then 0 else 1) ≤ 1
at_most_one true = omega arith
at_most_one false = omega arith

-- an else suite that is no `elif`
plain_keeps : (n : ℕ) (last : Stmts) → AllKeep n last → OtherKeeps n last
plain_keeps n last h = record {
  depth = h.depth;
  literals = h.literals;
  parameters = h.parameters;
  nesting = omega (arith, h.nesting, at_most_one (is_elif last));
}

-- an `elif`
elif_keeps : (n : ℕ) (test : Expr) (body other : Stmts) → Keeps (suc n) (tree.If test body other) → OtherKeeps n (tree.MoreStmts (tree.If test body other) tree.NoStmts)
elif_keeps n test body other h = record {
  depth = omega (arith, h.depth);
  literals = omega (arith, h.literals);
  parameters = omega (arith, h.parameters);
  nesting = omega (arith, h.nesting);
}

-- what the lines of a language are made of is within the limits, and nested this deep at most
abbrev Kept : ℕ → Lines → Type 0
Kept n L = (ss : List Stmt) (f : List Terminal) → L ss f → AllKeep n (stmts_of ss)

module _ (n : ℕ) (L : Lines) (kept : Kept n L) where
  lines_keep : (lines : List (List Stmt)) (f : List Terminal) → Many L lines f → AllKeep n (stmts_of (flat_map (λ line. line) lines))
  lines_keep [] f h = none_keep n
  lines_keep (line ∷ lines) f h = both_keep n line (flat_map (λ line. line) lines) (kept line h.0 h.3) (lines_keep lines h.1 h.4)

  suite_keeps : (body : Stmts) (f : List Terminal) → Suite L body f → AllKeep n body
  suite_keeps body f (inl h) = subst (AllKeep n) (sym h.3) (line_keeps n h.0 h.1 h.4)
  suite_keeps body f (inr h) = subst (AllKeep n) (sym h.3.1) (lines_keep h.3.0 h.0 h.3.2)

  last_keeps : (last : Stmts) (f : List Terminal) → Otherwise L last f → AllKeep n last
  last_keeps last f (inl h) = subst (AllKeep n) (sym h.0) (none_keep n)
  last_keeps last f (inr h) = suite_keeps last h.0 h.2

  elifs_keep : (elifs : List Branch) (last : Stmts) (f : List Terminal) → Many (After (Word token.ElifWord) (Tested L)) elifs f → AllKeep n last → OtherKeeps n (elifs_of elifs last)
  elifs_keep [] last f h low = plain_keeps n last low
  elifs_keep (b ∷ elifs) last f h low =
      elif_keeps n b.0 b.1 (elifs_of elifs last)
      (if_keeps n b.0 b.1 (elifs_of elifs last) (bounded max_depth 1 b.0 h.3.2.0 h.3.2.3) (suite_keeps b.1 h.3.2.1 h.3.2.4) (elifs_keep elifs last h.1 h.4 low))

  excepts_keep : (cs : Clauses) (f : List Terminal) → Many (Excepts L) (clause_list cs) f → ClausesKeep n cs
  excepts_keep tree.NoClauses f h = record { depth = omega arith; literals = omega arith; parameters = omega arith; nesting = omega arith }
  excepts_keep (tree.MoreClauses None None b cs) f h = bare_keeps n None b cs (suite_keeps b h.3.0 h.3.2) (excepts_keep cs h.1 h.4)
  excepts_keep (tree.MoreClauses None (Some y) b cs) f h = absurd h.3
  excepts_keep (tree.MoreClauses (Some e) None b cs) f h =
      clause_keeps n e None b cs (bounded max_depth 1 e h.3.2.0 h.3.2.3) (suite_keeps b h.3.2.1 h.3.2.4) (excepts_keep cs h.1 h.4)
  excepts_keep (tree.MoreClauses (Some e) (Some y) b cs) f h =
      clause_keeps n e (Some y) b cs (bounded max_depth 1 e h.3.0 h.3.3) (suite_keeps b h.3.1 h.3.4) (excepts_keep cs h.1 h.4)

  handlers_keep : (cs : Clauses) (other : Stmts) (f : List Terminal) → Handlers L (clause_list cs) other f → ClausesKeep n cs × AllKeep n other
  handlers_keep tree.NoClauses other f h = (excepts_keep tree.NoClauses [] refl, subst (AllKeep n) (sym h.0) (none_keep n))
  handlers_keep (tree.MoreClauses a y b cs) other f h = (excepts_keep (tree.MoreClauses a y b cs) h.0 h.3, last_keeps other h.1 h.5)

  compound_keeps : (s : Stmt) (f : List Terminal) → Compound L s f → Keeps (suc n) s
  compound_keeps (tree.If test body other) f h =
      if_keeps n test body other (bounded max_depth 1 test h.7.0 h.7.3) (suite_keeps body h.7.1 h.7.4)
      (subst (OtherKeeps n) (sym h.6) (elifs_keep h.0 h.1 h.3 h.8 (last_keeps h.1 h.4 h.9)))
  compound_keeps (tree.While test body other) f h =
      looped_keeps n (tree.While test body other) test body other (λ m. refl) refl (omega arith)
      (bounded max_depth 1 test h.3.0 h.3.3) (suite_keeps body h.3.1 h.3.4) (last_keeps other h.1 h.4)
  compound_keeps (tree.For t over body other) f h =
      for_keeps n t over body other (for_target_low t h.0 h.4) (expressions_bounded over h.5.0 h.5.3) (suite_keeps body h.5.1 h.5.4) (last_keeps other h.2 h.6)
  compound_keeps (tree.Try body cs other) f h =
      let t = handlers_keep cs other h.1 h.5 in try_keeps n body cs other (suite_keeps body h.0 h.3) t.0 t.1
  compound_keeps (tree.Finally body cs other last) f h =
      let t = handlers_keep cs other h.1 h.5 in finally_keeps n body cs other last (suite_keeps body h.0 h.4) t.0 t.1 (suite_keeps last h.2 h.6)
  compound_keeps (tree.Define x ps body) f h =
      let b = suite_keeps body h.1 h.5 in record { depth = b.depth; literals = b.literals; parameters = omega (arith, h.4, b.parameters); nesting = omega (arith, b.nesting) }
  compound_keeps (tree.Raise a) f h = absurd h
  compound_keeps (tree.Return a) f h = absurd h
  compound_keeps (tree.Global xs) f h = absurd h
  compound_keeps (tree.Import m) f h = absurd h
  compound_keeps (tree.Evaluate e) f h = absurd h
  compound_keeps (tree.Assign t e) f h = absurd h
  compound_keeps (tree.Augment t op e) f h = absurd h
  compound_keeps (tree.AugmentItem a b op e) f h = absurd h
  compound_keeps (tree.Delete a b) f h = absurd h
  compound_keeps tree.Pass f h = absurd h
  compound_keeps tree.Break f h = absurd h
  compound_keeps tree.Continue f h = absurd h

nests_keep : (n : ℕ) → Kept n (Nests n)
nests_keep zero ss f h = line_keeps zero ss f h
nests_keep (suc n) ss f (inl h) = line_keeps (suc n) ss f h
nests_keep (suc n) ss f (inr h) =
    let P : List Stmt → Type 0 = λ ss. AllKeep (suc n) (stmts_of ss) in
    subst P (sym h.1) (more_keep (suc n) h.0 tree.NoStmts (compound_keeps n (Nests n) (nests_keep n) h.0 f h.2) (none_keep (suc n)))

pub derived_within : (body : Stmts) (ts : List Terminal) → Derives body ts → IsWithinLimits body
derived_within body ts h =
    let k = subst (AllKeep max_nesting) (sym h.2.1) (lines_keep max_nesting (Nests max_nesting) (nests_keep max_nesting) h.2.0 h.0 h.2.2) in
    record { depth = k.depth; literals = k.literals; parameters = k.parameters; nesting = k.nesting }
