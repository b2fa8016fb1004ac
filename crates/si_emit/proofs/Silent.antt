-- Statements without code.
use Rattle.std.proofs.Common.{◌≡◌, ℕ, ◌+◌, ◌<◌, ◌≤◌, List, [], ◌∷◌, ◌++◌, length, map, drop, get_or, arith, Bool, true, false, Option, Some, None, refl, sym, ap, ◌∙◌}
use Rattle.std.specs.Prelude.{◌&&◌}
use Rattle.std.proofs.lemmas.List.{drop_all}
use Rattle.si_semantics.specs.Grammar.{clauses_of}
use Rattle.si_syntax.specs.declared.stmt.Clause.{Clause as ClauseParts}
use Rattle.si_syntax.specs.declared.stmt.Stmt.{Stmt}
use Rattle.si_syntax.specs.Trees.{body_of, clause_of, stmt_of}
use Rattle.si_syntax.proofs.Rows.{rest_is}
use Rattle.si_semantics.specs.Value.{Text}
use Rattle.si_semantics.specs.Tree as tree
use Rattle.si_semantics.specs.Tree.{count_of_targets, functions_in, functions_in_clauses, functions_of}
use Rattle.si_semantics.specs.Scope.{place_of}
use Rattle.si_slots.specs.Machine as machine
use Rattle.si_slots.specs.Machine.{Source, Temporary, Target, ToTemporary, ToLocal, ToNowhere, Instr}
use Rattle.si_slots.specs.Code.{append_in_place, evaluate_code, in_place, jumps, expr_code, with_code, simple_code, row_code, boolean_code, early_of, condition_code, target_code, targets_code, assign_code, store_code, assign_target_code, assign_all_code, augment_instr, augmented_code, augment_code, delete_code, displayed, exprs_code, unpack_code, item_target, item_code, for_code, return_code, raise_code, stmt_code, stmts_code}
use Rattle.si_emit.specs.inner.Silence.{silent, silent_suite}
use Rattle.si_emit.proofs.Fronts.{Starts, starts, starts_here, starts_append, starts_after, starts_last, starts_single, starts_pair, starts_test, starts_branch}

-- both of two truths
both : (a b : Bool) → (a && b) ≡ true → (a ≡ true) × (b ≡ true)
both true true h = (refl, refl)
both true false h = absurd cc
both false b h = absurd cc

-- ---- silent ones have no code and define no function

mutual
  pub silent_stmt : (s : tree.Stmt) → silent s ≡ true → (ls : List Text) (first : ℕ) → stmt_code ls first s ≡ []
  silent_stmt (tree.Evaluate a) h ls first = absurd cc
  silent_stmt (tree.Assign ts a) h ls first = absurd cc
  silent_stmt (tree.Augment x o a) h ls first = absurd cc
  silent_stmt (tree.AugmentItem a b o c) h ls first = absurd cc
  silent_stmt (tree.Delete a b) h ls first = absurd cc
  silent_stmt tree.Pass h ls first = refl
  silent_stmt (tree.If a b c) h ls first = absurd cc
  silent_stmt (tree.While a b c) h ls first = absurd cc
  silent_stmt (tree.For g a b c) h ls first = absurd cc
  silent_stmt tree.Break h ls first = absurd cc
  silent_stmt tree.Continue h ls first = absurd cc
  silent_stmt (tree.Define f ps b) h ls first = absurd cc
  silent_stmt (tree.Return a) h ls first = absurd cc
  silent_stmt (tree.Global xs) h ls first = refl
  silent_stmt (tree.Import m) h ls first = absurd cc
  silent_stmt (tree.Raise a) h ls first = absurd cc
  silent_stmt (tree.Try b tree.NoClauses c) h ls first =
      let two = both (silent_suite b) (silent_suite c) h in
      let last = first + length (functions_in b ++ functions_in_clauses tree.NoClauses) in
      ap (λ l. l ++ stmts_code ls last c) (silent_code b two.0 ls first) ∙ silent_code c two.1 ls last
  silent_stmt (tree.Try b (tree.MoreClauses a y s cs) c) h ls first = absurd cc
  silent_stmt (tree.Finally b cs c f) h ls first = absurd cc

  pub silent_code : (b : tree.Stmts) → silent_suite b ≡ true → (ls : List Text) (first : ℕ) → stmts_code ls first b ≡ []
  silent_code tree.NoStmts h ls first = refl
  silent_code (tree.MoreStmts a b) h ls first =
      let two = both (silent a) (silent_suite b) h in
      let rest = stmts_code ls (first + length (functions_of a)) b in
      ap (λ l. l ++ rest) (silent_stmt a two.0 ls first) ∙ silent_code b two.1 ls (first + length (functions_of a))

mutual
  pub silent_stmt_functions : (s : tree.Stmt) → silent s ≡ true → functions_of s ≡ []
  silent_stmt_functions (tree.Evaluate a) h = absurd cc
  silent_stmt_functions (tree.Assign ts a) h = absurd cc
  silent_stmt_functions (tree.Augment x o a) h = absurd cc
  silent_stmt_functions (tree.AugmentItem a b o c) h = absurd cc
  silent_stmt_functions (tree.Delete a b) h = absurd cc
  silent_stmt_functions tree.Pass h = refl
  silent_stmt_functions (tree.If a b c) h = absurd cc
  silent_stmt_functions (tree.While a b c) h = absurd cc
  silent_stmt_functions (tree.For g a b c) h = absurd cc
  silent_stmt_functions tree.Break h = absurd cc
  silent_stmt_functions tree.Continue h = absurd cc
  silent_stmt_functions (tree.Define f ps b) h = absurd cc
  silent_stmt_functions (tree.Return a) h = absurd cc
  silent_stmt_functions (tree.Global xs) h = refl
  silent_stmt_functions (tree.Import m) h = absurd cc
  silent_stmt_functions (tree.Raise a) h = absurd cc
  silent_stmt_functions (tree.Try b tree.NoClauses c) h =
      let two = both (silent_suite b) (silent_suite c) h in
      ap (λ l. l ++ (functions_in_clauses tree.NoClauses ++ functions_in c)) (silent_functions b two.0) ∙ silent_functions c two.1
  silent_stmt_functions (tree.Try b (tree.MoreClauses a y s cs) c) h = absurd cc
  silent_stmt_functions (tree.Finally b cs c f) h = absurd cc

  pub silent_functions : (b : tree.Stmts) → silent_suite b ≡ true → functions_in b ≡ []
  silent_functions tree.NoStmts h = refl
  silent_functions (tree.MoreStmts a b) h =
      let two = both (silent a) (silent_suite b) h in
      ap (λ l. l ++ functions_in b) (silent_stmt_functions a two.0) ∙ silent_functions b two.1

-- ---- the others have code

starts_simple : (ls : List Text) (a : tree.Expr) (g : Target) → Starts (simple_code ls a g)
starts_simple ls a g = starts_test (jumps ls a) (λ k. expr_code ls 0 k a) (in_place ls a) 0 g (λ k. starts ls 0 k a)

starts_row : (ls : List Text) (early : ℕ → Target) (g : Target) (a : tree.Expr) (more : tree.Exprs) → Starts (row_code ls early g a more)
starts_row ls early g a tree.NoExprs = starts_simple ls a g
starts_row ls early g a (tree.MoreExprs b more) = starts_append _ (row_code ls early g b more) (starts_simple ls a (early (length (row_code ls early g b more))))

starts_boolean : (ls : List Text) (e : Option (ℕ → Target)) (o : tree.BooleanOperator) (a : tree.Expr) (more : tree.Exprs) (g : Target) → Starts (boolean_code ls e o a more g)
starts_boolean ls None o a more g = starts_simple ls (tree.Boolean o a more) g
starts_boolean ls (Some early) o a more g = starts_row ls early g a more

starts_condition : (ls : List Text) (a : tree.Expr) (g : Target) → Starts (condition_code ls a g)
starts_condition ls (tree.Constant v) g = starts_simple ls (tree.Constant v) g
starts_condition ls (tree.Name x) g = starts_simple ls (tree.Name x) g
starts_condition ls (tree.Unary o a) g = starts_simple ls (tree.Unary o a) g
starts_condition ls (tree.Binary o a b) g = starts_simple ls (tree.Binary o a b) g
starts_condition ls (tree.Subscript a b) g = starts_simple ls (tree.Subscript a b) g
starts_condition ls (tree.Attribute a x) g = starts_simple ls (tree.Attribute a x) g
starts_condition ls (tree.Call f x args names) g = starts_simple ls (tree.Call f x args names) g
starts_condition ls (tree.Tuple items) g = starts_simple ls (tree.Tuple items) g
starts_condition ls (tree.ListDisplay items) g = starts_simple ls (tree.ListDisplay items) g
starts_condition ls (tree.DictDisplay items) g = starts_simple ls (tree.DictDisplay items) g
starts_condition ls (tree.Boolean o a more) g = starts_boolean ls (early_of o g) o a more g
starts_condition ls (tree.Compare a cs) g = starts_simple ls (tree.Compare a cs) g
starts_condition ls (tree.Conditional a b c) g = starts_simple ls (tree.Conditional a b c) g

starts_with : (ls : List Text) (a : tree.Expr) (i : Source → Instr) → Starts (with_code ls a i)
starts_with ls a i = starts_single (in_place ls a) (expr_code ls 0 (ToTemporary 0) a) 0 i

starts_assign : (ls : List Text) (x : Text) (k : Option ℕ) (a : tree.Expr) → Starts (assign_code ls x k a)
starts_assign ls x None a = starts_with ls a (λ s. machine.StoreGlobal x s)
starts_assign ls x (Some k) a = starts ls 0 (ToLocal k) a

starts_target : (ls : List Text) (d : ℕ) (t : tree.Target) → Starts (target_code ls d t)
starts_target ls d (tree.Named x) = starts_here _ []
starts_target ls d (tree.Item a b) = starts_pair (in_place ls a) (in_place ls b) _ _ (d + 1) (λ s t. machine.StoreItem (Temporary d) s t)
starts_target ls d (tree.Unpack ts) = starts_here _ (targets_code ls d ts)

starts_store : (a b c : Option Source) (code : List Instr) → Starts code → Starts (store_code a b c code)
starts_store (Some a) (Some b) (Some c) code h = starts_here (machine.StoreItem a b c) []
starts_store (Some a) (Some b) None code h = h
starts_store (Some a) None c code h = h
starts_store None b c code h = h

starts_display : (ls : List Text) (items : tree.Exprs) (i : Instr) (rest : List Instr) → Starts (i ∷ rest) → Starts (exprs_code ls 0 items ++ (i ∷ rest))
starts_display ls tree.NoExprs i rest h = h
starts_display ls (tree.MoreExprs a items) i rest h = starts_append _ (i ∷ rest) (starts_append _ (exprs_code ls 1 items) (starts ls 0 (ToTemporary 0) a))

starts_unpack : (ls : List Text) (ts : tree.Targets) (a : tree.Expr) (o : Option tree.Exprs) → Starts (unpack_code ls ts a o)
starts_unpack ls ts a None = starts_append _ (targets_code ls 0 ts) (starts_with ls a (λ s. machine.Unpack s 0 (count_of_targets ts)))
starts_unpack ls ts a (Some items) = starts_display ls items (machine.Reverse 0 (count_of_targets ts)) (targets_code ls 0 ts) (starts_here _ (targets_code ls 0 ts))

starts_assign_target : (ls : List Text) (t : tree.Target) (a : tree.Expr) → Starts (assign_target_code ls t a)
starts_assign_target ls (tree.Named x) a = starts_assign ls x (place_of x ls) a
starts_assign_target ls (tree.Item b c) a = starts_store (in_place ls a) (in_place ls b) (in_place ls c) _ (starts_append _ _ (starts ls 0 (ToTemporary 0) a))
starts_assign_target ls (tree.Unpack ts) a = starts_unpack ls ts a (displayed (count_of_targets ts) a)

starts_assign_all : (ls : List Text) (ts : tree.Targets) (a : tree.Expr) → Starts (assign_all_code ls ts a)
starts_assign_all ls tree.NoTargets a = starts ls 0 ToNowhere a
starts_assign_all ls (tree.MoreTargets t tree.NoTargets) a = starts_assign_target ls t a
starts_assign_all ls (tree.MoreTargets t (tree.MoreTargets u ts)) a = starts_append _ _ (starts ls 0 (ToTemporary 0) a)

starts_augmented : (ls : List Text) (g : Target) (x : Text) (o : tree.BinaryOperator) (a : tree.Expr) → Starts (augmented_code ls g x o a)
starts_augmented ls g x o a = starts_pair (in_place ls (tree.Name x)) (in_place ls a) _ _ 0 (λ s t. augment_instr o g s t)

starts_augment : (ls : List Text) (x : Text) (k : Option ℕ) (o : tree.BinaryOperator) (a : tree.Expr) → Starts (augment_code ls x k o a)
starts_augment ls x None o a = starts_last (augmented_code ls (ToTemporary 0) x o a) (machine.StoreGlobal x (Temporary 0))
starts_augment ls x (Some k) o a = starts_augmented ls (ToLocal k) x o a

starts_delete : (ls : List Text) (a b : tree.Expr) → Starts (delete_code ls a b)
starts_delete ls a b = starts_pair (in_place ls a) (in_place ls b) _ _ 0 (λ s t. machine.DeleteItem s t)

starts_for : (ls : List Text) (a : tree.Expr) (g : Target) (bind body last : List Instr) → Starts (for_code (λ i. with_code ls a i) g bind body last)
starts_for ls a g bind body last = starts_append _ _ (starts_with ls a (λ s. machine.StartFor (length bind + length body) (length bind + length body + 1 + length last) s))

starts_return : (ls : List Text) (a : Option tree.Expr) → Starts (return_code ls a)
starts_return ls None = starts_here _ []
starts_return ls (Some a) = starts_with ls a (λ s. machine.Return s)

starts_evaluate : (o : Option Instr) (code : List Instr) → Starts code → Starts (evaluate_code o code)
starts_evaluate None code h = h
starts_evaluate (Some i) code h = starts_here i code

starts_raise : (ls : List Text) (a : Option tree.Expr) → Starts (raise_code ls a)
starts_raise ls None = starts_here _ []
starts_raise ls (Some a) = starts_with ls a (λ s. machine.Raise s)

-- one of two that are not both silent
either : (a b : Bool) (xs ys : List Instr) → (a && b) ≡ false → (a ≡ false → Starts xs) → (b ≡ false → Starts ys) → Starts (xs ++ ys)
either false b xs ys h f g = starts_append xs ys (f refl)
either true b xs ys h f g = starts_after xs ys (g h)

pub starts_if : (ls : List Text) (first : ℕ) (a : tree.Expr) (b c : tree.Stmts) → Starts (stmt_code ls first (tree.If a b c))
starts_if ls first a b c = starts_branch (condition_code ls a) (stmts_code ls first b) (stmts_code ls (first + length (functions_in b)) c) (λ k. starts_condition ls a k)

mutual
  pub loud_stmt : (s : tree.Stmt) → silent s ≡ false → (ls : List Text) (first : ℕ) → Starts (stmt_code ls first s)
  loud_stmt (tree.Evaluate a) h ls first = starts_evaluate (append_in_place ls a) (expr_code ls 0 ToNowhere a) (starts ls 0 ToNowhere a)
  loud_stmt (tree.Assign ts a) h ls first = starts_assign_all ls ts a
  loud_stmt (tree.Augment x o a) h ls first = starts_augment ls x (place_of x ls) o a
  loud_stmt (tree.AugmentItem a b o c) h ls first = starts_append _ _ (starts ls 0 (ToTemporary 0) a)
  loud_stmt (tree.Delete a b) h ls first = starts_delete ls a b
  loud_stmt tree.Pass h ls first = absurd cc
  loud_stmt (tree.If a b c) h ls first = starts_if ls first a b c
  loud_stmt (tree.While a b c) h ls first = starts_here _ _
  loud_stmt (tree.For t a b c) h ls first = starts_for ls a (item_target ls t) (item_code ls t) (stmts_code ls first b) (stmts_code ls (first + length (functions_in b)) c)
  loud_stmt tree.Break h ls first = starts_here _ []
  loud_stmt tree.Continue h ls first = starts_here _ []
  loud_stmt (tree.Define f ps b) h ls first = starts_here _ []
  loud_stmt (tree.Return a) h ls first = starts_return ls a
  loud_stmt (tree.Global xs) h ls first = absurd cc
  loud_stmt (tree.Import m) h ls first = starts_here _ []
  loud_stmt (tree.Raise a) h ls first = starts_raise ls a
  loud_stmt (tree.Try b tree.NoClauses c) h ls first =
      let last = first + length (functions_in b ++ functions_in_clauses tree.NoClauses) in
      either (silent_suite b) (silent_suite c) (stmts_code ls first b) (stmts_code ls last c) h (λ k. loud_code b k ls first) (λ k. loud_code c k ls last)
  loud_stmt (tree.Try b (tree.MoreClauses a y s cs) c) h ls first = starts_here _ _
  loud_stmt (tree.Finally b cs c f) h ls first = starts_here _ _

  pub loud_code : (b : tree.Stmts) → silent_suite b ≡ false → (ls : List Text) (first : ℕ) → Starts (stmts_code ls first b)
  loud_code tree.NoStmts h ls first = absurd cc
  loud_code (tree.MoreStmts a b) h ls first =
      let rest = first + length (functions_of a) in
      either (silent a) (silent_suite b) (stmt_code ls first a) (stmts_code ls rest b) h (λ k. loud_stmt a k ls first) (λ k. loud_code b k ls rest)

-- ---- whether statements are silent, one after another

pub silent_step : (ss : List Stmt) (i : ℕ) (s : Stmt) (b all : Bool) → i < length ss → get_or ss i s ≡ s → b ≡ silent (stmt_of s) → b ≡ true → silent_suite (body_of (drop i ss)) ≡ all → silent_suite (body_of (drop (i + 1) ss)) ≡ all
silent_step ss i s b all lt at is holds before =
    sym (ap (λ a. a && silent_suite (body_of (drop (i + 1) ss))) (sym is ∙ holds)) ∙ sym (ap (λ l. silent_suite (body_of l)) (rest_is ss i s lt at)) ∙ before

pub silent_found : (ss : List Stmt) (i : ℕ) (s : Stmt) (b all : Bool) → i < length ss → get_or ss i s ≡ s → b ≡ silent (stmt_of s) → b ≡ false → silent_suite (body_of (drop i ss)) ≡ all → false ≡ all
silent_found ss i s b all lt at is fails before =
    sym (ap (λ a. a && silent_suite (body_of (drop (i + 1) ss))) (sym is ∙ fails)) ∙ sym (ap (λ l. silent_suite (body_of l)) (rest_is ss i s lt at)) ∙ before

pub silent_end : (ss : List Stmt) (i : ℕ) (all : Bool) → length ss ≤ i → silent_suite (body_of (drop i ss)) ≡ all → true ≡ all
silent_end ss i all le before = sym (ap (λ l. silent_suite (body_of l)) (drop_all i ss le)) ∙ before

-- a `try` with clauses, and one without
pub clauses_loud : (cs : List ClauseParts) (b c : tree.Stmts) → 0 < length cs → false ≡ silent (tree.Try b (clauses_of (map clause_of cs)) c)
clauses_loud [] b c some = absurd (omega (arith, some))
clauses_loud (x ∷ xs) b c some = refl

pub silent_parts : (cs : List ClauseParts) (b c : tree.Stmts) → length cs ≡ 0 → silent (tree.Try b (clauses_of (map clause_of cs)) c) ≡ silent_suite b && silent_suite c
silent_parts [] b c none = refl
silent_parts (x ∷ xs) b c none = absurd (omega (arith, none))
