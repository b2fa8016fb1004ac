-- How a script is gone over: what each statement adds to what was found, or that it is refused. A reader need not believe this: `resolve` is held to si_semantics alone.
use Rattle.std.specs.Prelude.{List, [], ◌∷◌, ◌++◌, Bool, true, false, Option, Some, None, if◌then◌else◌}
use Rattle.std.specs.Option.{option_and_then, option_map}
use Rattle.si_plain.specs.Names.{with_name}
use Rattle.si_semantics.specs.Value.{Text}
use Rattle.si_semantics.specs.Tree as tree
use Rattle.si_semantics.specs.Tree.{Stmt, Target, Targets, Stmts, Clauses}
use Rattle.si_semantics.specs.Scope.{is_in, are_distinct, with_new, names_of, names_of_value}
use Rattle.si_scope.specs.declared.seen.Seen.{Seen}

-- ---- a function

-- the names once each of these has a slot
abbrev pub with_names : List Text → List Text → List Text
with_names names [] = names
with_names names (x ∷ xs) = with_names (with_name names x) xs

-- names are used
abbrev pub using : List Text → Seen → Seen
using xs s = record { used = with_names s.used xs; declared = s.declared; locals = s.locals }

-- a name is bound, and so is local unless it was declared global
abbrev pub binding : Text → Seen → Seen
binding x s = record { used = with_name s.used x; declared = s.declared; locals = with_new s.locals s.declared (x ∷ []) }

abbrev mutual
  -- a target is bound; an object and its index are used
  pub binding_target : Target → Seen → Seen
  binding_target (tree.Named x) s = binding x s
  binding_target (tree.Item a b) s = using (names_of b) (using (names_of a) s)
  binding_target (tree.Unpack ts) s = binding_targets ts s

  -- targets in a row are bound
  pub binding_targets : Targets → Seen → Seen
  binding_targets tree.NoTargets s = s
  binding_targets (tree.MoreTargets t ts) s = binding_targets ts (binding_target t s)

-- names are declared global, of which none was used
abbrev pub declaring : List Text → Seen → Option Seen
declaring [] s = Some s
declaring (x ∷ xs) s = if is_in x s.used then None else declaring xs (record { used = s.used; declared = with_name s.declared x; locals = s.locals })

-- a name that may be left out is bound
abbrev pub binding_any : Option Text → Seen → Seen
binding_any None s = s
binding_any (Some x) s = binding x s

abbrev mutual
  -- a statement, in a loop or in none, where `return` may stand or may not
  pub after : Stmt → (loop returns : Bool) → Seen → Option Seen
  after (tree.Evaluate a) loop returns s = Some (using (names_of a) s)
  after (tree.Assign ts a) loop returns s = Some (using (names_of a) (binding_targets ts s))
  after (tree.Augment x o a) loop returns s = Some (using (names_of a) (binding x s))
  after (tree.AugmentItem a b o c) loop returns s = Some (using (names_of c) (using (names_of b) (using (names_of a) s)))
  after (tree.Delete a b) loop returns s = Some (using (names_of b) (using (names_of a) s))
  after tree.Pass loop returns s = Some s
  after (tree.If a b c) loop returns s = option_and_then (after_all c loop returns) (after_all b loop returns (using (names_of a) s))
  after (tree.While a b c) loop returns s = option_and_then (after_all c loop returns) (after_all b true returns (using (names_of a) s))
  after (tree.For t a b c) loop returns s =
      option_and_then (after_all c loop returns) (after_all b true returns (using (names_of a) (binding_target t s)))
  after tree.Break loop returns s = if loop then Some s else None
  after tree.Continue loop returns s = if loop then Some s else None
  after (tree.Define f ps b) loop returns s = None
  after (tree.Return a) loop returns s = if returns then Some (using (names_of_value a) s) else None
  after (tree.Global xs) loop returns s = declaring xs s
  after (tree.Import m) loop returns s = None
  after (tree.Raise a) loop returns s = Some (using (names_of_value a) s)
  after (tree.Try b cs c) loop returns s =
      option_and_then (λ t. option_and_then (after_all c loop returns) (after_clauses cs loop returns t)) (after_all b loop returns s)
  after (tree.Finally b cs c f) loop returns s =
      option_and_then
      (λ t. option_and_then (after_all f false false) (option_and_then (after_all c loop returns) (after_clauses cs loop returns t)))
      (after_all b loop returns s)

  -- statements in a row
  pub after_all : Stmts → (loop returns : Bool) → Seen → Option Seen
  after_all tree.NoStmts loop returns s = Some s
  after_all (tree.MoreStmts a b) loop returns s = option_and_then (after_all b loop returns) (after a loop returns s)

  -- except clauses
  pub after_clauses : Clauses → (loop returns : Bool) → Seen → Option Seen
  after_clauses tree.NoClauses loop returns s = Some s
  after_clauses (tree.MoreClauses a y b cs) loop returns s =
      option_and_then (after_clauses cs loop returns) (after_all b loop returns (binding_any y (using (names_of_value a) s)))

-- what is local to a function with these parameters and this suite
abbrev pub local_to : List Text → Stmts → Option (List Text)
local_to ps b =
    if are_distinct ps then option_map (λ (s : Seen). s.locals) (after_all b false true (record { used = ps; declared = []; locals = ps })) else None

-- ---- a text

abbrev mutual
  -- a statement, in a loop or in none, after functions of which these are the locals
  pub resolved : Stmt → Bool → List (List Text) → Option (List (List Text))
  resolved (tree.If a b c) loop names = option_and_then (resolved_all c loop) (resolved_all b loop names)
  resolved (tree.While a b c) loop names = option_and_then (resolved_all c loop) (resolved_all b true names)
  resolved (tree.For t a b c) loop names = option_and_then (resolved_all c loop) (resolved_all b true names)
  resolved tree.Break loop names = if loop then Some names else None
  resolved tree.Continue loop names = if loop then Some names else None
  resolved (tree.Define f ps b) loop names = option_map (λ locals. names ++ locals ∷ []) (local_to ps b)
  resolved (tree.Return a) loop names = None
  resolved (tree.Global xs) loop names = None
  resolved (tree.Try b cs c) loop names =
      option_and_then (λ more. option_and_then (resolved_all c loop) (resolved_clauses cs loop more)) (resolved_all b loop names)
  resolved (tree.Finally b cs c f) loop names =
      option_and_then
      (λ more. option_and_then (resolved_all f false) (option_and_then (resolved_all c loop) (resolved_clauses cs loop more)))
      (resolved_all b loop names)
  resolved _ loop names = Some names

  -- statements in a row
  pub resolved_all : Stmts → Bool → List (List Text) → Option (List (List Text))
  resolved_all tree.NoStmts loop names = Some names
  resolved_all (tree.MoreStmts a b) loop names = option_and_then (resolved_all b loop) (resolved a loop names)

  -- except clauses
  pub resolved_clauses : Clauses → Bool → List (List Text) → Option (List (List Text))
  resolved_clauses tree.NoClauses loop names = Some names
  resolved_clauses (tree.MoreClauses a y b cs) loop names = option_and_then (resolved_clauses cs loop) (resolved_all b loop names)
