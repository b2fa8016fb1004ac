-- What the walk over a text finds is what is so by definition.
use Rattle.std.proofs.Common.{◌≡◌, Bool, true, false, ◌&&◌, List, [], ◌∷◌, ◌++◌, map, Option, Some, None, refl, sym, ap, subst, ◌∙◌, append_assoc, if◌then◌else◌}
use Rattle.std.specs.Prelude.{Result, Ok, Err, IfErr}
use Rattle.std.specs.Option.{option_and_then, option_map}
use Rattle.std.specs.Result.{IsErrAnd}
use Rattle.std.proofs.lemmas.List.{append-nil, map-append}
use Rattle.std.proofs.Math.Bool.{and_assoc}
use Rattle.si_semantics.specs.Value.{Text}
use Rattle.si_semantics.specs.Tree as tree
use Rattle.si_semantics.specs.Tree.{Stmt, Stmts, Clauses, Function, functions_of, functions_in, functions_in_clauses}
use Rattle.si_semantics.specs.Scope.{locals_of, with_new, bound_in, declared_in, InText, stmt_scoped, stmts_scoped, clauses_scoped, is_scoped}
use Rattle.si_scope.specs.declared.fault.ScopeFault.{ScopeFault}
use Rattle.si_scope.specs.declared.fault.ScopeFault.TheVariants.{Scope, NoMemory}
use Rattle.si_scope.specs.Faults.{IsScope, Fails}
use Rattle.si_scope.specs.Locals.{IsResolved}
use Rattle.si_scope.specs.inner.Walk.{resolved, resolved_all, resolved_clauses}
use Rattle.si_scope.proofs.Walked.{then_same, then_then, local_is}

-- the locals of these functions after those before, if this holds
abbrev after : List (List Text) → List Function → Bool → Option (List (List Text))
after names fs holds = if holds then Some (names ++ map locals_of fs) else None

none_after : (names : List (List Text)) → Some names ≡ after names [] true
none_after names = ap Some (sym (append-nil names))

two_texts : (f : List (List Text) → Option (List (List Text))) (o : Option (List (List Text))) (names : List (List Text)) (fs gs : List Function) (p q : Bool)
    → o ≡ after names fs p → ((more : List (List Text)) → f more ≡ after more gs q) → option_and_then f o ≡ after names (fs ++ gs) (p && q)
two_texts f o names fs gs p q now later = ap (option_and_then f) now ∙ then_same f (λ more. after more gs q) (after names fs p) later ∙ by p
  where
    by : (b : Bool) → option_and_then (λ more. after more gs q) (after names fs b) ≡ after names (fs ++ gs) (b && q)
    by true = ap (λ l. if q then Some l else None) (append_assoc names (map locals_of fs) (map locals_of gs) ∙ ap (λ l. names ++ l) (sym (map-append locals_of fs gs)))
    by false = refl

mutual
  stmt_is : (a : Stmt) (loop : Bool) (names : List (List Text)) → resolved a loop names ≡ after names (functions_of a) (stmt_scoped (InText loop) a)
  stmt_is (tree.Evaluate e) loop names = none_after names
  stmt_is (tree.Assign ts e) loop names = none_after names
  stmt_is (tree.Augment x o e) loop names = none_after names
  stmt_is (tree.AugmentItem a b o e) loop names = none_after names
  stmt_is (tree.Delete a b) loop names = none_after names
  stmt_is tree.Pass loop names = none_after names
  stmt_is (tree.If a b c) loop names =
      two_texts (resolved_all c loop) (resolved_all b loop names) names (functions_in b) (functions_in c) (stmts_scoped (InText loop) b) (stmts_scoped (InText loop) c) (stmts_are b loop names) (stmts_are c loop)
  stmt_is (tree.While a b c) loop names =
      two_texts (resolved_all c loop) (resolved_all b true names) names (functions_in b) (functions_in c) (stmts_scoped (InText true) b) (stmts_scoped (InText loop) c) (stmts_are b true names) (stmts_are c loop)
  stmt_is (tree.For t a b c) loop names =
      two_texts (resolved_all c loop) (resolved_all b true names) names (functions_in b) (functions_in c) (stmts_scoped (InText true) b) (stmts_scoped (InText loop) c) (stmts_are b true names) (stmts_are c loop)
  stmt_is tree.Break loop names = ap (λ l. if loop then Some l else None) (sym (append-nil names))
  stmt_is tree.Continue loop names = ap (λ l. if loop then Some l else None) (sym (append-nil names))
  stmt_is (tree.Define f ps b) loop names =
      ap (option_map (λ locals. names ++ locals ∷ [])) (local_is ps b) ∙ by (stmt_scoped (InText loop) (tree.Define f ps b))
    where
      by : (h : Bool) → option_map (λ locals. names ++ locals ∷ []) (if h then Some (with_new ps (declared_in b) (bound_in b)) else None) ≡ (if h then Some (names ++ with_new ps (declared_in b) (bound_in b) ∷ []) else None)
      by true = refl
      by false = refl
  stmt_is (tree.Return a) loop names = refl
  stmt_is (tree.Global xs) loop names = refl
  stmt_is (tree.Import m) loop names = none_after names
  stmt_is (tree.Raise a) loop names = none_after names
  stmt_is (tree.Try b cs c) loop names =
      let w = InText loop in
      two_texts (λ more. option_and_then (resolved_all c loop) (resolved_clauses cs loop more)) (resolved_all b loop names) names (functions_in b) (functions_in_clauses cs ++ functions_in c)
      (stmts_scoped w b) (clauses_scoped w cs && stmts_scoped w c) (stmts_are b loop names)
      (λ more. two_texts (resolved_all c loop) (resolved_clauses cs loop more) more (functions_in_clauses cs) (functions_in c) (clauses_scoped w cs) (stmts_scoped w c) (clauses_are cs loop more) (stmts_are c loop))
      ∙ ap (after names (functions_in b ++ (functions_in_clauses cs ++ functions_in c))) (sym (and_assoc (stmts_scoped w b) (clauses_scoped w cs) (stmts_scoped w c)))
  stmt_is (tree.Finally b cs c f) loop names =
      let w = InText loop in
      let end = stmts_scoped (InText false) f in
      two_texts (λ more. option_and_then (resolved_all f false) (option_and_then (resolved_all c loop) (resolved_clauses cs loop more))) (resolved_all b loop names) names
      (functions_in b) (functions_in_clauses cs ++ (functions_in c ++ functions_in f)) (stmts_scoped w b) (clauses_scoped w cs && (stmts_scoped w c && end)) (stmts_are b loop names)
      (λ more. then_then (resolved_all f false) (resolved_all c loop) (resolved_clauses cs loop more)
      ∙ two_texts (λ others. option_and_then (resolved_all f false) (resolved_all c loop others)) (resolved_clauses cs loop more) more (functions_in_clauses cs) (functions_in c ++ functions_in f)
      (clauses_scoped w cs) (stmts_scoped w c && end) (clauses_are cs loop more)
      (λ others. two_texts (resolved_all f false) (resolved_all c loop others) others (functions_in c) (functions_in f) (stmts_scoped w c) end (stmts_are c loop others) (stmts_are f false)))
      ∙ ap (after names (functions_in b ++ (functions_in_clauses cs ++ (functions_in c ++ functions_in f))))
      (sym (and_assoc (stmts_scoped w b) (clauses_scoped w cs) (stmts_scoped w c && end)) ∙ sym (and_assoc (stmts_scoped w b && clauses_scoped w cs) (stmts_scoped w c) end))

  stmts_are : (b : Stmts) (loop : Bool) (names : List (List Text)) → resolved_all b loop names ≡ after names (functions_in b) (stmts_scoped (InText loop) b)
  stmts_are tree.NoStmts loop names = none_after names
  stmts_are (tree.MoreStmts a b) loop names =
      two_texts (resolved_all b loop) (resolved a loop names) names (functions_of a) (functions_in b) (stmt_scoped (InText loop) a) (stmts_scoped (InText loop) b) (stmt_is a loop names) (stmts_are b loop)

  clauses_are : (cs : Clauses) (loop : Bool) (names : List (List Text)) → resolved_clauses cs loop names ≡ after names (functions_in_clauses cs) (clauses_scoped (InText loop) cs)
  clauses_are tree.NoClauses loop names = none_after names
  clauses_are (tree.MoreClauses a y b cs) loop names =
      two_texts (resolved_clauses cs loop) (resolved_all b loop names) names (functions_in b) (functions_in_clauses cs) (stmts_scoped (InText loop) b) (clauses_scoped (InText loop) cs) (stmts_are b loop names) (clauses_are cs loop)

-- a script that the walk gets through is resolved
pub script_resolved : (body : Stmts) (names : List (List Text)) → resolved_all body false [] ≡ Some names → IsResolved body names
script_resolved body names h = by (is_scoped body) refl (sym (stmts_are body false []) ∙ h)
  where
    by : (b : Bool) → is_scoped body ≡ b → (if b then Some (map locals_of (functions_in body)) else None) ≡ Some names → IsResolved body names
    by true e k = record { scoped = e; locals = cc }
    by false e k = cc

-- one that it refuses isn't well scoped
script_refused : (body : Stmts) (fault : ScopeFault) → Fails fault (resolved_all body false []) → IsScope fault → is_scoped body ≡ false
script_refused body NoMemory h is = absurd is
script_refused body (Scope line) h is = by (is_scoped body) (sym (stmts_are body false []) ∙ h)
  where
    by : (b : Bool) → (if b then Some (map locals_of (functions_in body)) else None) ≡ None → b ≡ false
    by true k = cc
    by false k = refl

pub refused_for : {Y : Type 0} (body : Stmts) (r : Result Y ScopeFault) (e : ScopeFault) → IsErrAnd r (λ f. f ≡ e) → Fails e (resolved_all body false []) → IfErr r (λ f. IsScope f → is_scoped body ≡ false)
refused_for body (Ok y) e same h = tt
refused_for body (Err f) e same h = script_refused body f (subst (λ g. Fails g (resolved_all body false [])) (sym same) h)
