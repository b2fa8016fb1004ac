-- Statements one after another, and the parts of an `if` and of a `try`, as the walk goes over them.
use Rattle.std.proofs.Common.{◌≡◌, ℕ, ◌+◌, ◌<◌, ◌≤◌, Bool, false, List, map, length, drop, get_or, string_bytes, Option, Some, None, refl, sym, ap, subst, ◌∙◌}
use Rattle.std.specs.Prelude.{Result, Ok, Err}
use Rattle.std.specs.Option.{option_and_then, option_map}
use Rattle.std.specs.Result.{IsErr, IsErrAnd}
use Rattle.std.proofs.lemmas.List.{drop_all}
use Rattle.si_semantics.specs.Tree as tree
use Rattle.si_semantics.specs.Grammar.{elifs_of, clauses_of}
use Rattle.si_semantics.specs.Scope.{names_of, names_of_value}
use Rattle.si_syntax.specs.declared.stmt.Stmt.{Stmt}
use Rattle.si_syntax.specs.declared.stmt.Branch.{Branch as BranchParts}
use Rattle.si_syntax.specs.declared.stmt.Clause.{Clause as ClauseParts}
use Rattle.si_syntax.specs.declared.stmt.Finally.{Finally, out-Finally}
use Rattle.si_syntax.specs.Trees.{body_of, branch_of, expr_of, stmt_of, clause_of, tried_of, try_of, finally_of}
use Rattle.si_syntax.proofs.Rows.{rest_is}
use Rattle.si_scope.specs.declared.seen.Seen.{Seen}
use Rattle.si_scope.specs.declared.fault.ScopeFault.{ScopeFault}
use Rattle.si_scope.specs.declared.fault.ScopeFault.TheVariants.{Scope, NoMemory}
use Rattle.si_scope.specs.Faults.{Fails, Leaves}
use Rattle.si_scope.specs.inner.Walk.{using, binding_any, after, after_all, after_clauses}

-- ---- what fails

-- a fault is handed on
pub handed_on : {X Y : Type 0} (x : X) (r : Result Y ScopeFault) (e : ScopeFault) (comes : Option X) → IsErr r → IsErrAnd r (λ f. f ≡ e) → Fails e comes → Leaves x r comes
handed_on x (Ok y) e comes is same h = cc
handed_on x (Err f) e comes is same h = subst (λ g. Fails g comes) (sym same) h

-- nothing comes of what follows
pub fails_then : {X Y : Type 0} (e : ScopeFault) (f : X → Option Y) (o : Option X) (all : Option Y) → all ≡ option_and_then f o → Fails e o → Fails e all
fails_then NoMemory f o all is h = tt
fails_then (Scope line) f o all is h = is ∙ ap (option_and_then f) h

-- ---- statements

pub next_stmt : (suite : List Stmt) (i : ℕ) (stmt : Stmt) (loop returns : Bool) (s0 s : Seen) → i < length suite → get_or suite i stmt ≡ stmt → after_all (body_of suite) loop returns s0 ≡ after_all (body_of (drop i suite)) loop returns s
    → after_all (body_of suite) loop returns s0 ≡ option_and_then (after_all (body_of (drop (i + 1) suite)) loop returns) (after (stmt_of stmt) loop returns s)
next_stmt suite i stmt loop returns s0 s lt at so_far = so_far ∙ ap (λ l. after_all (body_of l) loop returns s) (rest_is suite i stmt lt at)

-- ---- an `if`

pub then_some : {X : Type 0} (o : Option X) → option_and_then (λ x. Some x) o ≡ o
then_some None = refl
then_some (Some x) = refl

-- an `elif` that is reached, and the ones after it
pub next_elif : (bs : List BranchParts) (i : ℕ) (b : BranchParts) (last : tree.Stmts) (loop returns : Bool) (s0 s : Seen) → i < length bs → get_or bs i b ≡ b
    → after_all (elifs_of (map branch_of bs) last) loop returns s0 ≡ after_all (elifs_of (map branch_of (drop i bs)) last) loop returns s
    → after_all (elifs_of (map branch_of bs) last) loop returns s0
    ≡ option_and_then (after_all (elifs_of (map branch_of (drop (i + 1) bs)) last) loop returns) (after_all (branch_of b).1 loop returns (using (names_of (branch_of b).0) s))
next_elif bs i b last loop returns s0 s lt at so_far =
    so_far ∙ ap (λ l. after_all (elifs_of (map branch_of l) last) loop returns s) (rest_is bs i b lt at)
    ∙ then_some (option_and_then (after_all (elifs_of (map branch_of (drop (i + 1) bs)) last) loop returns) (after_all (branch_of b).1 loop returns (using (names_of (branch_of b).0) s)))

-- after the last `elif`
pub last_elif : (bs : List BranchParts) (i : ℕ) (last : tree.Stmts) (loop returns : Bool) (s0 s : Seen) → length bs ≤ i
    → after_all (elifs_of (map branch_of bs) last) loop returns s0 ≡ after_all (elifs_of (map branch_of (drop i bs)) last) loop returns s
    → after_all (elifs_of (map branch_of bs) last) loop returns s0 ≡ after_all last loop returns s
last_elif bs i last loop returns s0 s le so_far = so_far ∙ ap (λ l. after_all (elifs_of (map branch_of l) last) loop returns s) (drop_all i bs le)

-- ---- a `try`

pub and_then_twice : {X Y Z : Type 0} (f : Y → Option Z) (g : X → Option Y) (o : Option X) → option_and_then f (option_and_then g o) ≡ option_and_then (λ x. option_and_then f (g x)) o
and_then_twice f g None = refl
and_then_twice f g (Some x) = refl

-- what stands in front of a finally suite, and then that suite
pub finally_front : (f : Finally) (loop returns : Bool) (s : Seen) → after (finally_of f) loop returns s ≡ option_and_then (after_all (body_of (out-Finally f).end.items) false false) (after (try_of (out-Finally f).tried) loop returns s)
finally_front f loop returns s =
    let t = tried_of (out-Finally f).tried in
    sym (and_then_twice (after_all (body_of (out-Finally f).end.items) false false) (λ u. option_and_then (after_all t.2 loop returns) (after_clauses (clauses_of t.1) loop returns u)) (after_all t.0 loop returns s))

-- ---- except clauses

-- one that is reached, and the ones after it
pub next_clause : (cs : List ClauseParts) (i : ℕ) (c : ClauseParts) (suite : List Stmt) (loop returns : Bool) (s0 s t u : Seen) → i < length cs → get_or cs i c ≡ c → suite ≡ c.body.items
    → t ≡ using (names_of_value (option_map expr_of c.value)) s → u ≡ binding_any (option_map string_bytes c.name) t
    → after_clauses (clauses_of (map clause_of cs)) loop returns s0 ≡ after_clauses (clauses_of (map clause_of (drop i cs))) loop returns s
    → after_clauses (clauses_of (map clause_of cs)) loop returns s0 ≡ option_and_then (after_clauses (clauses_of (map clause_of (drop (i + 1) cs))) loop returns) (after_all (body_of suite) loop returns u)
next_clause cs i c suite loop returns s0 s t u lt at is_suite is_used is_bound so_far =
    let rest = after_clauses (clauses_of (map clause_of (drop (i + 1) cs))) loop returns in
    so_far ∙ ap (λ l. after_clauses (clauses_of (map clause_of l)) loop returns s) (rest_is cs i c lt at)
    ∙ ap (λ l. option_and_then rest (after_all (body_of l) loop returns (binding_any (option_map string_bytes c.name) (using (names_of_value (option_map expr_of c.value)) s)))) (sym is_suite)
    ∙ ap (λ v. option_and_then rest (after_all (body_of suite) loop returns (binding_any (option_map string_bytes c.name) v))) (sym is_used)
    ∙ ap (λ v. option_and_then rest (after_all (body_of suite) loop returns v)) (sym is_bound)

-- after the last one
pub last_clause : (cs : List ClauseParts) (i : ℕ) (loop returns : Bool) (s0 s : Seen) → length cs ≤ i
    → after_clauses (clauses_of (map clause_of cs)) loop returns s0 ≡ after_clauses (clauses_of (map clause_of (drop i cs))) loop returns s
    → after_clauses (clauses_of (map clause_of cs)) loop returns s0 ≡ Some s
last_clause cs i loop returns s0 s le so_far = so_far ∙ ap (λ l. after_clauses (clauses_of (map clause_of l)) loop returns s) (drop_all i cs le)
