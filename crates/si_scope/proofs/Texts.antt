-- Statements of a text one after another, and the parts of an `if` and of a `try`, as the walk goes over them.
use Rattle.std.proofs.Common.{◌≡◌, ℕ, ◌+◌, ◌<◌, ◌≤◌, Bool, false, List, map, length, drop, get_or, Some, sym, ap, ◌∙◌}
use Rattle.std.specs.Option.{option_and_then}
use Rattle.std.proofs.lemmas.List.{drop_all}
use Rattle.si_semantics.specs.Value.{Text}
use Rattle.si_semantics.specs.Tree as tree
use Rattle.si_semantics.specs.Grammar.{elifs_of, clauses_of}
use Rattle.si_syntax.specs.declared.stmt.Stmt.{Stmt}
use Rattle.si_syntax.specs.declared.stmt.Branch.{Branch as BranchParts}
use Rattle.si_syntax.specs.declared.stmt.Clause.{Clause as ClauseParts}
use Rattle.si_syntax.specs.declared.stmt.Finally.{Finally, out-Finally}
use Rattle.si_syntax.specs.Trees.{body_of, branch_of, stmt_of, clause_of, tried_of, try_of, finally_of}
use Rattle.si_syntax.proofs.Rows.{rest_is}
use Rattle.si_scope.specs.inner.Walk.{resolved, resolved_all, resolved_clauses}
use Rattle.si_scope.proofs.Turns.{then_some, and_then_twice}

abbrev Locals : Type 0
Locals = List (List Text)

pub next_stmt : (suite : List Stmt) (i : ℕ) (stmt : Stmt) (loop : Bool) (n0 n : Locals) → i < length suite → get_or suite i stmt ≡ stmt → resolved_all (body_of suite) loop n0 ≡ resolved_all (body_of (drop i suite)) loop n
    → resolved_all (body_of suite) loop n0 ≡ option_and_then (resolved_all (body_of (drop (i + 1) suite)) loop) (resolved (stmt_of stmt) loop n)
next_stmt suite i stmt loop n0 n lt at so_far = so_far ∙ ap (λ l. resolved_all (body_of l) loop n) (rest_is suite i stmt lt at)

-- an `elif` that is reached, and the ones after it
pub next_elif : (bs : List BranchParts) (i : ℕ) (b : BranchParts) (last : tree.Stmts) (suite : List Stmt) (loop : Bool) (n0 n : Locals) → i < length bs → get_or bs i b ≡ b → suite ≡ b.body.items
    → resolved_all (elifs_of (map branch_of bs) last) loop n0 ≡ resolved_all (elifs_of (map branch_of (drop i bs)) last) loop n
    → resolved_all (elifs_of (map branch_of bs) last) loop n0 ≡ option_and_then (resolved_all (elifs_of (map branch_of (drop (i + 1) bs)) last) loop) (resolved_all (body_of suite) loop n)
next_elif bs i b last suite loop n0 n lt at is_suite so_far =
    let rest = resolved_all (elifs_of (map branch_of (drop (i + 1) bs)) last) loop in
    so_far ∙ ap (λ l. resolved_all (elifs_of (map branch_of l) last) loop n) (rest_is bs i b lt at)
    ∙ then_some (option_and_then rest (resolved_all (body_of b.body.items) loop n))
    ∙ ap (λ l. option_and_then rest (resolved_all (body_of l) loop n)) (sym is_suite)

-- after the last `elif`
pub last_elif : (bs : List BranchParts) (i : ℕ) (last : tree.Stmts) (loop : Bool) (n0 n : Locals) → length bs ≤ i
    → resolved_all (elifs_of (map branch_of bs) last) loop n0 ≡ resolved_all (elifs_of (map branch_of (drop i bs)) last) loop n
    → resolved_all (elifs_of (map branch_of bs) last) loop n0 ≡ resolved_all last loop n
last_elif bs i last loop n0 n le so_far = so_far ∙ ap (λ l. resolved_all (elifs_of (map branch_of l) last) loop n) (drop_all i bs le)

-- what stands in front of a finally suite, and then that suite
pub finally_front : (f : Finally) (loop : Bool) (n : Locals) → resolved (finally_of f) loop n ≡ option_and_then (resolved_all (body_of (out-Finally f).end.items) false) (resolved (try_of (out-Finally f).tried) loop n)
finally_front f loop n =
    let t = tried_of (out-Finally f).tried in
    sym (and_then_twice (resolved_all (body_of (out-Finally f).end.items) false) (λ m. option_and_then (resolved_all t.2 loop) (resolved_clauses (clauses_of t.1) loop m)) (resolved_all t.0 loop n))

-- an except clause that is reached, and the ones after it
pub next_clause : (cs : List ClauseParts) (i : ℕ) (c : ClauseParts) (suite : List Stmt) (loop : Bool) (n0 n : Locals) → i < length cs → get_or cs i c ≡ c → suite ≡ c.body.items
    → resolved_clauses (clauses_of (map clause_of cs)) loop n0 ≡ resolved_clauses (clauses_of (map clause_of (drop i cs))) loop n
    → resolved_clauses (clauses_of (map clause_of cs)) loop n0 ≡ option_and_then (resolved_clauses (clauses_of (map clause_of (drop (i + 1) cs))) loop) (resolved_all (body_of suite) loop n)
next_clause cs i c suite loop n0 n lt at is_suite so_far =
    so_far ∙ ap (λ l. resolved_clauses (clauses_of (map clause_of l)) loop n) (rest_is cs i c lt at)
    ∙ ap (λ l. option_and_then (resolved_clauses (clauses_of (map clause_of (drop (i + 1) cs))) loop) (resolved_all (body_of l) loop n)) (sym is_suite)

-- after the last one
pub last_clause : (cs : List ClauseParts) (i : ℕ) (loop : Bool) (n0 n : Locals) → length cs ≤ i
    → resolved_clauses (clauses_of (map clause_of cs)) loop n0 ≡ resolved_clauses (clauses_of (map clause_of (drop i cs))) loop n
    → resolved_clauses (clauses_of (map clause_of cs)) loop n0 ≡ Some n
last_clause cs i loop n0 n le so_far = so_far ∙ ap (λ l. resolved_clauses (clauses_of (map clause_of l)) loop n) (drop_all i cs le)
