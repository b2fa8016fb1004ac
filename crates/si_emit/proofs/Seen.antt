-- The tree that a statement stands for, by parts that are read from it.
use Rattle.std.proofs.Common.{◌≡◌, List, ◌∷◌, ◌++◌, map, sym, ap, ◌∙◌, append-nil}
use Rattle.si_semantics.specs.Tree as tree
use Rattle.si_semantics.specs.Tree.{Stmts, functions_in}
use Rattle.si_semantics.specs.Grammar.{Branch, elifs_of, clauses_of}
use Rattle.si_syntax.specs.declared.stmt.Clause.{Clause}
use Rattle.si_syntax.specs.declared.stmt.Finally.{Finally, out-Finally}
use Rattle.si_syntax.specs.declared.stmt.For.{For}
use Rattle.si_syntax.specs.declared.stmt.Stmt.{Stmt}
use Rattle.si_syntax.specs.declared.stmt.Try.{Try, out-Try}
use Rattle.si_syntax.specs.declared.stmt.While.{While}
use Rattle.si_syntax.specs.Trees.{expr_of, target_of, body_of, clause_of, while_of, for_of, tried_of, try_of, finally_of}

pub while_seen : (w : While) (ss ends : List Stmt) → ss ≡ w.body.items → ends ≡ w.last.items → while_of w ≡ tree.While (expr_of w.test) (body_of ss) (body_of ends)
while_seen w ss ends suite end =
    ap (λ l. tree.While (expr_of w.test) (body_of l) (body_of w.last.items)) (sym suite) ∙ ap (λ l. tree.While (expr_of w.test) (body_of ss) (body_of l)) (sym end)

pub for_seen : (f : For) (ss ends : List Stmt) → ss ≡ f.body.items → ends ≡ f.last.items → for_of f ≡ tree.For (target_of f.target) (expr_of f.items) (body_of ss) (body_of ends)
for_seen f ss ends suite end =
    ap (λ l. tree.For (target_of f.target) (expr_of f.items) (body_of l) (body_of f.last.items)) (sym suite)
    ∙ ap (λ l. tree.For (target_of f.target) (expr_of f.items) (body_of ss) (body_of l)) (sym end)

pub try_seen : (t : Try) (ss ends : List Stmt) (cs : List Clause) → ss ≡ (out-Try t).body.items → cs ≡ (out-Try t).clauses.items → ends ≡ (out-Try t).last.items
    → try_of t ≡ tree.Try (body_of ss) (clauses_of (map clause_of cs)) (body_of ends)
try_seen t ss ends cs suite all end =
    ap (λ l. tree.Try (body_of l) (clauses_of (tried_of t).1) (tried_of t).2) (sym suite)
    ∙ ap (λ l. tree.Try (body_of ss) (clauses_of (map clause_of l)) (tried_of t).2) (sym all)
    ∙ ap (λ l. tree.Try (body_of ss) (clauses_of (map clause_of cs)) (body_of l)) (sym end)

pub finally_seen : (f : Finally) (ss : List Stmt) → ss ≡ (out-Finally f).end.items
    → finally_of f ≡ tree.Finally (tried_of (out-Finally f).tried).0 (clauses_of (tried_of (out-Finally f).tried).1) (tried_of (out-Finally f).tried).2 (body_of ss)
finally_seen f ss suite =
    let t = tried_of (out-Finally f).tried in
    ap (λ l. tree.Finally t.0 (clauses_of t.1) t.2 (body_of l)) (sym suite)

-- those after an `if` are those of the next `elif`, and of what stands after that
pub elif_defines : (b : Branch) (more : List Branch) (last : Stmts) → functions_in (elifs_of (b ∷ more) last) ≡ functions_in b.1 ++ functions_in (elifs_of more last)
elif_defines b more last = append-nil (functions_in b.1 ++ functions_in (elifs_of more last))
