-- The code of loops, of their parts.
use Rattle.std.proofs.Common.{◌≡◌, ℕ, ◌+◌, ◌-◌, ◌≤◌, List, [], ◌∷◌, ◌++◌, length, ap, subst, length-append, arith}
use Rattle.si_semantics.specs.Value.{Text}
use Rattle.si_semantics.specs.Tree as tree
use Rattle.si_semantics.specs.Tree.{functions_in, functions_of}
use Rattle.si_syntax.specs.declared.expr.Expr.{Expr}
use Rattle.si_syntax.specs.declared.stmt.Stmt.{Stmt}
use Rattle.si_syntax.specs.Trees.{body_of, expr_of}
use Rattle.si_slots.specs.Machine as machine
use Rattle.si_slots.specs.Machine.{ToTemporary}
use Rattle.si_slots.specs.Code.{condition_code, expr_code, in_place, item_code, item_target, stmt_code, stmts_code}
use Rattle.si_slots.specs.Contents.{Contents}
use Rattle.si_slots.specs.Views.{Gains}
use Rattle.si_slots.specs.inner.Jumps.{Bounds}
use Rattle.si_slots.proofs.Gained.{length_gained}
use Rattle.si_emit.specs.inner.Fronts.{front, held}
use Rattle.si_emit.specs.inner.Turns.{turn_code}
use Rattle.si_emit.proofs.Fronts.{single_is}
use Rattle.si_emit.proofs.LoopCode.{entry, while_gains, for_gains}
use Rattle.si_emit.proofs.Tried.{same_gains, same_number}
use Rattle.si_emit.proofs.Elifs.{two_number}

-- a `while` of its parts; the functions of the else suite are numbered after those of the suite
pub while_stmt : {t0 t1 t2 t3 t4 t5 : Contents} (ls : List Text) (first then : ℕ) (test : Expr) (ss ends : List Stmt) (t : tree.Stmt) (start body turn : ℕ) → t ≡ tree.While (expr_of test) (body_of ss) (body_of ends)
    → then ≡ first + length (functions_in (body_of ss)) → start ≡ length t0.lines → body ≡ length t1.lines → turn ≡ length t2.lines
    → Gains t0 t1 (machine.EnterLoop 0 0 ∷ []) → Gains t1 t2 (stmts_code ls first (body_of ss)) → Gains t2 t3 (turn_code (condition_code ls (expr_of test)) (length t2.lines - body)) → Gains t3 t4 (stmts_code ls then (body_of ends)) → Bounds t4 start turn t5
    → Gains t0 t5 (stmt_code ls first t)
while_stmt {t0} {t1} {t2} {t3} {t4} {t5} ls first then test ss ends t start body turn seen goes here entered there h0 h1 h2 h3 bounds =
    let near : body ≡ start + 1 = omega (arith, entered, here, length_gained h0) in
    let turned = subst (λ n. Gains t2 t3 (turn_code (condition_code ls (expr_of test)) (length t2.lines - n))) near h2 in
    let numbered = subst (λ n. Gains t3 t4 (stmts_code ls n (body_of ends))) goes h3 in
    same_gains ls first t (tree.While (expr_of test) (body_of ss) (body_of ends)) seen
    (while_gains ls (expr_of test) (stmts_code ls first (body_of ss)) (stmts_code ls (first + length (functions_in (body_of ss))) (body_of ends)) start turn here there h0 h1 turned numbered bounds)

pub loop_number : (first then now : ℕ) (test : Expr) (ss ends : List Stmt) (t : tree.Stmt) → t ≡ tree.While (expr_of test) (body_of ss) (body_of ends)
    → then ≡ first + length (functions_in (body_of ss)) → now ≡ then + length (functions_in (body_of ends)) → now ≡ first + length (functions_of t)
loop_number first then now test ss ends t seen goes on = same_number now first t (tree.While (expr_of test) (body_of ss) (body_of ends)) seen (two_number first then now (body_of ss) (body_of ends) goes on)

-- a `for` of its parts
pub for_stmt : {t0 t1 t2 t3 t4 t5 : Contents} (ls : List Text) (first then : ℕ) (g : tree.Target) (items : Expr) (ss ends : List Stmt) (t : tree.Stmt) (start item : ℕ) → t ≡ tree.For g (expr_of items) (body_of ss) (body_of ends)
    → then ≡ first + length (functions_in (body_of ss)) → start + 1 ≡ length t0.lines + length (entry ls (expr_of items)) → item ≡ length t2.lines
    → Gains t0 t1 (entry ls (expr_of items) ++ item_code ls g) → Gains t1 t2 (stmts_code ls first (body_of ss)) → Gains t2 t3 (machine.NextItem (item_target ls g) (length t2.lines - start) ∷ []) → Gains t3 t4 (stmts_code ls then (body_of ends)) → Bounds t4 start item t5
    → Gains t0 t5 (stmt_code ls first t)
for_stmt {t0} {t1} {t2} {t3} {t4} {t5} ls first then g items ss ends t start item seen goes here there h0 h1 h2 h3 bounds =
    let numbered = subst (λ n. Gains t3 t4 (stmts_code ls n (body_of ends))) goes h3 in
    same_gains ls first t (tree.For g (expr_of items) (body_of ss) (body_of ends)) seen
    (for_gains ls (expr_of items) (item_target ls g) (item_code ls g) (stmts_code ls first (body_of ss)) (stmts_code ls (first + length (functions_in (body_of ss))) (body_of ends)) start item here there h0 h1 h2 numbered bounds)

pub for_number : (first then now : ℕ) (g : tree.Target) (items : Expr) (ss ends : List Stmt) (t : tree.Stmt) → t ≡ tree.For g (expr_of items) (body_of ss) (body_of ends)
    → then ≡ first + length (functions_in (body_of ss)) → now ≡ then + length (functions_in (body_of ends)) → now ≡ first + length (functions_of t)
for_number first then now g items ss ends t seen goes on = same_number now first t (tree.For g (expr_of items) (body_of ss) (body_of ends)) seen (two_number first then now (body_of ss) (body_of ends) goes on)

-- the entry of a `for` stands after what there was
pub entry_after : (t0 : Contents) (ls : List Text) (a : tree.Expr) (at : ℕ) → at + 1 ≡ length t0.lines + length (entry ls a) → length t0.lines ≤ at
entry_after t0 ls a at here =
    let place = in_place ls a in
    let code = expr_code ls 0 (ToTemporary 0) a in
    omega (arith, here, ap length (single_is place code 0 (λ v. machine.StartFor 0 0 v)), length-append (front place code) (machine.StartFor 0 0 (held place 0) ∷ []))
