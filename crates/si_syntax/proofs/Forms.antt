-- The trees that forms with parts of their own stand for.
use Rattle.std.proofs.Common.{◌≡◌, List, [], ◌∷◌, map, Box, Vec, Global, refl, sym, ap, ◌∙◌}
use Rattle.si_semantics.specs.Tree as tree
use Rattle.si_semantics.specs.Grammar.{chain_of, Branch, Clause, elifs_of, clauses_of}
use Rattle.si_plain.specs.declared.operators.ComparisonOperator.{ComparisonOperator}
use Rattle.si_syntax.specs.declared.expr.Expr.{Expr}
use Rattle.si_syntax.specs.declared.expr.Expr.TheFolds.{fold-roll-Expr}
use Rattle.si_syntax.specs.declared.expr.Expr.TheOpen.{Expr-F}
use Rattle.si_syntax.specs.declared.expr.Expr.TheVariants.{rolls-Compare}
use Rattle.si_syntax.specs.declared.expr.Expr.TheViews as views
use Rattle.si_syntax.specs.declared.stmt.Branch.{Branch as BranchParts}
use Rattle.si_syntax.specs.declared.stmt.Clause.{Clause as ClauseParts}
use Rattle.si_syntax.specs.declared.stmt.If.{If, out-If}
use Rattle.si_syntax.specs.declared.stmt.Try.{Try, out-Try}
use Rattle.si_syntax.specs.declared.stmt.Finally.{Finally, out-Finally}
use Rattle.si_syntax.specs.declared.stmt.While.{While}
use Rattle.si_syntax.specs.declared.stmt.For.{For}
use Rattle.si_syntax.specs.declared.stmt.Define.{Define}
use Rattle.si_syntax.specs.declared.stmt.Stmt.TheFolds.{fold-Branch, fold-Clause, fold-Try, fold-roll-Stmt, fold_out-Branch, fold_out-Clause, fold_out-Define, fold_out-Finally, fold_out-For, fold_out-If, fold_out-Try, fold_out-While}
use Rattle.si_syntax.specs.declared.stmt.Stmt.TheOpen.{Stmt-F}
use Rattle.si_syntax.specs.declared.stmt.Stmt.TheVariants as stmts
use Rattle.si_syntax.specs.declared.stmt.Stmt.TheVariants.{rolls-Define, rolls-Finally, rolls-For, rolls-If, rolls-Try, rolls-While}
use Rattle.si_syntax.specs.Trees.{body_of, expr_of, view_step, link_of, Tried, stmt_of, stmt_step, branch_step, clause_step, define_step, finally_step, for_step, if_step, try_step, while_step, branch_of, clause_of, define_of, finally_of, for_of, if_of, try_of, tried_of, while_of}

pub compare_is : (a : Box Expr Global) (ls : Vec (ComparisonOperator × Expr) Global) → expr_of (views.Compare a ls) ≡ tree.Compare (expr_of a.value) (chain_of (map link_of ls.items))
compare_is a ls =
    ap expr_of (sym (rolls-Compare a ls)) ∙ fold-roll-Expr tree.Expr view_step (Expr-F.Compare a ls)

branches_are : (bs : List BranchParts) → map (fold-Branch tree.Stmt Branch Clause tree.Stmt tree.Stmt tree.Stmt tree.Stmt Tried tree.Stmt stmt_step branch_step clause_step define_step finally_step for_step if_step try_step while_step) bs ≡ map branch_of bs
branches_are [] = refl
branches_are (b ∷ bs) = ap (λ x. x ∷ map (fold-Branch tree.Stmt Branch Clause tree.Stmt tree.Stmt tree.Stmt tree.Stmt Tried tree.Stmt stmt_step branch_step clause_step define_step finally_step for_step if_step try_step while_step) bs) (fold_out-Branch tree.Stmt Branch Clause tree.Stmt tree.Stmt tree.Stmt tree.Stmt Tried tree.Stmt stmt_step branch_step clause_step define_step finally_step for_step if_step try_step while_step b) ∙ ap (λ r. branch_of b ∷ r) (branches_are bs)

clauses_are : (cs : List ClauseParts) → map (fold-Clause tree.Stmt Branch Clause tree.Stmt tree.Stmt tree.Stmt tree.Stmt Tried tree.Stmt stmt_step branch_step clause_step define_step finally_step for_step if_step try_step while_step) cs ≡ map clause_of cs
clauses_are [] = refl
clauses_are (c ∷ cs) = ap (λ x. x ∷ map (fold-Clause tree.Stmt Branch Clause tree.Stmt tree.Stmt tree.Stmt tree.Stmt Tried tree.Stmt stmt_step branch_step clause_step define_step finally_step for_step if_step try_step while_step) cs) (fold_out-Clause tree.Stmt Branch Clause tree.Stmt tree.Stmt tree.Stmt tree.Stmt Tried tree.Stmt stmt_step branch_step clause_step define_step finally_step for_step if_step try_step while_step c) ∙ ap (λ r. clause_of c ∷ r) (clauses_are cs)

tried_is : (t : Try) → fold-Try tree.Stmt Branch Clause tree.Stmt tree.Stmt tree.Stmt tree.Stmt Tried tree.Stmt stmt_step branch_step clause_step define_step finally_step for_step if_step try_step while_step t ≡ tried_of t
tried_is t = fold_out-Try tree.Stmt Branch Clause tree.Stmt tree.Stmt tree.Stmt tree.Stmt Tried tree.Stmt stmt_step branch_step clause_step define_step finally_step for_step if_step try_step while_step t ∙ ap (λ cs. ((tried_of t).0, cs, (tried_of t).2)) (clauses_are (out-Try t).clauses.items)

pub if_is : (i : Box If Global) → stmt_of (stmts.If i) ≡ if_of i.value
if_is i =
    ap stmt_of (sym (rolls-If i)) ∙ fold-roll-Stmt tree.Stmt Branch Clause tree.Stmt tree.Stmt tree.Stmt tree.Stmt Tried tree.Stmt stmt_step branch_step clause_step define_step finally_step for_step if_step try_step while_step (Stmt-F.If i) ∙ fold_out-If tree.Stmt Branch Clause tree.Stmt tree.Stmt tree.Stmt tree.Stmt Tried tree.Stmt stmt_step branch_step clause_step define_step finally_step for_step if_step try_step while_step i.value
    ∙ ap (λ b. tree.If b.0 b.1 (elifs_of (map (fold-Branch tree.Stmt Branch Clause tree.Stmt tree.Stmt tree.Stmt tree.Stmt Tried tree.Stmt stmt_step branch_step clause_step define_step finally_step for_step if_step try_step while_step) (out-If i.value).elifs.items) (body_of (out-If i.value).last.items))) (fold_out-Branch tree.Stmt Branch Clause tree.Stmt tree.Stmt tree.Stmt tree.Stmt Tried tree.Stmt stmt_step branch_step clause_step define_step finally_step for_step if_step try_step while_step (out-If i.value).first)
    ∙ ap (λ l. tree.If (branch_of (out-If i.value).first).0 (branch_of (out-If i.value).first).1 (elifs_of l (body_of (out-If i.value).last.items))) (branches_are (out-If i.value).elifs.items)

pub while_is : (w : Box While Global) → stmt_of (stmts.While w) ≡ while_of w.value
while_is w = ap stmt_of (sym (rolls-While w)) ∙ fold-roll-Stmt tree.Stmt Branch Clause tree.Stmt tree.Stmt tree.Stmt tree.Stmt Tried tree.Stmt stmt_step branch_step clause_step define_step finally_step for_step if_step try_step while_step (Stmt-F.While w) ∙ fold_out-While tree.Stmt Branch Clause tree.Stmt tree.Stmt tree.Stmt tree.Stmt Tried tree.Stmt stmt_step branch_step clause_step define_step finally_step for_step if_step try_step while_step w.value

pub for_is : (f : Box For Global) → stmt_of (stmts.For f) ≡ for_of f.value
for_is f = ap stmt_of (sym (rolls-For f)) ∙ fold-roll-Stmt tree.Stmt Branch Clause tree.Stmt tree.Stmt tree.Stmt tree.Stmt Tried tree.Stmt stmt_step branch_step clause_step define_step finally_step for_step if_step try_step while_step (Stmt-F.For f) ∙ fold_out-For tree.Stmt Branch Clause tree.Stmt tree.Stmt tree.Stmt tree.Stmt Tried tree.Stmt stmt_step branch_step clause_step define_step finally_step for_step if_step try_step while_step f.value

pub define_is : (d : Define) → stmt_of (stmts.Define d) ≡ define_of d
define_is d = ap stmt_of (sym (rolls-Define d)) ∙ fold-roll-Stmt tree.Stmt Branch Clause tree.Stmt tree.Stmt tree.Stmt tree.Stmt Tried tree.Stmt stmt_step branch_step clause_step define_step finally_step for_step if_step try_step while_step (Stmt-F.Define d) ∙ fold_out-Define tree.Stmt Branch Clause tree.Stmt tree.Stmt tree.Stmt tree.Stmt Tried tree.Stmt stmt_step branch_step clause_step define_step finally_step for_step if_step try_step while_step d

pub try_is : (t : Try) → stmt_of (stmts.Try t) ≡ try_of t
try_is t = ap stmt_of (sym (rolls-Try t)) ∙ fold-roll-Stmt tree.Stmt Branch Clause tree.Stmt tree.Stmt tree.Stmt tree.Stmt Tried tree.Stmt stmt_step branch_step clause_step define_step finally_step for_step if_step try_step while_step (Stmt-F.Try t) ∙ ap (λ x. tree.Try x.0 (clauses_of x.1) x.2) (tried_is t)

pub finally_is : (f : Box Finally Global) → stmt_of (stmts.Finally f) ≡ finally_of f.value
finally_is f =
    ap stmt_of (sym (rolls-Finally f)) ∙ fold-roll-Stmt tree.Stmt Branch Clause tree.Stmt tree.Stmt tree.Stmt tree.Stmt Tried tree.Stmt stmt_step branch_step clause_step define_step finally_step for_step if_step try_step while_step (Stmt-F.Finally f) ∙ fold_out-Finally tree.Stmt Branch Clause tree.Stmt tree.Stmt tree.Stmt tree.Stmt Tried tree.Stmt stmt_step branch_step clause_step define_step finally_step for_step if_step try_step while_step f.value
    ∙ ap (λ x. tree.Finally x.0 (clauses_of x.1) x.2 (body_of (out-Finally f.value).end.items)) (tried_is (out-Finally f.value).tried)
