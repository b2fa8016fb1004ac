-- The trees of statements and of targets that are built of their parts.
use Rattle.std.proofs.Common.{◌≡◌, map, Box, Vec, Global, sym, ap, ◌∙◌}
use Rattle.si_semantics.specs.Tree as tree
use Rattle.si_semantics.specs.Grammar.{clauses_of}
use Rattle.si_semantics.specs.Grammar as grammar
use Rattle.si_syntax.specs.declared.stmt.Assign.{Assign}
use Rattle.si_syntax.specs.declared.stmt.Branch.{Branch}
use Rattle.si_syntax.specs.declared.stmt.Clause.{Clause}
use Rattle.si_syntax.specs.declared.stmt.Define.{Define}
use Rattle.si_syntax.specs.declared.stmt.Finally.{Finally}
use Rattle.si_syntax.specs.declared.stmt.For.{For}
use Rattle.si_syntax.specs.declared.stmt.If.{If}
use Rattle.si_syntax.specs.declared.stmt.Stmt.{Stmt}
use Rattle.si_syntax.specs.declared.stmt.Stmt.TheFolds.{fold-roll-Stmt}
use Rattle.si_syntax.specs.declared.stmt.Stmt.TheOpen.{Finally-F, Stmt-F, Try-F}
use Rattle.si_syntax.specs.declared.stmt.Stmt.TheVariants as stmts
use Rattle.si_syntax.specs.declared.stmt.Stmt.TheVariants.{rolls-Assign}
use Rattle.si_syntax.specs.declared.stmt.Stmt.TheViews.{out-roll-Finally, out-roll-Try, roll-Finally, roll-Try}
use Rattle.si_syntax.specs.declared.stmt.Try.{Try}
use Rattle.si_syntax.specs.declared.stmt.While.{While}
use Rattle.si_syntax.specs.declared.target.Target.{Target}
use Rattle.si_syntax.specs.declared.target.Target.TheFolds.{fold-roll-Target}
use Rattle.si_syntax.specs.declared.target.Target.TheOpen.{Target-F}
use Rattle.si_syntax.specs.declared.target.Target.TheVariants.{rolls-Unpack}
use Rattle.si_syntax.specs.declared.target.Target.TheViews as targets
use Rattle.si_syntax.specs.Trees.{body_of, clause_of, expr_of, finally_of, stmt_of, target_step, target_of, targets_of, Tried, tried_of, stmt_step, branch_step, clause_step, define_step, finally_step, for_step, if_step, try_step, while_step}
use Rattle.si_syntax.proofs.Forms.{finally_is, try_is}

-- the parts of a `try`, and of one with a finally suite
abbrev pub TryParts : Type 0
TryParts = Try-F Stmt Branch Clause Define Finally For If Try While

abbrev pub FinallyParts : Type 0
FinallyParts = Finally-F Stmt Branch Clause Define Finally For If Try While

abbrev pub try_with : TryParts → tree.Stmt
try_with r = tree.Try (body_of r.body.items) (clauses_of (map clause_of r.clauses.items)) (body_of r.last.items)

pub try_built : (r : TryParts) → stmt_of (stmts.Try (roll-Try r)) ≡ try_with r
try_built r = try_is (roll-Try r) ∙ ap try_with (out-roll-Try r)

abbrev pub finally_with : FinallyParts → tree.Stmt
finally_with r = tree.Finally (tried_of r.tried).0 (clauses_of (tried_of r.tried).1) (tried_of r.tried).2 (body_of r.end.items)

abbrev pub ends_with : Vec Stmt Global → TryParts → tree.Stmt
ends_with end r = tree.Finally (body_of r.body.items) (clauses_of (map clause_of r.clauses.items)) (body_of r.last.items) (body_of end.items)

pub finally_built : (b : Box Finally Global) (r : TryParts) (end : Vec Stmt Global) → b.value ≡ roll-Finally (record { tried = roll-Try r; end = end }) → stmt_of (stmts.Finally b) ≡ ends_with end r
finally_built b r end is =
    finally_is b ∙ ap finally_of is ∙ ap finally_with (out-roll-Finally (record { tried = roll-Try r; end = end })) ∙ ap (ends_with end) (out-roll-Try r)

pub assign_built : (a : Assign) → stmt_of (stmts.Assign a) ≡ tree.Assign (targets_of a.targets.items) (expr_of a.value)
assign_built a =
    ap stmt_of (sym (rolls-Assign a))
    ∙ fold-roll-Stmt tree.Stmt grammar.Branch grammar.Clause tree.Stmt tree.Stmt tree.Stmt tree.Stmt Tried tree.Stmt stmt_step branch_step clause_step define_step finally_step for_step if_step try_step while_step (Stmt-F.Assign a)

-- targets in a row that are unpacked
pub unpack_built : (ts : Vec Target Global) → target_of (targets.Unpack ts) ≡ tree.Unpack (targets_of ts.items)
unpack_built ts = ap target_of (sym (rolls-Unpack ts)) ∙ fold-roll-Target tree.Target target_step (Target-F.Unpack ts)
