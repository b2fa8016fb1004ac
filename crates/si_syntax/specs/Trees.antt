-- The trees that values of this crate stand for.
use Rattle.std.specs.Prelude.{List, [], ◌∷◌, map, string_bytes}
use Rattle.std.specs.Option.{option_map}
use Rattle.si_semantics.specs.Value.{Nothing, Truth, Int, Str, Bytes}
use Rattle.si_semantics.specs.Tree as tree
use Rattle.si_semantics.specs.Grammar.{exprs_of, chain_of, stmts_of, Branch, elifs_of, Clause, clauses_of}
use Rattle.si_plain.specs.declared.operators.ComparisonOperator.{ComparisonOperator}
use Rattle.si_syntax.specs.declared.expr.Expr.{Expr, fold-Expr}
use Rattle.si_syntax.specs.declared.expr.Expr.TheOpen.{Expr-F}
use Rattle.si_syntax.specs.declared.target.Item.{Item}
use Rattle.si_syntax.specs.declared.target.Target.{Target, fold-Target}
use Rattle.si_syntax.specs.declared.target.Target.TheOpen.{Target-F}
use Rattle.si_syntax.specs.declared.stmt.Stmt.{Stmt, fold-Stmt}
use Rattle.si_syntax.specs.declared.stmt.Stmt.TheOpen.{Stmt-F, Branch-F, Clause-F, Define-F, Finally-F, For-F, If-F, Try-F, While-F}
use Rattle.si_syntax.specs.declared.stmt.Branch.{Branch as BranchParts}
use Rattle.si_syntax.specs.declared.stmt.Clause.{Clause as ClauseParts}
use Rattle.si_syntax.specs.declared.stmt.Define.{Define}
use Rattle.si_syntax.specs.declared.stmt.Finally.{Finally, out-Finally}
use Rattle.si_syntax.specs.declared.stmt.For.{For}
use Rattle.si_syntax.specs.declared.stmt.If.{If, out-If}
use Rattle.si_syntax.specs.declared.stmt.Try.{Try, out-Try}
use Rattle.si_syntax.specs.declared.stmt.While.{While}

-- one level, with each part already seen as its tree
abbrev pub view_step : Expr-F tree.Expr → tree.Expr
view_step (Expr-F.Name x) = tree.Name (string_bytes x)
view_step (Expr-F.Int n) = tree.Constant (Int n)
view_step (Expr-F.Str t) = tree.Constant (Str t)
view_step (Expr-F.Bytes bs) = tree.Constant (Bytes bs)
view_step Expr-F.Nothing = tree.Constant Nothing
view_step (Expr-F.Truth b) = tree.Constant (Truth b)
view_step (Expr-F.Unary op a) = tree.Unary op a.value
view_step (Expr-F.Binary op a b) = tree.Binary op a.value b.value
view_step (Expr-F.Attribute a x) = tree.Attribute a.value (string_bytes x)
view_step (Expr-F.Call a names args) = tree.Call a.value (option_map string_bytes names.value.attribute) (exprs_of args.items) (map string_bytes names.value.arguments.items)
view_step (Expr-F.Subscript a b) = tree.Subscript a.value b.value
view_step (Expr-F.Tuple items) = tree.Tuple (exprs_of items.items)
view_step (Expr-F.ListDisplay items) = tree.ListDisplay (exprs_of items.items)
view_step (Expr-F.DictDisplay items) = tree.DictDisplay (exprs_of items.items)
view_step (Expr-F.Boolean op a others) = tree.Boolean op a.value (exprs_of others.items)
view_step (Expr-F.Compare a links) = tree.Compare a.value (chain_of links.items)
view_step (Expr-F.Conditional test value other) = tree.Conditional test.value value.value other.value

abbrev pub expr_of : Expr → tree.Expr
expr_of = fold-Expr tree.Expr view_step

-- an operator of a comparison with the operand after it
abbrev pub link_of : ComparisonOperator × Expr → ComparisonOperator × tree.Expr
link_of l = (l.0, expr_of l.1)

-- targets in a row
abbrev pub target_row : List tree.Target → tree.Targets
target_row [] = tree.NoTargets
target_row (t ∷ ts) = tree.MoreTargets t (target_row ts)

-- the object and the index of an item
abbrev pub object_of : Item → tree.Expr
object_of i = expr_of i.object.value

abbrev pub index_of : Item → tree.Expr
index_of i = expr_of i.index.value

-- one level of a target, with each part already seen as its tree
abbrev pub target_step : Target-F tree.Target → tree.Target
target_step (Target-F.Named x) = tree.Named (string_bytes x)
target_step (Target-F.Item i) = tree.Item (object_of i) (index_of i)
target_step (Target-F.Unpack ts) = tree.Unpack (target_row ts.items)

abbrev pub target_of : Target → tree.Target
target_of = fold-Target tree.Target target_step

abbrev pub targets_of : List Target → tree.Targets
targets_of ts = target_row (map target_of ts)

-- what a try without its finally suite is: its suite, its except clauses and its else suite
abbrev pub Tried : Type 0
Tried = tree.Stmts × List Clause × tree.Stmts

-- one level of a form, with each part already seen as what it stands for
abbrev pub At : ((S B C D F O I T W : Type 0) → Type 0) → Type 0
At F = F tree.Stmt Branch Clause tree.Stmt tree.Stmt tree.Stmt tree.Stmt Tried tree.Stmt

abbrev pub branch_step : At Branch-F → Branch
branch_step b = (expr_of b.test, stmts_of b.body.items)

abbrev pub clause_step : At Clause-F → Clause
clause_step c = (option_map expr_of c.value, option_map string_bytes c.name, stmts_of c.body.items)

abbrev pub define_step : At Define-F → tree.Stmt
define_step d = tree.Define (string_bytes d.name) (map string_bytes d.parameters.items) (stmts_of d.body.items)

abbrev pub finally_step : At Finally-F → tree.Stmt
finally_step f = tree.Finally f.tried.0 (clauses_of f.tried.1) f.tried.2 (stmts_of f.end.items)

abbrev pub for_step : At For-F → tree.Stmt
for_step f = tree.For (target_of f.target) (expr_of f.items) (stmts_of f.body.items) (stmts_of f.last.items)

abbrev pub if_step : At If-F → tree.Stmt
if_step i = tree.If i.first.0 i.first.1 (elifs_of i.elifs.items (stmts_of i.last.items))

abbrev pub try_step : At Try-F → Tried
try_step t = (stmts_of t.body.items, t.clauses.items, stmts_of t.last.items)

abbrev pub while_step : At While-F → tree.Stmt
while_step w = tree.While (expr_of w.test) (stmts_of w.body.items) (stmts_of w.last.items)

abbrev pub stmt_step : At Stmt-F → tree.Stmt
stmt_step (Stmt-F.Evaluate e) = tree.Evaluate (expr_of e)
stmt_step (Stmt-F.Assign a) = tree.Assign (targets_of a.targets.items) (expr_of a.value)
stmt_step (Stmt-F.Augment a) = tree.Augment (string_bytes a.name) a.operator (expr_of a.value)
stmt_step (Stmt-F.AugmentItem a) = tree.AugmentItem (object_of a.item) (index_of a.item) a.operator (expr_of a.value)
stmt_step (Stmt-F.Delete i) = tree.Delete (object_of i) (index_of i)
stmt_step Stmt-F.Pass = tree.Pass
stmt_step (Stmt-F.If i) = i.value
stmt_step (Stmt-F.While w) = w.value
stmt_step (Stmt-F.For f) = f.value
stmt_step (Stmt-F.Break line) = tree.Break
stmt_step (Stmt-F.Continue line) = tree.Continue
stmt_step (Stmt-F.Define d) = d
stmt_step (Stmt-F.Return line value) = tree.Return (option_map expr_of value)
stmt_step (Stmt-F.Global line names) = tree.Global (map string_bytes names.items)
stmt_step (Stmt-F.Import line m) = tree.Import m
stmt_step (Stmt-F.Raise value) = tree.Raise (option_map expr_of value)
stmt_step (Stmt-F.Try t) = tree.Try t.0 (clauses_of t.1) t.2
stmt_step (Stmt-F.Finally f) = f.value

abbrev pub stmt_of : Stmt → tree.Stmt
stmt_of = fold-Stmt tree.Stmt Branch Clause tree.Stmt tree.Stmt tree.Stmt tree.Stmt Tried tree.Stmt stmt_step branch_step clause_step define_step finally_step for_step if_step try_step while_step

abbrev pub body_of : List Stmt → tree.Stmts
body_of body = stmts_of (map stmt_of body)

-- ---- the forms with parts of their own, by their parts

-- a test and its suite
abbrev pub branch_of : BranchParts → Branch
branch_of b = (expr_of b.test, body_of b.body.items)

-- what stands after the first test and suite of an `if`
abbrev pub others_of : If → tree.Stmts
others_of i = elifs_of (map branch_of (out-If i).elifs.items) (body_of (out-If i).last.items)

abbrev pub if_of : If → tree.Stmt
if_of i = tree.If (branch_of (out-If i).first).0 (branch_of (out-If i).first).1 (others_of i)

abbrev pub while_of : While → tree.Stmt
while_of w = tree.While (expr_of w.test) (body_of w.body.items) (body_of w.last.items)

abbrev pub for_of : For → tree.Stmt
for_of f = tree.For (target_of f.target) (expr_of f.items) (body_of f.body.items) (body_of f.last.items)

abbrev pub define_of : Define → tree.Stmt
define_of d = tree.Define (string_bytes d.name) (map string_bytes d.parameters.items) (body_of d.body.items)

-- an except clause
abbrev pub clause_of : ClauseParts → Clause
clause_of c = (option_map expr_of c.value, option_map string_bytes c.name, body_of c.body.items)

abbrev pub tried_of : Try → Tried
tried_of t = (body_of (out-Try t).body.items, map clause_of (out-Try t).clauses.items, body_of (out-Try t).last.items)

abbrev pub try_of : Try → tree.Stmt
try_of t = tree.Try (tried_of t).0 (clauses_of (tried_of t).1) (tried_of t).2

abbrev pub finally_of : Finally → tree.Stmt
finally_of f =
    let t = tried_of (out-Finally f).tried in
    tree.Finally t.0 (clauses_of t.1) t.2 (body_of (out-Finally f).end.items)
