-- Compound statements and their suites, as the parser reads them.
use Rattle.std.specs.Prelude.{List, [], ◌∷◌, ◌++◌, length, Option, Some, None, Bool, not, if◌then◌else◌}
use Rattle.si_semantics.specs.Value.{Text}
use Rattle.si_semantics.specs.Tree.{Stmt, Target}
use Rattle.si_semantics.specs.Tree as tree
use Rattle.si_semantics.specs.Tokens as token
use Rattle.si_semantics.specs.Grammar.{Terminal, Sign, Word, NEWLINE, INDENT, DEDENT, max_depth, Branch, stmts_of, elifs_of, expression_level}
use Rattle.si_parse.specs.inner.Lookahead.{after, rest_of}
use Rattle.si_parse.specs.inner.Lists.{then_read, many_by, is_none}
use Rattle.si_parse.specs.inner.Names.{name_at, parameters_by}
use Rattle.si_parse.specs.inner.Expressions.{expression_at}
use Rattle.si_parse.specs.inner.Unbracketed.{expressions_by}
use Rattle.si_parse.specs.inner.Targets.{target_by}
use Rattle.si_parse.specs.inner.Statements.{LineParser, simple_line}

abbrev pub is_dedent : List Terminal → Bool
is_dedent ts = not (is_none (after DEDENT ts))

abbrev pub indented_by : LineParser → List Terminal → Option (List Stmt × List Terminal)
indented_by line ts = if is_dedent ts then None else then_read (many_by line is_dedent (length ts) [] ts) (λ r. Some (r.0, rest_of r.1))

abbrev pub suite_from : LineParser → List Terminal → Option (List Terminal) → Option (List Stmt × List Terminal)
suite_from line ts None = simple_line [] ts
suite_from line ts (Some rest) = then_read (after INDENT rest) (indented_by line)

abbrev pub suite_by : LineParser → List Terminal → Option (List Stmt × List Terminal)
suite_by line ts = then_read (after (Sign token.Colon) ts) (λ rest. suite_from line rest (after NEWLINE rest))

-- a test and the suite after it
abbrev pub branch_by : LineParser → List Terminal → Option (Branch × List Terminal)
branch_by line ts = then_read (expression_at max_depth expression_level ts) (λ t. then_read (suite_by line t.2) (λ b. Some ((t.0, stmts_of b.0), b.1)))

-- what a `for` goes over, and the suite after it
abbrev pub over_by : LineParser → List Terminal → Option (Branch × List Terminal)
over_by line ts = then_read (expressions_by (expression_at max_depth) expression_level ts) (λ t. then_read (suite_by line t.2) (λ b. Some ((t.0, stmts_of b.0), b.1)))

abbrev pub with_branch : List Branch → Branch × List Terminal → Option (List Branch × List Terminal)
with_branch bs r = Some (bs ++ r.0 ∷ [], r.1)

abbrev pub elif_by : LineParser → List Branch → List Terminal → Option (List Branch × List Terminal)
elif_by line bs ts = then_read (after (Word token.ElifWord) ts) (λ rest. then_read (branch_by line rest) (with_branch bs))

abbrev pub no_elif : List Terminal → Bool
no_elif ts = is_none (after (Word token.ElifWord) ts)

abbrev pub elifs_by : LineParser → List Terminal → Option (List Branch × List Terminal)
elifs_by line ts = many_by (elif_by line) no_elif (length ts) [] ts

abbrev pub otherwise_from : LineParser → List Terminal → Option (List Terminal) → Option (List Stmt × List Terminal)
otherwise_from line ts None = Some ([], ts)
otherwise_from line ts (Some rest) = suite_by line rest

abbrev pub otherwise_by : LineParser → List Terminal → Option (List Stmt × List Terminal)
otherwise_by line ts = otherwise_from line ts (after (Word token.ElseWord) ts)

abbrev pub joined_if : Branch → List Branch → List Stmt × List Terminal → Option (Stmt × List Terminal)
joined_if b elifs o = Some (tree.If b.0 b.1 (elifs_of elifs (stmts_of o.0)), o.1)

-- from after the `if`
abbrev pub if_by : LineParser → List Terminal → Option (Stmt × List Terminal)
if_by line ts = then_read (branch_by line ts) (λ b. then_read (elifs_by line b.1) (λ es. then_read (otherwise_by line es.1) (joined_if b.0 es.0)))

abbrev pub joined_while : Branch → List Stmt × List Terminal → Option (Stmt × List Terminal)
joined_while b o = Some (tree.While b.0 b.1 (stmts_of o.0), o.1)

-- from after the `while`
abbrev pub while_by : LineParser → List Terminal → Option (Stmt × List Terminal)
while_by line ts = then_read (branch_by line ts) (λ b. then_read (otherwise_by line b.1) (joined_while b.0))

abbrev pub joined_for : Target → Branch → List Stmt × List Terminal → Option (Stmt × List Terminal)
joined_for t b o = Some (tree.For t b.0 b.1 (stmts_of o.0), o.1)

-- from after the `for`
abbrev pub for_by : LineParser → List Terminal → Option (Stmt × List Terminal)
for_by line ts = then_read (target_by ts) (λ t. then_read (over_by line t.1) (λ b. then_read (otherwise_by line b.1) (joined_for t.0 b.0)))

-- a function of this name and these parameters, from its suite on
abbrev pub defined_by : LineParser → Text → List Text × List Terminal → Option (Stmt × List Terminal)
defined_by line x ps = then_read (suite_by line ps.1) (λ b. Some (tree.Define x ps.0 (stmts_of b.0), b.1))

-- from after the `def`
abbrev pub define_by : LineParser → List Terminal → Option (Stmt × List Terminal)
define_by line ts = then_read (name_at ts) (λ n. then_read (after (Sign token.LeftParenthesis) n.1) (λ rest. then_read (parameters_by rest) (defined_by line n.0)))
