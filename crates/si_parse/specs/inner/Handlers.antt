-- `try` statements: their except clauses, and the suites of `else` and `finally`.
use Rattle.std.specs.Prelude.{List, [], ◌∷◌, ◌++◌, length, Option, Some, None, Bool, if◌then◌else◌}
use Rattle.si_semantics.specs.Value.{Text}
use Rattle.si_semantics.specs.Tree.{Expr, Stmt, Stmts}
use Rattle.si_semantics.specs.Tree as tree
use Rattle.si_semantics.specs.Tokens as token
use Rattle.si_semantics.specs.Grammar.{Terminal, Sign, Word, max_depth, stmts_of, Clause, clauses_of, expression_level}
use Rattle.si_parse.specs.inner.Lookahead.{Step, after}
use Rattle.si_parse.specs.inner.Lists.{then_read, many_by, is_none}
use Rattle.si_parse.specs.inner.Names.{name_at}
use Rattle.si_parse.specs.inner.Expressions.{expression_at}
use Rattle.si_parse.specs.inner.Statements.{LineParser}
use Rattle.si_parse.specs.inner.Blocks.{suite_by, otherwise_by}

-- the terminals after an `except`, where no colon follows it
abbrev pub after_catch : Step
after_catch ts = then_read (after (Word token.ExceptWord) ts) (λ rest. if is_none (after (Sign token.Colon) rest) then Some rest else None)

abbrev pub no_catch : List Terminal → Bool
no_catch ts = is_none (after_catch ts)

-- what an except clause catches, and the name that it binds
abbrev pub Catch : Type 0
Catch = Expr × Option Text

-- the same, once it is known whether an `as` follows
abbrev pub caught_from : Expr → List Terminal → Option (List Terminal) → Option (Catch × List Terminal)
caught_from e ts None = Some ((e, None), ts)
caught_from e ts (Some rest) = then_read (name_at rest) (λ n. Some ((e, Some n.0), n.1))

-- from after the `except`
abbrev pub caught_by : List Terminal → Option (Catch × List Terminal)
caught_by ts = then_read (expression_at max_depth expression_level ts) (λ t. caught_from t.0 t.2 (after (Word token.AsWord) t.2))

-- the same, with its suite
abbrev pub clause_by : LineParser → List Terminal → Option (Clause × List Terminal)
clause_by line ts = then_read (caught_by ts) (λ c. then_read (suite_by line c.1) (λ b. Some ((Some c.0.0, c.0.1, stmts_of b.0), b.1)))

abbrev pub with_clause : List Clause → Clause × List Terminal → Option (List Clause × List Terminal)
with_clause cs r = Some (cs ++ r.0 ∷ [], r.1)

-- one more except clause that has an expression
abbrev pub catch_by : LineParser → List Clause → List Terminal → Option (List Clause × List Terminal)
catch_by line cs ts = then_read (after_catch ts) (λ rest. then_read (clause_by line rest) (with_clause cs))

abbrev pub catches_by : LineParser → List Terminal → Option (List Clause × List Terminal)
catches_by line ts = many_by (catch_by line) no_catch (length ts) [] ts

-- the clauses with a bare one after them, once it is known whether an `except` follows
abbrev pub bare_from : LineParser → List Clause → List Terminal → Option (List Terminal) → Option (List Clause × List Terminal)
bare_from line cs ts None = Some (cs, ts)
bare_from line cs ts (Some rest) = then_read (suite_by line rest) (λ b. Some (cs ++ (None, None, stmts_of b.0) ∷ [], b.1))

abbrev pub bare_by : LineParser → List Clause → List Terminal → Option (List Clause × List Terminal)
bare_by line cs ts = bare_from line cs ts (after (Word token.ExceptWord) ts)

-- all except clauses, the bare one last
abbrev pub clauses_by : LineParser → List Terminal → Option (List Clause × List Terminal)
clauses_by line ts = then_read (catches_by line ts) (λ cs. bare_by line cs.0 cs.1)

-- the clauses and the else suite, which stands after a clause alone
abbrev pub Handled : Type 0
Handled = List Clause × List Stmt

abbrev pub handled_from : LineParser → List Clause → List Terminal → Option (Handled × List Terminal)
handled_from line [] ts = Some (([], []), ts)
handled_from line (c ∷ cs) ts = then_read (otherwise_by line ts) (λ o. Some ((c ∷ cs, o.0), o.1))

abbrev pub handlers_by : LineParser → List Terminal → Option (Handled × List Terminal)
handlers_by line ts = then_read (clauses_by line ts) (λ cs. handled_from line cs.0 cs.1)

-- a `try` without `finally`, which has a clause at least
abbrev pub tried : Stmts → List Clause → List Stmt → List Terminal → Option (Stmt × List Terminal)
tried body [] last ts = None
tried body (c ∷ cs) last ts = Some (tree.Try body (clauses_of (c ∷ cs)) (stmts_of last), ts)

-- a `try` whose clauses were read, once it is known whether a `finally` follows
abbrev pub finally_from : LineParser → Stmts → Handled × List Terminal → Option (List Terminal) → Option (Stmt × List Terminal)
finally_from line body h None = tried body h.0.0 h.0.1 h.1
finally_from line body h (Some rest) = then_read (suite_by line rest) (λ b. Some (tree.Finally body (clauses_of h.0.0) (stmts_of h.0.1) (stmts_of b.0), b.1))

-- from after the `try`
abbrev pub try_by : LineParser → List Terminal → Option (Stmt × List Terminal)
try_by line ts = then_read (suite_by line ts) (λ b. then_read (handlers_by line b.1) (λ h. finally_from line (stmts_of b.0) h (after (Word token.FinallyWord) h.1)))
