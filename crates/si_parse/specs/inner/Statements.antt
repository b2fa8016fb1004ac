-- Small statements and lines, as the parser reads them.
use Rattle.std.specs.Prelude.{codes, List, [], ◌∷◌, ◌++◌, length, Option, Some, None, option_map, Bool, true, false, if◌then◌else◌}
use Rattle.si_plain.specs.declared.modules.ModuleName.{ModuleName}
use Rattle.si_plain.specs.declared.modules.ModuleName.TheVariants.{Threading, Interpreters}
use Rattle.si_semantics.specs.Value.{Text}
use Rattle.si_semantics.specs.Tree.{BinaryOperator, Expr, Stmt, Target}
use Rattle.si_semantics.specs.Tree as tree
use Rattle.si_semantics.specs.Tokens.{Symbol}
use Rattle.si_semantics.specs.Tokens as token
use Rattle.si_semantics.specs.Text.{same_text}
use Rattle.si_semantics.specs.Grammar.{Terminal, Sign, Word, NEWLINE, max_depth, target_of, expression_level, factor_level}
use Rattle.si_syntax.specs.Trees.{target_row}
use Rattle.si_parse.specs.inner.Lookahead.{Step, after, rest_of}
use Rattle.si_parse.specs.inner.Lists.{then_read, separated_by, Found, Parsed, many_by, is_none}
use Rattle.si_parse.specs.inner.Names.{name_at, names_by}
use Rattle.si_parse.specs.inner.Expressions.{Parser, expression_at}
use Rattle.si_parse.specs.inner.Unbracketed.{expressions_by}

-- the assignment that a sign is: a plain one, or an augmented one with its operator
abbrev pub assignment_symbol : Symbol → Option (Option BinaryOperator)
assignment_symbol token.Equal = Some None
assignment_symbol token.BarEqual = Some (Some tree.BitOr)
assignment_symbol token.CaretEqual = Some (Some tree.BitXor)
assignment_symbol token.AmpersandEqual = Some (Some tree.BitAnd)
assignment_symbol token.LeftShiftEqual = Some (Some tree.ShiftLeft)
assignment_symbol token.RightShiftEqual = Some (Some tree.ShiftRight)
assignment_symbol token.PlusEqual = Some (Some tree.Add)
assignment_symbol token.MinusEqual = Some (Some tree.Subtract)
assignment_symbol token.StarEqual = Some (Some tree.Multiply)
assignment_symbol token.DoubleSlashEqual = Some (Some tree.FloorDivide)
assignment_symbol token.PercentEqual = Some (Some tree.Modulo)
assignment_symbol token.DoubleStarEqual = Some (Some tree.Power)
assignment_symbol _ = None

abbrev pub assignment_at : List Terminal → Option (Option BinaryOperator × List Terminal)
assignment_at [] = None
assignment_at (Sign s ∷ ts) = option_map (λ op. (op, ts)) (assignment_symbol s)
assignment_at (_ ∷ ts) = None

-- the targets that were read, and what stands after the last `=`
abbrev pub Chained : Type 0
Chained = List Target × Expr

-- the same with one more target, from after its `=`
abbrev pub chained_from : Parser → Chained → List Terminal → Target → Option (Chained × List Terminal)
chained_from sub b ts t = then_read (expressions_by sub expression_level ts) (λ r. Some ((b.0 ++ t ∷ [], r.0), r.2))

-- what stood after the last `=` is one more target, where another `=` follows
abbrev pub chained_by : Parser → Chained → List Terminal → Option (Chained × List Terminal)
chained_by sub b ts = then_read (after (Sign token.Equal) ts) (λ rest. then_read (target_of b.1) (chained_from sub b rest))

-- whether no further target is read
abbrev pub no_equal : List Terminal → Bool
no_equal ts = is_none (after (Sign token.Equal) ts)

abbrev pub assigned : Chained × List Terminal → Option (Stmt × List Terminal)
assigned r = Some (tree.Assign (target_row r.0.0) r.0.1, r.1)

-- an assignment to an expression, from its `=` on
abbrev pub assigned_by : Parser → Expr → List Terminal → Option (Stmt × List Terminal)
assigned_by sub e ts = then_read (many_by (chained_by sub) no_equal (length ts) ([], e) ts) assigned

-- an augmented assignment to an expression, where that is a name or a subscription
abbrev pub augment : Expr → BinaryOperator → Expr → Option Stmt
augment (tree.Name x) op e = Some (tree.Augment x op e)
augment (tree.Subscript a b) op e = Some (tree.AugmentItem a b op e)
augment _ op e = None

abbrev pub augmented : Expr → BinaryOperator → Found → Option (Stmt × List Terminal)
augmented e op r = option_map (λ s. (s, r.2)) (augment e op r.0)

-- from after its sign
abbrev pub augmented_by : Parser → Expr → BinaryOperator → List Terminal → Option (Stmt × List Terminal)
augmented_by sub e op ts = then_read (expressions_by sub expression_level ts) (augmented e op)

-- what an expression begins: an assignment to it, or itself
abbrev pub statement_from : Parser → List Terminal → Expr → Option (Option BinaryOperator × List Terminal) → Option (Stmt × List Terminal)
statement_from sub ts e None = Some (tree.Evaluate e, ts)
statement_from sub ts e (Some (None, rest)) = assigned_by sub e ts
statement_from sub ts e (Some (Some op, rest)) = augmented_by sub e op rest

abbrev pub spelled_by : Parser → List Terminal → Option (Stmt × List Terminal)
spelled_by sub ts = then_read (expressions_by sub expression_level ts) (λ r. statement_from sub r.2 r.0 (assignment_at r.2))

-- the statement that is one word
abbrev pub word_statement : List Terminal → Option Stmt
word_statement [] = None
word_statement (Word token.PassWord ∷ ts) = Some tree.Pass
word_statement (Word token.BreakWord ∷ ts) = Some tree.Break
word_statement (Word token.ContinueWord ∷ ts) = Some tree.Continue
word_statement (_ ∷ ts) = None

-- whether a small statement ends in front of the terminals
abbrev pub ends_small : List Terminal → Bool
ends_small [] = false
ends_small (NEWLINE ∷ ts) = true
ends_small (Sign token.Semicolon ∷ ts) = true
ends_small (_ ∷ ts) = false

-- what is read in front of the end of a small statement, where there is something
abbrev pub value_by : (List Terminal → Parsed) → List Terminal → Option (Option Expr × List Terminal)
value_by read ts = if ends_small ts then Some (None, ts) else then_read (read ts) (λ r. Some (Some r.0, r.2))

-- from after the `return`
abbrev pub returned_by : Parser → List Terminal → Option (Stmt × List Terminal)
returned_by sub ts = then_read (value_by (expressions_by sub expression_level) ts) (λ r. Some (tree.Return r.0, r.1))

-- from after the `raise`
abbrev pub raised_by : Parser → List Terminal → Option (Stmt × List Terminal)
raised_by sub ts = then_read (value_by (sub expression_level) ts) (λ r. Some (tree.Raise r.0, r.1))

-- the deletion of an expression, where that is a subscription
abbrev pub deleted : Expr → List Terminal → Option (Stmt × List Terminal)
deleted (tree.Subscript a b) ts = Some (tree.Delete a b, ts)
deleted _ ts = None

-- From after the `del`. A subscription is of every level: one is asked at which no operator but `**` is read.
abbrev pub deleted_by : Parser → List Terminal → Option (Stmt × List Terminal)
deleted_by sub ts = then_read (sub factor_level ts) (λ r. deleted r.0 r.2)

-- from after the `global`
abbrev pub global_by : List Terminal → Option (Stmt × List Terminal)
global_by ts = then_read (names_by ts) (λ r. Some (tree.Global r.0, r.1))

-- the terminals after this name, where it stands first
abbrev pub named : Text → Text × List Terminal → Option (List Terminal)
named x n = if same_text n.0 x then Some n.1 else None

abbrev pub after_name : Text → Step
after_name x ts = then_read (name_at ts) (named x)

-- the terminals after an `import` of this name
abbrev pub after_import : Text → Step
after_import x ts = then_read (after (Word token.ImportWord) ts) (after_name x)

-- the terminals after a `from` and this name
abbrev pub after_from : Text → Step
after_from x ts = then_read (after (Word token.FromWord) ts) (after_name x)

-- the terminals after the import of `concurrent.interpreters`
abbrev pub after_interpreters : Step
after_interpreters ts = then_read (after_from (codes "concurrent") ts) (after_import (codes "interpreters"))

-- the module that is imported, once it is known whether the imports of either follow
abbrev pub imported : (threading interpreters : Option (List Terminal)) → Option (ModuleName × List Terminal)
imported (Some rest) y = Some (Threading, rest)
imported None (Some rest) = Some (Interpreters, rest)
imported None None = None

-- the module whose import stands first, and the terminals after it
abbrev pub import_at : List Terminal → Option (ModuleName × List Terminal)
import_at ts = imported (after_import (codes "threading") ts) (after_interpreters ts)

-- a small statement, by the word that stands first
abbrev pub small_from : Parser → List Terminal → Option Stmt → Option (ModuleName × List Terminal) → (return global raise delete : Option (List Terminal)) → Option (Stmt × List Terminal)
small_from sub ts (Some s) i r g x d = Some (s, rest_of ts)
small_from sub ts None (Some i) r g x d = Some (tree.Import i.0, i.1)
small_from sub ts None None (Some rest) g x d = returned_by sub rest
small_from sub ts None None None (Some rest) x d = global_by rest
small_from sub ts None None None None (Some rest) d = raised_by sub rest
small_from sub ts None None None None None (Some rest) = deleted_by sub rest
small_from sub ts None None None None None None = spelled_by sub ts

abbrev pub statement_by : Parser → List Terminal → Option (Stmt × List Terminal)
statement_by sub ts = small_from sub ts (word_statement ts) (import_at ts) (after (Word token.ReturnWord) ts) (after (Word token.GlobalWord) ts) (after (Word token.RaiseWord) ts) (after (Word token.DelWord) ts)

abbrev pub with_statement : List Stmt → Stmt × List Terminal → List Stmt
with_statement body r = body ++ r.0 ∷ []

-- statements after those before, and the terminals after them
abbrev pub LineParser : Type 0
LineParser = List Stmt → List Terminal → Option (List Stmt × List Terminal)

-- a line's statements
abbrev pub line_by : Parser → LineParser
line_by sub body ts = separated_by with_statement (λ r. r.1) (statement_by sub) (after (Sign token.Semicolon)) (after NEWLINE) (length ts) body ts

abbrev pub simple_line : LineParser
simple_line = line_by (expression_at max_depth)
