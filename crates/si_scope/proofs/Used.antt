-- The names that expressions use: those of the parts, one after another.
use Rattle.std.proofs.Common.{◌≡◌, ℕ, ◌+◌, ◌<◌, ◌≤◌, List, ◌++◌, map, length, drop, get_or, Box, Vec, Global, string_bytes, sym, ap, ◌∙◌}
use Rattle.std.specs.Option.{option_map}
use Rattle.std.proofs.lemmas.List.{drop_all}
use Rattle.si_semantics.specs.Tree as tree
use Rattle.si_semantics.specs.Value.{Text}
use Rattle.si_semantics.specs.Grammar.{exprs_of, chain_of}
use Rattle.si_semantics.specs.Scope.{names_of, names_of_all, names_of_chain}
use Rattle.si_plain.specs.declared.operators.BinaryOperator.{BinaryOperator}
use Rattle.si_plain.specs.declared.operators.BooleanOperator.{BooleanOperator}
use Rattle.si_plain.specs.declared.operators.ComparisonOperator.{ComparisonOperator}
use Rattle.si_syntax.specs.declared.expr.CallNames.{CallNames}
use Rattle.si_syntax.specs.declared.expr.Expr.{Expr}
use Rattle.si_syntax.specs.declared.expr.Expr.TheFolds.{fold-roll-Expr}
use Rattle.si_syntax.specs.declared.expr.Expr.TheOpen.{Expr-F}
use Rattle.si_syntax.specs.declared.expr.Expr.TheVariants.{rolls-Binary, rolls-Call, rolls-Subscript, rolls-Boolean, rolls-Conditional}
use Rattle.si_syntax.specs.declared.expr.Expr.TheViews as views
use Rattle.si_syntax.specs.Trees.{expr_of, link_of, view_step}
use Rattle.si_syntax.proofs.Forms.{compare_is}
use Rattle.si_syntax.proofs.Rows.{rest_is}
use Rattle.si_scope.specs.inner.Walk.{with_names}
use Rattle.si_scope.proofs.Sets.{with_names-append}

-- ---- the names of an expression with two parts

names_are : (e view : Expr) (t : tree.Expr) → e ≡ view → expr_of view ≡ t → names_of (expr_of e) ≡ names_of t
names_are e view t is sees = ap (λ x. names_of (expr_of x)) is ∙ ap names_of sees

binary_is : (o : BinaryOperator) (a b : Box Expr Global) → expr_of (views.Binary o a b) ≡ tree.Binary o (expr_of a.value) (expr_of b.value)
binary_is o a b = ap expr_of (sym (rolls-Binary o a b)) ∙ fold-roll-Expr tree.Expr view_step (Expr-F.Binary o a b)

call_is : (f : Box Expr Global) (names : Box CallNames Global) (args : Vec Expr Global) → expr_of (views.Call f names args) ≡ tree.Call (expr_of f.value) (option_map string_bytes names.value.attribute) (exprs_of (map expr_of args.items)) (map string_bytes names.value.arguments.items)
call_is f names args = ap expr_of (sym (rolls-Call f names args)) ∙ fold-roll-Expr tree.Expr view_step (Expr-F.Call f names args)

subscript_is : (a b : Box Expr Global) → expr_of (views.Subscript a b) ≡ tree.Subscript (expr_of a.value) (expr_of b.value)
subscript_is a b = ap expr_of (sym (rolls-Subscript a b)) ∙ fold-roll-Expr tree.Expr view_step (Expr-F.Subscript a b)

boolean_is : (o : BooleanOperator) (a : Box Expr Global) (more : Vec Expr Global) → expr_of (views.Boolean o a more) ≡ tree.Boolean o (expr_of a.value) (exprs_of (map expr_of more.items))
boolean_is o a more = ap expr_of (sym (rolls-Boolean o a more)) ∙ fold-roll-Expr tree.Expr view_step (Expr-F.Boolean o a more)

conditional_is : (a b c : Box Expr Global) → expr_of (views.Conditional a b c) ≡ tree.Conditional (expr_of a.value) (expr_of b.value) (expr_of c.value)
conditional_is a b c = ap expr_of (sym (rolls-Conditional a b c)) ∙ fold-roll-Expr tree.Expr view_step (Expr-F.Conditional a b c)

pub binary_names : (o : BinaryOperator) (a b : Box Expr Global) (e : Expr) → e ≡ views.Binary o a b → names_of (expr_of e) ≡ names_of (expr_of a.value) ++ names_of (expr_of b.value)
binary_names o a b e is = names_are e (views.Binary o a b) _ is (binary_is o a b)

pub call_names : (f : Box Expr Global) (names : Box CallNames Global) (args : Vec Expr Global) (e : Expr) → e ≡ views.Call f names args → names_of (expr_of e) ≡ names_of (expr_of f.value) ++ names_of_all (exprs_of (map expr_of args.items))
call_names f names args e is = names_are e (views.Call f names args) _ is (call_is f names args)

pub subscript_names : (a b : Box Expr Global) (e : Expr) → e ≡ views.Subscript a b → names_of (expr_of e) ≡ names_of (expr_of a.value) ++ names_of (expr_of b.value)
subscript_names a b e is = names_are e (views.Subscript a b) _ is (subscript_is a b)

pub boolean_names : (o : BooleanOperator) (a : Box Expr Global) (more : Vec Expr Global) (e : Expr) → e ≡ views.Boolean o a more → names_of (expr_of e) ≡ names_of (expr_of a.value) ++ names_of_all (exprs_of (map expr_of more.items))
boolean_names o a more e is = names_are e (views.Boolean o a more) _ is (boolean_is o a more)

pub compare_names : (a : Box Expr Global) (ls : Vec (ComparisonOperator × Expr) Global) (e : Expr) → e ≡ views.Compare a ls → names_of (expr_of e) ≡ names_of (expr_of a.value) ++ names_of_chain (chain_of (map link_of ls.items))
compare_names a ls e is = names_are e (views.Compare a ls) _ is (compare_is a ls)

pub conditional_names : (a b c : Box Expr Global) (e : Expr) → e ≡ views.Conditional a b c → names_of (expr_of e) ≡ (names_of (expr_of a.value) ++ names_of (expr_of b.value)) ++ names_of (expr_of c.value)
conditional_names a b c e is = names_are e (views.Conditional a b c) _ is (conditional_is a b c)

-- ---- one part after another

-- the names of one part, and then those of another
pub both_used : (all front back first last before between after : List Text) → all ≡ front ++ back → first ≡ front → last ≡ back → between ≡ with_names before first → after ≡ with_names between last → after ≡ with_names before all
both_used all front back first last before between after is is_front is_back one two =
    two ∙ ap (λ u. with_names u last) one ∙ sym (with_names-append before first last)
    ∙ ap (λ xs. with_names before (xs ++ last)) is_front ∙ ap (λ ys. with_names before (front ++ ys)) is_back ∙ ap (with_names before) (sym is)

-- those of one more expression of several
pub next_used : (es : List Expr) (i : ℕ) (e : Expr) (before now later : List Text) → i < length es → get_or es i e ≡ e
    → with_names before (names_of_all (exprs_of (map expr_of es))) ≡ with_names now (names_of_all (exprs_of (map expr_of (drop i es)))) → later ≡ with_names now (names_of (expr_of e))
    → with_names before (names_of_all (exprs_of (map expr_of es))) ≡ with_names later (names_of_all (exprs_of (map expr_of (drop (i + 1) es))))
next_used es i e before now later lt at so_far more =
    let after = names_of_all (exprs_of (map expr_of (drop (i + 1) es))) in
    so_far ∙ ap (λ l. with_names now (names_of_all (exprs_of (map expr_of l)))) (rest_is es i e lt at)
    ∙ with_names-append now (names_of (expr_of e)) after ∙ ap (λ u. with_names u after) (sym more)

pub last_used : (es : List Expr) (i : ℕ) (before now : List Text) → length es ≤ i
    → with_names before (names_of_all (exprs_of (map expr_of es))) ≡ with_names now (names_of_all (exprs_of (map expr_of (drop i es)))) → now ≡ with_names before (names_of_all (exprs_of (map expr_of es)))
last_used es i before now le so_far = sym (so_far ∙ ap (λ l. with_names now (names_of_all (exprs_of (map expr_of l)))) (drop_all i es le))

-- the same, of the operands of a chain
pub next_link : (ls : List (ComparisonOperator × Expr)) (i : ℕ) (l : ComparisonOperator × Expr) (before now later : List Text) → i < length ls → get_or ls i l ≡ l
    → with_names before (names_of_chain (chain_of (map link_of ls))) ≡ with_names now (names_of_chain (chain_of (map link_of (drop i ls)))) → later ≡ with_names now (names_of (expr_of l.1))
    → with_names before (names_of_chain (chain_of (map link_of ls))) ≡ with_names later (names_of_chain (chain_of (map link_of (drop (i + 1) ls))))
next_link ls i l before now later lt at so_far more =
    let after = names_of_chain (chain_of (map link_of (drop (i + 1) ls))) in
    so_far ∙ ap (λ r. with_names now (names_of_chain (chain_of (map link_of r)))) (rest_is ls i l lt at)
    ∙ with_names-append now (names_of (expr_of l.1)) after ∙ ap (λ u. with_names u after) (sym more)

pub last_link : (ls : List (ComparisonOperator × Expr)) (i : ℕ) (before now : List Text) → length ls ≤ i
    → with_names before (names_of_chain (chain_of (map link_of ls))) ≡ with_names now (names_of_chain (chain_of (map link_of (drop i ls)))) → now ≡ with_names before (names_of_chain (chain_of (map link_of ls)))
last_link ls i before now le so_far = sym (so_far ∙ ap (λ r. with_names now (names_of_chain (chain_of (map link_of r)))) (drop_all i ls le))
