-- Calls of the method `append`, by which an item goes to the end of a list.
use Rattle.std.proofs.Common.{◌≡◌, ◌≢◌, List, [], ◌∷◌, map, length, true, false, Option, Some, None, refl}
use Rattle.si_semantics.specs.Value.{Text}
use Rattle.si_semantics.specs.Tree as tree
use Rattle.si_semantics.specs.Tree.{Exprs}
use Rattle.si_semantics.specs.Grammar.{exprs_of}
use Rattle.si_syntax.specs.declared.expr.Expr.{Expr}
use Rattle.si_syntax.specs.Trees.{expr_of}
use Rattle.si_slots.specs.Code.{append_in_place, append_instr, in_place}
use Rattle.si_emit.specs.inner.Stores.{names_append}

-- another attribute is called, or none, or an argument is passed by name
pub other_call : (ls : List Text) (f : tree.Expr) (y : Option Text) (args : Exprs) (names : List Text) → names_append y names ≡ false → append_in_place ls (tree.Call f y args names) ≡ None
other_call ls f None args names h = refl
other_call ls f (Some y) tree.NoExprs names h = refl
other_call ls f (Some y) (tree.MoreExprs b tree.NoExprs) [] h = rw h
other_call ls f (Some y) (tree.MoreExprs b tree.NoExprs) (z ∷ names) h = refl
other_call ls f (Some y) (tree.MoreExprs b (tree.MoreExprs d args)) names h = refl

-- there is not one argument
pub not_one : (ls : List Text) (f : tree.Expr) (y : Option Text) (args : List Expr) (names : List Text) → length args ≢ 1 → append_in_place ls (tree.Call f y (exprs_of (map expr_of args)) names) ≡ None
not_one ls f None args names h = refl
not_one ls f (Some y) [] names h = refl
not_one ls f (Some y) (a ∷ []) names h = absurd (h refl)
not_one ls f (Some y) (a ∷ b ∷ args) names h = refl

-- there is
pub one_is : (ls : List Text) (f : tree.Expr) (y : Option Text) (b : tree.Expr) (names : List Text) → names_append y names ≡ true → append_in_place ls (tree.Call f y (tree.MoreExprs b tree.NoExprs) names) ≡ append_instr true (in_place ls f) (in_place ls b)
one_is ls f None b names h = absurd cc
one_is ls f (Some y) b [] h = rw h
one_is ls f (Some y) b (z ∷ names) h = absurd cc
