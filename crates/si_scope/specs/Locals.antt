-- The names that are local to the functions of a script.
use Rattle.std.specs.Prelude.{◌≡◌, ℕ, List, map, true}
use Rattle.si_semantics.specs.Tree.{Stmts, functions_in}
use Rattle.si_semantics.specs.Scope.{is_scoped, locals_of}

-- a script is well scoped, and these are the names that are local to each of its functions
pub record IsResolved (body : Stmts) (names : List (List (List ℕ))) : Type 0 where
  pub scoped : is_scoped body ≡ true
  pub locals : names ≡ map locals_of (functions_in body)
