-- Values in the midst of being compared.
use Rattle.std.specs.Prelude.{ℕ, zero, suc}
use Rattle.si_semantics.specs.World.{World}
use Rattle.si_semantics.specs.Operations.{Compared, not_compared, compared_by, equal_within}
use Rattle.si_arena.specs.declared.view.View.{View}
use Rattle.si_arena.specs.declared.view.View.TheVariants as view

-- how the parts of two values are compared, where tuples, lists and dicts are within each other at most so deep
abbrev pub compared_at : ℕ → World → Compared
compared_at zero w = not_compared
compared_at (suc n) w = compared_by (λ a b. equal_within n a b w)

-- two views that are neither of two tuples nor of two objects
abbrev pub AreBare : View → View → Type 0
AreBare (view.Tuple xs) (view.Tuple ys) = ⊥
AreBare (view.Object x) (view.Object y) = ⊥
AreBare _ _ = Unit {0}

-- a view of no object
abbrev pub IsNoObject : View → Type 0
IsNoObject (view.Object x) = ⊥
IsNoObject _ = Unit {0}
