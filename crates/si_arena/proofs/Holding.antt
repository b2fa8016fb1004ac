-- The items that a value holds.
use Rattle.std.proofs.Common.{◌≡◌, ◌≢◌, ℕ, zero, suc, List, [], ◌∷◌, map, get_or, Option, Some, None, ap, refl, sym, ◌∙◌}
use Rattle.si_semantics.specs.Value as pure
use Rattle.si_semantics.specs.Opened.{opened, opened_at}
use Rattle.si_arena.specs.declared.value.Ref.{Ref}
use Rattle.si_arena.specs.declared.value.Ref.TheVariants as value
use Rattle.si_arena.specs.declared.object.Steps.{Steps}
use Rattle.si_arena.specs.Memory.{Memory, value_of, range_of, items_held}

-- the items of a tuple are those that it was made of
pub items-values : (vs : List pure.Value) → pure.items_of (pure.values_of vs) ≡ vs
items-values [] = refl
items-values (v ∷ vs) = ap (λ ws. v ∷ ws) (items-values vs)

pub tuple_held : (s : List pure.Object) (v : pure.Value) (vs : List pure.Value) → pure.tuple_of vs ≡ v → vs ≡ items_held (opened s v)
tuple_held s v vs e = sym (items-values vs) ∙ ap (λ w. items_held (opened s w)) e

pub list_held : (x : ℕ) (o : Option pure.Object) (vs : List pure.Value) → o ≡ Some (pure.Items vs) → vs ≡ items_held (opened_at x o)
list_held x o vs e = ap (λ q. items_held (opened_at x q)) (sym e)

pub no_list_held : (x : ℕ) (o : Option pure.Object) → ((vs : List pure.Value) → o ≢ Some (pure.Items vs)) → [] ≡ items_held (opened_at x o)
no_list_held x None h = refl
no_list_held x (Some (pure.Items vs)) h = absurd (h vs refl)
no_list_held x (Some (pure.Pairs ps)) h = refl
no_list_held x (Some (pure.Exception k a)) h = refl
no_list_held x (Some (pure.Thread i t)) h = refl
no_list_held x (Some (pure.Started r)) h = refl

range_held : (s : List pure.Object) (ss : List Steps) (p : ℕ) → [] ≡ items_held (opened s (get_or (map range_of ss) p pure.Nothing))
range_held s [] p = refl
range_held s (t ∷ ss) zero = refl
range_held s (t ∷ ss) (suc p) = range_held s ss p

pub none_held : (m : Memory) (ss : List Steps) (r : Ref) → m.ranges ≡ map range_of ss → ((p : ℕ) → r ≢ value.Tuple p) → ((x : ℕ) → r ≢ value.Object x) → [] ≡ items_held (opened m.store (value_of m r))
none_held m ss value.Unbound e h k = refl
none_held m ss value.None e h k = refl
none_held m ss (value.Truth at b) e h k = refl
none_held m ss (value.Int n) e h k = refl
none_held m ss (value.Short s) e h k = refl
none_held m ss (value.Narrow n i) e h k = refl
none_held m ss (value.Wide n i) e h k = refl
none_held m ss (value.ShortBytes s) e h k = refl
none_held m ss (value.Bytes n i) e h k = refl
none_held m ss (value.BuiltIn at b) e h k = refl
none_held m ss (value.Function n x) e h k = refl
none_held m ss (value.Range p) e h k = range_held m.store ss p ∙ ap (λ xs. items_held (opened m.store (get_or xs p pure.Nothing))) (sym e)
none_held m ss (value.Tuple p) e h k = absurd (h p refl)
none_held m ss (value.Kind at c) e h k = refl
none_held m ss (value.Module at mo) e h k = refl
none_held m ss (value.Queue qu qm) e h k = refl
none_held m ss (value.Interpreter it) e h k = refl
none_held m ss (value.Exec it) e h k = refl
none_held m ss (value.Object x) e h k = absurd (k x refl)
