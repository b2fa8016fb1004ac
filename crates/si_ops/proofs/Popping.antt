-- What methods do with lists and dicts, by what the definitions say of a world.
use Rattle.std.proofs.Common.{◌≡◌, ℕ, ◌+◌, List, [], ◌∷◌, ◌++◌, length, Bool, true, false, cond, not, Option, Some, refl, sym, ap, subst, ◌∙◌, arith}
use Rattle.std.specs.Prelude.{slice_get, nat_lt, ℤ}
use Rattle.std.proofs.lemmas.Bool.Decides.{nat_tests}
use Rattle.si_semantics.specs.Value.{Value, Object, Items, Pairs, Address}
use Rattle.si_semantics.specs.Text.{max_length}
use Rattle.si_semantics.specs.World.{World}
use Rattle.si_semantics.specs.Operations.{wrong_type, too_long}
use Rattle.si_semantics.specs.Containers.{did, append, pop_item, get_value, pop_value}
use Rattle.si_arena.specs.Memory.{Memory}
use Rattle.si_ops.specs.inner.Held.{IsPlain, IsPlainObject}

-- the object that is held at an address, by the address that it was found at
pub here : (m : Memory) (x y : ℕ) (o : Object) → Address x ≡ Address y → slice_get m.store y ≡ Some o → slice_get m.store x ≡ Some o
here m x y o e h = let same : x ≡ y = cc in subst (λ z. slice_get m.store z ≡ Some o) (sym same) h

module _ (m : Memory) (x : ℕ) (w : World) (e : w.store ≡ m.store) where
  pub append_at : (o : Object) (v : Value) → slice_get m.store x ≡ Some o → append x (slice_get w.store x) v w ≡ append x (Some o) v w
  append_at o v h = ap (λ s. append x (slice_get s x) v w) e ∙ ap (λ p. append x p v w) h

  pub append_plain : (v : Value) → IsPlain m.store (Address x) → append x (slice_get w.store x) v w ≡ wrong_type w
  append_plain v h = ap (λ s. append x (slice_get s x) v w) e ∙ by (slice_get m.store x) h
    where
      by : (o : Option Object) → IsPlainObject o → append x o v w ≡ wrong_type w
      by (Some (Items vs)) h = absurd h
      by (Some (Pairs ps)) h = absurd h
      by _ h = refl

  pub pop_item_at : (o : Object) (i : Option ℤ) → slice_get m.store x ≡ Some o → pop_item x (slice_get w.store x) i w ≡ pop_item x (Some o) i w
  pop_item_at o i h = ap (λ s. pop_item x (slice_get s x) i w) e ∙ ap (λ p. pop_item x p i w) h

  pub pop_item_plain : (i : Option ℤ) → IsPlain m.store (Address x) → pop_item x (slice_get w.store x) i w ≡ wrong_type w
  pop_item_plain i h = ap (λ s. pop_item x (slice_get s x) i w) e ∙ by (slice_get m.store x) h
    where
      by : (o : Option Object) → IsPlainObject o → pop_item x o i w ≡ wrong_type w
      by (Some (Items vs)) h = absurd h
      by (Some (Pairs ps)) h = absurd h
      by _ h = refl

  pub get_value_at : (o : Object) (k z : Value) → slice_get m.store x ≡ Some o → get_value (slice_get w.store x) k z w ≡ get_value (Some o) k z w
  get_value_at o k z h = ap (λ s. get_value (slice_get s x) k z w) e ∙ ap (λ p. get_value p k z w) h

  pub get_value_plain : (k z : Value) → IsPlain m.store (Address x) → get_value (slice_get w.store x) k z w ≡ wrong_type w
  get_value_plain k z h = ap (λ s. get_value (slice_get s x) k z w) e ∙ by (slice_get m.store x) h
    where
      by : (o : Option Object) → IsPlainObject o → get_value o k z w ≡ wrong_type w
      by (Some (Items vs)) h = absurd h
      by (Some (Pairs ps)) h = absurd h
      by _ h = refl

  pub pop_value_at : (o : Object) (k : Value) → slice_get m.store x ≡ Some o → pop_value x (slice_get w.store x) k w ≡ pop_value x (Some o) k w
  pop_value_at o k h = ap (λ s. pop_value x (slice_get s x) k w) e ∙ ap (λ p. pop_value x p k w) h

  pub pop_value_plain : (k : Value) → IsPlain m.store (Address x) → pop_value x (slice_get w.store x) k w ≡ wrong_type w
  pop_value_plain k h = ap (λ s. pop_value x (slice_get s x) k w) e ∙ by (slice_get m.store x) h
    where
      by : (o : Option Object) → IsPlainObject o → pop_value x o k w ≡ wrong_type w
      by (Some (Items vs)) h = absurd h
      by (Some (Pairs ps)) h = absurd h
      by _ h = refl

-- so many items and one more are too many, or not
one_more : (n : ℕ) → nat_lt max_length (n + 1) ≡ not (nat_lt n max_length)
one_more n = grind (arith, nat_tests)

pub append_fits : (x : ℕ) (vs : List Value) (v : Value) (w : World) → nat_lt max_length (length vs + 1) ≡ false → append x (Some (Items vs)) v w ≡ did x (Items (vs ++ v ∷ [])) w
append_fits x vs v w h = by (nat_lt (length vs) max_length) (sym (one_more (length vs)) ∙ h)
  where
    by : (b : Bool) → not b ≡ false → cond b (did x (Items (vs ++ v ∷ [])) w) (too_long w) ≡ did x (Items (vs ++ v ∷ [])) w
    by true q = refl
    by false q = cc

pub append_over : (x : ℕ) (vs : List Value) (v : Value) (w : World) → nat_lt max_length (length vs + 1) ≡ true → append x (Some (Items vs)) v w ≡ too_long w
append_over x vs v w h = by (nat_lt (length vs) max_length) (sym (one_more (length vs)) ∙ h)
  where
    by : (b : Bool) → not b ≡ true → cond b (did x (Items (vs ++ v ∷ [])) w) (too_long w) ≡ too_long w
    by true q = cc
    by false q = refl
