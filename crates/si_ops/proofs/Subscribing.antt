-- Subscriptions of objects.
use Rattle.std.proofs.Common.{◌≡◌, ℕ, ℤ, List, Option, Some, None, Result, Ok, Err, refl, sym, ap, ◌∙◌}
use Rattle.std.specs.Prelude.{slice_get, option_map}
use Rattle.si_semantics.specs.Value as pure
use Rattle.si_semantics.specs.World.{World, Ran}
use Rattle.si_semantics.specs.Dicts.{key_of}
use Rattle.si_semantics.specs.Operations.{integer_in, wrong_type}
use Rattle.si_semantics.specs.Subscription.{subscript, object_item, item_at, value_in_dict, value_found}
use Rattle.si_arena.specs.declared.value.Ref.{Ref}
use Rattle.si_arena.specs.declared.cause.Cause.{Cause}
use Rattle.si_arena.specs.Memory.{Memory, value_of, value_by, IsKey}
use Rattle.si_ops.specs.declared.lack.Lack.{Lack}
use Rattle.si_ops.specs.declared.lack.Lack.TheVariants as lack
use Rattle.si_ops.specs.Runs.{Tells, Finds}
use Rattle.si_ops.specs.inner.Held.{IsPlain, IsPlainObject, lack_of}

pub finds_of : (f : World → Ran) (v : pure.Value) (m : Memory) (r : Result Ref Cause) → Tells f m r → Finds f v m (lack_of r)
finds_of f v m (Ok r) h = h
finds_of f v m (Err cause) h = h

pub finds_as : (f g : World → Ran) (v : pure.Value) (m : Memory) (r : Result Ref Lack) → ((w : World) → w.store ≡ m.store → f w ≡ g w) → Finds g v m r → Finds f v m r
finds_as f g v m (Ok r) same h = ((λ w e. same w e ∙ h.0 w e), h.1)
finds_as f g v m (Err (lack.Raises cause)) same h = ((λ w e. same w e ∙ h.0 w e), h.1)
finds_as f g v m (Err lack.NoKey) same h = λ w e. same w e ∙ h w e

-- of an object, by what is at its address
pub subscript_at : (m : Memory) (u v : pure.Value) (x : ℕ) (o : pure.Object) (w : World) → u ≡ pure.Address x → slice_get m.store x ≡ Some o → w.store ≡ m.store → subscript u v w ≡ object_item (Some o) v w
subscript_at m u v x o w h at e = ap (λ z. subscript z v w) h ∙ ap (λ s. object_item (slice_get s x) v w) e ∙ ap (λ p. object_item p v w) at

-- of what is neither a list nor a dict
plain_item : (o : Option pure.Object) (v : pure.Value) (w : World) → IsPlainObject o → object_item o v w ≡ wrong_type w
plain_item (Some (pure.Items vs)) v w h = absurd h
plain_item (Some (pure.Pairs ps)) v w h = absurd h
plain_item _ v w h = refl

no_item : (x : ℕ) (i : Option ℤ) (w : World) → item_at (pure.Address x) i w ≡ wrong_type w
no_item x None w = refl
no_item x (Some i) w = refl

pub subscript_plain : (m : Memory) (u v : pure.Value) (w : World) → IsPlain m.store u → w.store ≡ m.store → subscript u v w ≡ item_at u (integer_in v) w
subscript_plain m (pure.Address x) v w h e = ap (λ s. object_item (slice_get s x) v w) e ∙ plain_item (slice_get m.store x) v w h ∙ sym (no_item x (integer_in v) w)
subscript_plain m _ v w h e = refl

-- the value of a key
pub value_there : (m : Memory) (v : pure.Value) (ps : List (pure.Key × pure.Value)) (o : Option Ref) (w : World) → IsKey v → option_map (value_of m) o ≡ value_by (key_of v) ps → value_in_dict ps v (key_of v) w ≡ value_found v (option_map (value_of m) o) w
value_there m v ps o w h e = ap (λ k. value_in_dict ps v k w) h ∙ ap (λ p. value_found v p w) (sym (e ∙ ap (λ k. value_by k ps) h))
