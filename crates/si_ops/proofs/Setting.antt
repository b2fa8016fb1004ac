-- What changes lists and dicts, by what the definitions say of a world.
use Rattle.std.proofs.Common.{◌≡◌, ◌≢◌, ℕ, ◌+◌, List, ◌++◌, length, true, false, cond, Option, Some, None, Ok, refl, sym, ap, subst, ◌∙◌}
use Rattle.std.specs.Prelude.{slice_get, slice_set, nat_lt, ℤ, option_map}
use Rattle.si_semantics.specs.Value as pure
use Rattle.si_semantics.specs.Tree as tree
use Rattle.si_semantics.specs.Value.{Value, Key, Object, Items, Pairs, Address, Int}
use Rattle.si_semantics.specs.Text.{max_length}
use Rattle.si_semantics.specs.World.{World, Ran}
use Rattle.si_semantics.specs.Dicts.{key_of, value_at, with_pair, without_key}
use Rattle.si_semantics.specs.Operations.{gave, wrong_type, too_long, items_from, operate}
use Rattle.si_semantics.specs.Subscription.{item_meant, outside}
use Rattle.si_semantics.specs.Containers as containers
use Rattle.si_semantics.specs.Containers.{changed, did, no_key, item_set, set_in_list, set_in_dict, set_in_object, set_item, item_deleted, without_item, delete_in_list, delete_in_dict, delete_in_object, delete_item, pair_deleted, extended, added_to, augment, pop_in_list, item_taken, taken_at, get_in_dict, value_or, pop_in_dict, pair_taken}
use Rattle.si_arena.specs.declared.value.Ref.{Ref}
use Rattle.si_arena.specs.Memory.{Memory, value_of, list_at, value_by, with_object, IsListAt, IsDictAt, IsKey, key_meant}
use Rattle.si_plain.specs.declared.operators.BinaryOperator.{BinaryOperator}
use Rattle.si_plain.specs.declared.operators.BinaryOperator.TheVariants as binary
use Rattle.si_ops.specs.Operands.{IsNoList, IsNoListObject}
use Rattle.si_ops.specs.Changes.{Changes, IsNoDict, IsNoDictObject}
use Rattle.si_ops.specs.inner.Held.{IsPlain, IsPlainObject}
use Rattle.si_ops.proofs.Changing.{changed_gives, extends_changed}

pub changed_changes : (f : World → Ran) (x : ℕ) (o : Object) (old new : Memory) → ((w : World) → w.store ≡ old.store → f w ≡ did x o w) → new ≡ with_object x o old → Changes f old new (Ok tt)
changed_changes f x o old new same e = (changed_gives f x o pure.Nothing old new same e, extends_changed old new x o e)

-- ---- `u[v] = z`

pub set_at : (m : Memory) (u v z : Value) (x : ℕ) (o : Object) (w : World) → u ≡ Address x → slice_get m.store x ≡ Some o → w.store ≡ m.store → set_item u v z w ≡ set_in_object x (Some o) v z w
set_at m u v z x o w h at e = ap (λ t. set_item t v z w) h ∙ ap (λ s. set_in_object x (slice_get s x) v z w) e ∙ ap (λ p. set_in_object x p v z w) at

plain_set : (x : ℕ) (o : Option Object) (v z : Value) (w : World) → IsPlainObject o → set_in_object x o v z w ≡ wrong_type w
plain_set x (Some (Items vs)) v z w h = absurd h
plain_set x (Some (Pairs ps)) v z w h = absurd h
plain_set x _ v z w h = refl

pub set_plain : (m : Memory) (u v z : Value) (w : World) → IsPlain m.store u → w.store ≡ m.store → set_item u v z w ≡ wrong_type w
set_plain m (Address x) v z w h e = ap (λ s. set_in_object x (slice_get s x) v z w) e ∙ plain_set x (slice_get m.store x) v z w h
set_plain m _ v z w h e = refl

module _ (x : ℕ) (vs : List Value) (i : Option ℤ) (n : ℤ) (w : World) (h : i ≡ Some n) where
  pub item_is_set : (z : Value) (at : ℕ) → item_meant (length vs) n ≡ Some at → set_in_list x vs i z w ≡ did x (Items (slice_set vs at z)) w
  item_is_set z at k = ap (λ j. set_in_list x vs j z w) h ∙ ap (λ p. item_set x vs p z w) k

  pub no_item_is_set : (z : Value) → item_meant (length vs) n ≡ None → set_in_list x vs i z w ≡ outside w
  no_item_is_set z k = ap (λ j. set_in_list x vs j z w) h ∙ ap (λ p. item_set x vs p z w) k

  pub item_is_deleted : (at : ℕ) → item_meant (length vs) n ≡ Some at → delete_in_list x vs i w ≡ did x (Items (without_item at vs)) w
  item_is_deleted at k = ap (λ j. delete_in_list x vs j w) h ∙ ap (λ p. item_deleted x vs p w) k

  pub no_item_is_deleted : item_meant (length vs) n ≡ None → delete_in_list x vs i w ≡ outside w
  no_item_is_deleted k = ap (λ j. delete_in_list x vs j w) h ∙ ap (λ p. item_deleted x vs p w) k

  pub item_is_taken : (at : ℕ) (v : Value) → item_meant (length vs) n ≡ Some at → slice_get vs at ≡ Some v → pop_in_list x vs i w ≡ gave v (changed x (Items (without_item at vs)) w)
  item_is_taken at v k g = ap (λ j. pop_in_list x vs j w) h ∙ ap (λ p. item_taken x vs p w) k ∙ ap (λ o. taken_at x vs at o w) g

  pub no_item_is_taken : item_meant (length vs) n ≡ None → pop_in_list x vs i w ≡ outside w
  no_item_is_taken k = ap (λ j. pop_in_list x vs j w) h ∙ ap (λ p. item_taken x vs p w) k

-- ---- `del u[v]`

pub delete_at : (m : Memory) (u v : Value) (x : ℕ) (o : Object) (w : World) → u ≡ Address x → slice_get m.store x ≡ Some o → w.store ≡ m.store → delete_item u v w ≡ delete_in_object x (Some o) v w
delete_at m u v x o w h at e = ap (λ t. delete_item t v w) h ∙ ap (λ s. delete_in_object x (slice_get s x) v w) e ∙ ap (λ p. delete_in_object x p v w) at

plain_delete : (x : ℕ) (o : Option Object) (v : Value) (w : World) → IsPlainObject o → delete_in_object x o v w ≡ wrong_type w
plain_delete x (Some (Items vs)) v w h = absurd h
plain_delete x (Some (Pairs ps)) v w h = absurd h
plain_delete x _ v w h = refl

pub delete_plain : (m : Memory) (u v : Value) (w : World) → IsPlain m.store u → w.store ≡ m.store → delete_item u v w ≡ wrong_type w
delete_plain m (Address x) v w h e = ap (λ s. delete_in_object x (slice_get s x) v w) e ∙ plain_delete x (slice_get m.store x) v w h
delete_plain m _ v w h e = refl

-- ---- keys

-- the value of a key that was looked for
pub found_value : (m : Memory) (v : Value) (ps : List (Key × Value)) (o : Option Ref) → IsKey v → option_map (value_of m) o ≡ value_by (key_of v) ps → value_at (key_meant v) ps ≡ option_map (value_of m) o
found_value m v ps o h e = sym (e ∙ ap (λ k. value_by k ps) h)

module _ (x : ℕ) (ps : List (Key × Value)) (v : Value) (w : World) (h : IsKey v) where
  pub pair_is_set : (z : Value) → set_in_dict x ps (key_of v) z w ≡ did x (Pairs (with_pair (key_meant v) z ps)) w
  pair_is_set z = ap (λ k. set_in_dict x ps k z w) h

  pub pair_is_deleted : (u : Value) → value_at (key_meant v) ps ≡ Some u → delete_in_dict x ps v (key_of v) w ≡ did x (Pairs (without_key (key_meant v) ps)) w
  pair_is_deleted u g = ap (λ k. delete_in_dict x ps v k w) h ∙ ap (λ o. pair_deleted x ps v (key_meant v) o w) g

  pub no_pair_is_deleted : value_at (key_meant v) ps ≡ None → delete_in_dict x ps v (key_of v) w ≡ no_key v w
  no_pair_is_deleted g = ap (λ k. delete_in_dict x ps v k w) h ∙ ap (λ o. pair_deleted x ps v (key_meant v) o w) g

  pub pair_is_taken : (u : Value) → value_at (key_meant v) ps ≡ Some u → pop_in_dict x ps v (key_of v) w ≡ gave u (changed x (Pairs (without_key (key_meant v) ps)) w)
  pair_is_taken u g = ap (λ k. pop_in_dict x ps v k w) h ∙ ap (λ o. pair_taken x ps v (key_meant v) o w) g

  pub no_pair_is_taken : value_at (key_meant v) ps ≡ None → pop_in_dict x ps v (key_of v) w ≡ no_key v w
  no_pair_is_taken g = ap (λ k. pop_in_dict x ps v k w) h ∙ ap (λ o. pair_taken x ps v (key_meant v) o w) g

  pub value_is_got : (z u : Value) → value_at (key_meant v) ps ≡ Some u → get_in_dict ps (key_of v) z w ≡ gave u w
  value_is_got z u g = ap (λ k. get_in_dict ps k z w) h ∙ ap (λ o. value_or o z w) g

  pub other_is_got : (z : Value) → value_at (key_meant v) ps ≡ None → get_in_dict ps (key_of v) z w ≡ gave z w
  other_is_got z g = ap (λ k. get_in_dict ps k z w) h ∙ ap (λ o. value_or o z w) g

-- ---- `list += x`

pub added_at : (m : Memory) (v : Value) (x : ℕ) (w : World) → IsListAt m x → w.store ≡ m.store → added_to x (slice_get w.store x) v w ≡ extended x (list_at m x) (items_from v w) w
added_at m v x w h e = ap (λ s. added_to x (slice_get s x) v w) e ∙ ap (λ o. added_to x o v w) h

pub extended_fits : (x : ℕ) (vs us : List Value) (w : World) → nat_lt max_length (length vs + length us) ≡ false → extended x vs (Some us) w ≡ gave (Address x) (changed x (Items (vs ++ us)) w)
extended_fits x vs us w h = ap (λ b. cond b (too_long w) (gave (Address x) (changed x (Items (vs ++ us)) w))) h

pub extended_over : (x : ℕ) (vs us : List Value) (w : World) → nat_lt max_length (length vs + length us) ≡ true → extended x vs (Some us) w ≡ too_long w
extended_over x vs us w h = ap (λ b. cond b (too_long w) (gave (Address x) (changed x (Items (vs ++ us)) w))) h

-- ---- `u += v` of what is no list

pub augmented_int : (o : BinaryOperator) (n : ℤ) (v : Value) (w : World) → augment o (Int n) v w ≡ operate o (Int n) v w
augmented_int binary.Add n v w = refl
augmented_int _ n v w = refl

pub augmented_apart : (o : BinaryOperator) (u v : Value) (w : World) → o ≢ binary.Add → augment o u v w ≡ operate o u v w
augmented_apart binary.Add u v w h = absurd (h refl)
augmented_apart _ u v w h = refl

added_no_list : (x : ℕ) (o : Option Object) (v : Value) (w : World) → IsNoListObject o → added_to x o v w ≡ operate tree.Add (Address x) v w
added_no_list x (Some (Items vs)) v w h = absurd h
added_no_list x _ v w h = refl

pub augmented_no_list : (m : Memory) (u v : Value) (w : World) → IsNoList m.store u → w.store ≡ m.store → augment tree.Add u v w ≡ operate tree.Add u v w
augmented_no_list m (Address x) v w h e = ap (λ s. added_to x (slice_get s x) v w) e ∙ added_no_list x (slice_get m.store x) v w h
augmented_no_list m _ v w h e = refl

-- a value that is the address of a dict is one
pub no_dict_here : (m : Memory) (v : Value) (x : ℕ) → v ≡ Address x → IsDictAt m x → IsNoDict m.store v → ⊥
no_dict_here m v x is dict h = subst IsNoDictObject dict (subst (IsNoDict m.store) is h)
