-- Operators between lists, and between lists and integers, that go as their definitions.
use Rattle.std.proofs.Common.{◌≡◌, ◌≢◌, ℕ, ℤ, List, ◌++◌, Bool, Option, Some, None, Err, refl, sym, ap, subst, ◌∙◌}
use Rattle.std.specs.Prelude.{slice_get}
use Rattle.si_semantics.specs.Value as pure
use Rattle.si_semantics.specs.Tree as tree
use Rattle.si_semantics.specs.World.{World}
use Rattle.si_semantics.specs.Operations.{operate, wrong_type, integer_in, int_of_truth, joined_objects, repeated_object, list_within, list_repeated}
use Rattle.si_plain.specs.declared.operators.BinaryOperator.{BinaryOperator}
use Rattle.si_plain.specs.declared.operators.BinaryOperator.TheVariants as binary
use Rattle.si_arena.specs.declared.cause.Cause.TheVariants.{WrongType}
use Rattle.si_arena.specs.declared.cause.Fault.TheVariants.{Raises}
use Rattle.si_arena.specs.Memory.{Memory, list_at, IsListAt}
use Rattle.si_ops.specs.Runs.{Runs}
use Rattle.si_ops.specs.Operands.{IsOther, IsNoList, IsNoListObject, AreNoLists}
use Rattle.si_ops.specs.inner.Held.{IsPlain, IsPlainObject}

-- ---- what is no list

pub plain_no_list : (store : List pure.Object) (v : pure.Value) → IsPlain store v → IsNoList store v
plain_no_list store (pure.Address x) h = by (slice_get store x) h
  where
    by : (o : Option pure.Object) → IsPlainObject o → IsNoListObject o
    by (Some (pure.Items vs)) h = absurd h
    by (Some (pure.Pairs ps)) h = tt
    by _ h = tt
plain_no_list store _ h = tt

pub dict_no_list : (store : List pure.Object) (v : pure.Value) (x : ℕ) (ps : List (pure.Key × pure.Value)) → v ≡ pure.Address x → slice_get store x ≡ Some (pure.Pairs ps) → IsNoList store v
dict_no_list store v x ps e h = subst (IsNoList store) (sym e) (subst IsNoListObject (sym h) tt)

joined_wrong : (o p : Option pure.Object) (w : World) → IsNoListObject o → joined_objects o p w ≡ wrong_type w
joined_wrong (Some (pure.Items vs)) p w h = absurd h
joined_wrong _ p w h = refl

wrong_joined : (o p : Option pure.Object) (w : World) → IsNoListObject p → joined_objects o p w ≡ wrong_type w
wrong_joined (Some (pure.Items us)) (Some (pure.Items vs)) w h = absurd h
wrong_joined (Some (pure.Items us)) _ w h = refl
wrong_joined _ p w h = refl

repeated_wrong : (o : Option pure.Object) (i : ℤ) (w : World) → IsNoListObject o → repeated_object o i w ≡ wrong_type w
repeated_wrong (Some (pure.Items vs)) i w h = absurd h
repeated_wrong _ i w h = refl

first_by : (o : tree.BinaryOperator) (u v : pure.Value) (store : List pure.Object) (w : World) → IsOther u → IsNoList store u → w.store ≡ store → operate o u v w ≡ wrong_type w
first_by o (pure.Int i) v store w h n e = absurd h
first_by o (pure.Truth b) v store w h n e = absurd h
first_by o (pure.Str t) v store w h n e = absurd h
first_by o (pure.Bytes bs) v store w h n e = absurd h
first_by o (pure.Tuple vs) v store w h n e = absurd h
first_by tree.Add (pure.Address x) (pure.Address y) store w h n e = ap (λ s. joined_objects (slice_get s x) (slice_get s y) w) e ∙ joined_wrong (slice_get store x) (slice_get store y) w n
first_by tree.Multiply (pure.Address x) (pure.Int j) store w h n e = ap (λ s. repeated_object (slice_get s x) j w) e ∙ repeated_wrong (slice_get store x) j w n
first_by tree.Multiply (pure.Address x) (pure.Truth b) store w h n e = ap (λ s. repeated_object (slice_get s x) (int_of_truth b) w) e ∙ repeated_wrong (slice_get store x) (int_of_truth b) w n
first_by _ _ _ store w h n e = refl

pub first_wrong : (o : tree.BinaryOperator) (u v : pure.Value) (m : Memory) → IsOther u → AreNoLists m.store u v → Runs (λ w. operate o u v w) m m (Err (Raises WrongType))
first_wrong o u v m h n = (((λ w e. first_by o u v m.store w h n.0 e), tt), refl)

second_int : (o : tree.BinaryOperator) (i : ℤ) (v : pure.Value) (store : List pure.Object) (w : World) → IsOther v → IsNoList store v → w.store ≡ store → operate o (pure.Int i) v w ≡ wrong_type w
second_int o i (pure.Int j) store w h n e = absurd h
second_int o i (pure.Truth b) store w h n e = absurd h
second_int o i (pure.Str t) store w h n e = absurd h
second_int o i (pure.Bytes bs) store w h n e = absurd h
second_int o i (pure.Tuple vs) store w h n e = absurd h
second_int tree.Multiply i (pure.Address y) store w h n e = ap (λ s. repeated_object (slice_get s y) i w) e ∙ repeated_wrong (slice_get store y) i w n
second_int _ i _ store w h n e = refl

second_truth : (o : tree.BinaryOperator) (a : Bool) (v : pure.Value) (store : List pure.Object) (w : World) → IsOther v → IsNoList store v → w.store ≡ store → operate o (pure.Truth a) v w ≡ wrong_type w
second_truth o a (pure.Int j) store w h n e = absurd h
second_truth o a (pure.Truth b) store w h n e = absurd h
second_truth o a (pure.Str t) store w h n e = absurd h
second_truth o a (pure.Bytes bs) store w h n e = absurd h
second_truth o a (pure.Tuple vs) store w h n e = absurd h
second_truth tree.Multiply a (pure.Address y) store w h n e = ap (λ s. repeated_object (slice_get s y) (int_of_truth a) w) e ∙ repeated_wrong (slice_get store y) (int_of_truth a) w n
second_truth _ a _ store w h n e = refl

second_text : (o : tree.BinaryOperator) (s : pure.Text) (v : pure.Value) (w : World) → IsOther v → operate o (pure.Str s) v w ≡ wrong_type w
second_text tree.Add s (pure.Str t) w h = absurd h
second_text tree.Multiply s (pure.Int j) w h = absurd h
second_text tree.Multiply s (pure.Truth b) w h = absurd h
second_text _ s _ w h = refl

second_bytes : (o : tree.BinaryOperator) (s : List ℕ) (v : pure.Value) (w : World) → IsOther v → operate o (pure.Bytes s) v w ≡ wrong_type w
second_bytes tree.Add s (pure.Bytes t) w h = absurd h
second_bytes tree.Multiply s (pure.Int j) w h = absurd h
second_bytes tree.Multiply s (pure.Truth b) w h = absurd h
second_bytes _ s _ w h = refl

second_tuple : (o : tree.BinaryOperator) (us : pure.Values) (v : pure.Value) (w : World) → IsOther v → operate o (pure.Tuple us) v w ≡ wrong_type w
second_tuple tree.Add us (pure.Tuple vs) w h = absurd h
second_tuple tree.Multiply us (pure.Int j) w h = absurd h
second_tuple tree.Multiply us (pure.Truth b) w h = absurd h
second_tuple _ us _ w h = refl

second_address : (o : tree.BinaryOperator) (x : ℕ) (v : pure.Value) (store : List pure.Object) (w : World) → IsOther v → IsNoList store v → w.store ≡ store → operate o (pure.Address x) v w ≡ wrong_type w
second_address tree.Add x (pure.Address y) store w h n e = ap (λ s. joined_objects (slice_get s x) (slice_get s y) w) e ∙ wrong_joined (slice_get store x) (slice_get store y) w n
second_address tree.Multiply x (pure.Int j) store w h n e = absurd h
second_address tree.Multiply x (pure.Truth b) store w h n e = absurd h
second_address _ x _ store w h n e = refl

second_by : (o : tree.BinaryOperator) (u v : pure.Value) (store : List pure.Object) (w : World) → IsOther v → IsNoList store v → w.store ≡ store → operate o u v w ≡ wrong_type w
second_by o (pure.Int i) v store w h n e = second_int o i v store w h n e
second_by o (pure.Truth a) v store w h n e = second_truth o a v store w h n e
second_by o (pure.Str s) v store w h n e = second_text o s v w h
second_by o (pure.Bytes s) v store w h n e = second_bytes o s v w h
second_by o (pure.Tuple us) v store w h n e = second_tuple o us v w h
second_by o (pure.Address x) v store w h n e = second_address o x v store w h n e
second_by o _ v store w h n e = refl

pub second_wrong : (o : tree.BinaryOperator) (u v : pure.Value) (m : Memory) → IsOther v → AreNoLists m.store u v → Runs (λ w. operate o u v w) m m (Err (Raises WrongType))
second_wrong o u v m h n = (((λ w e. second_by o u v m.store w h n.1 e), tt), refl)

-- ---- lists

-- two lists are joined by `+` alone
pub lists_joined : (m : Memory) (x y : ℕ) (w : World) → IsListAt m x → IsListAt m y → w.store ≡ m.store → operate tree.Add (pure.Address x) (pure.Address y) w ≡ list_within (list_at m x ++ list_at m y) w
lists_joined m x y w h k e =
    ap (λ s. joined_objects (slice_get s x) (slice_get s y) w) e ∙ ap (λ o. joined_objects o (slice_get m.store y) w) h ∙ ap (λ o. joined_objects (Some (pure.Items (list_at m x))) o w) k

pub lists_wrong : (o : BinaryOperator) (x y : ℕ) (w : World) → o ≢ binary.Add → operate o (pure.Address x) (pure.Address y) w ≡ wrong_type w
lists_wrong binary.Add x y w h = absurd (h refl)
lists_wrong _ x y w h = refl

-- a list and an integer
pub list_times : (m : Memory) (x : ℕ) (v : pure.Value) (i : ℤ) (w : World) → IsListAt m x → integer_in v ≡ Some i → w.store ≡ m.store → operate tree.Multiply (pure.Address x) v w ≡ list_repeated (list_at m x) i w
list_times m x v i w h k e = by v k ∙ ap (λ s. repeated_object (slice_get s x) i w) e ∙ ap (λ o. repeated_object o i w) h
  where
    by : (v : pure.Value) → integer_in v ≡ Some i → operate tree.Multiply (pure.Address x) v w ≡ repeated_object (slice_get w.store x) i w
    by (pure.Int j) k = let same : j ≡ i = cc in ap (λ z. repeated_object (slice_get w.store x) z w) same
    by (pure.Truth b) k = let same : int_of_truth b ≡ i = cc in ap (λ z. repeated_object (slice_get w.store x) z w) same
    by _ k = cc

pub list_no_times : (x : ℕ) (v : pure.Value) (w : World) → integer_in v ≡ None → operate tree.Multiply (pure.Address x) v w ≡ wrong_type w
list_no_times x (pure.Int j) w k = cc
list_no_times x (pure.Truth b) w k = cc
list_no_times x _ w k = refl

-- any other operator takes no list and what is none
pub list_wrong : (o : BinaryOperator) (m : Memory) (x : ℕ) (v : pure.Value) (w : World) → o ≢ binary.Multiply → IsNoList m.store v → w.store ≡ m.store → operate o (pure.Address x) v w ≡ wrong_type w
list_wrong binary.Multiply m x v w h n e = absurd (h refl)
list_wrong binary.Add m x (pure.Address y) w h n e = ap (λ s. joined_objects (slice_get s x) (slice_get s y) w) e ∙ wrong_joined (slice_get m.store x) (slice_get m.store y) w n
list_wrong _ m x v w h n e = refl

-- a list and what is none may change places
pub list_turned : (o : tree.BinaryOperator) (m : Memory) (x : ℕ) (v : pure.Value) (w : World) → IsNoList m.store v → w.store ≡ m.store → operate o v (pure.Address x) w ≡ operate o (pure.Address x) v w
list_turned tree.Add m x (pure.Address y) w n e =
    (ap (λ s. joined_objects (slice_get s y) (slice_get s x) w) e ∙ joined_wrong (slice_get m.store y) (slice_get m.store x) w n)
    ∙ sym (ap (λ s. joined_objects (slice_get s x) (slice_get s y) w) e ∙ wrong_joined (slice_get m.store x) (slice_get m.store y) w n)
list_turned tree.Multiply m x (pure.Int j) w n e = refl
list_turned tree.Multiply m x (pure.Truth b) w n e = refl
list_turned _ m x (pure.Int j) w n e = refl
list_turned _ m x (pure.Truth b) w n e = refl
list_turned _ m x (pure.Str s) w n e = refl
list_turned _ m x (pure.Bytes s) w n e = refl
list_turned _ m x (pure.Tuple vs) w n e = refl
list_turned _ m x (pure.Address y) w n e = refl
list_turned _ m x _ w n e = refl

pub no_list_here : (m : Memory) (v : pure.Value) (x : ℕ) → v ≡ pure.Address x → IsListAt m x → IsNoList m.store v → ⊥
no_list_here m v x e h n = subst IsNoListObject h (subst (IsNoList m.store) e n)
