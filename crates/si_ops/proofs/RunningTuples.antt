-- Operators between tuples, and between tuples and integers, that go as their definitions.
use Rattle.std.proofs.Common.{◌≡◌, ℤ, List, ◌++◌, Bool, true, false, Result, refl, sym, ap, subst, ◌∙◌}
use Rattle.si_semantics.specs.Value as pure
use Rattle.si_semantics.specs.Value.{items_of, values_of, tuple_of}
use Rattle.si_semantics.specs.Tree as tree
use Rattle.si_semantics.specs.World.{World}
use Rattle.si_semantics.specs.Tuples.{is_too_large, repeated_items}
use Rattle.si_semantics.specs.Operations.{operate, tuple_within, int_of_truth}
use Rattle.si_plain.specs.declared.operators.BinaryOperator.{BinaryOperator}
use Rattle.si_plain.specs.declared.operators.BinaryOperator.TheVariants as binary
use Rattle.si_arena.specs.declared.value.Ref.{Ref}
use Rattle.si_arena.specs.declared.cause.Fault.{Fault}
use Rattle.si_arena.specs.declared.cause.Fault.TheVariants.{Raises, NoMemory}
use Rattle.std.specs.Prelude.{Ok, Err}
use Rattle.si_arena.specs.Memory.{Memory, PlacesTuple}
use Rattle.si_ops.specs.Operands.{made_of, IsTold}
use Rattle.si_ops.proofs.Running.{Goes, goes_at, goes_as, needs_left, needs_right}
use Rattle.si_ops.proofs.Tupled.{items_back, tuple_runs}

turned : (o : tree.BinaryOperator) (i : ℤ) (s : pure.Values) (w : World) → operate o (pure.Int i) (pure.Tuple s) w ≡ operate o (pure.Tuple s) (pure.Int i) w
turned tree.Multiply i s w = refl
turned _ i s w = refl

made_turned : (o : tree.BinaryOperator) (i : ℤ) (s : pure.Values) → made_of o (pure.Int i) (pure.Tuple s) ≡ made_of o (pure.Tuple s) (pure.Int i)
made_turned tree.Multiply i s = refl
made_turned _ i s = refl

-- a truth counts as an integer beside a tuple
counted : (o : tree.BinaryOperator) (b : Bool) (s : pure.Values) (w : World) → operate o (pure.Tuple s) (pure.Truth b) w ≡ operate o (pure.Tuple s) (pure.Int (int_of_truth b)) w
counted tree.Multiply b s w = refl
counted _ b s w = refl

made_counted : (o : tree.BinaryOperator) (b : Bool) (s : pure.Values) → made_of o (pure.Tuple s) (pure.Truth b) ≡ made_of o (pure.Tuple s) (pure.Int (int_of_truth b))
made_counted tree.Multiply b s = refl
made_counted _ b s = refl

truth_turned : (o : tree.BinaryOperator) (b : Bool) (s : pure.Values) (w : World) → operate o (pure.Truth b) (pure.Tuple s) w ≡ operate o (pure.Tuple s) (pure.Int (int_of_truth b)) w
truth_turned tree.Multiply b s w = refl
truth_turned _ b s w = refl

made_truth_turned : (o : tree.BinaryOperator) (b : Bool) (s : pure.Values) → made_of o (pure.Truth b) (pure.Tuple s) ≡ made_of o (pure.Tuple s) (pure.Int (int_of_truth b))
made_truth_turned tree.Multiply b s = refl
made_truth_turned _ b s = refl

-- a tuple and an integer, or a truth that counts as one
module _ (o : tree.BinaryOperator) (left right : Ref) (old new : Memory) (r : Result Ref Fault) (u v : pure.Value) (vs : List pure.Value) (i : ℤ) where
  pub tuple_int_go : Goes o (tuple_of vs) (pure.Int i) left left old new r → u ≡ tuple_of vs → v ≡ pure.Int i → Goes o u v left right old new r
  tuple_int_go h e f =
      let x = tuple_of vs in
      let y = pure.Int i in
      goes_at o left right old new r u v x y e f (goes_as o x y x y left right left old new r (λ w. refl) refl (needs_left left right (made_of o x y)) h)

  pub tuple_truth_go : (b : Bool) → Goes o (tuple_of vs) (pure.Int i) left left old new r → u ≡ tuple_of vs → v ≡ pure.Truth b → i ≡ int_of_truth b → Goes o u v left right old new r
  tuple_truth_go b h e f k =
      let x = tuple_of vs in
      let y = pure.Int (int_of_truth b) in
      let P : ℤ → Type 0 = λ z. Goes o x (pure.Int z) left left old new r in
      goes_at o left right old new r u v x (pure.Truth b) e f
      (goes_as o x (pure.Truth b) x y left right left old new r (counted o b (values_of vs)) (made_counted o b (values_of vs)) (needs_left left right (made_of o x y)) (subst P k h))

  pub int_tuple_go : Goes o (tuple_of vs) (pure.Int i) right right old new r → u ≡ pure.Int i → v ≡ tuple_of vs → Goes o u v left right old new r
  int_tuple_go h e f =
      let x = tuple_of vs in
      let y = pure.Int i in
      goes_at o left right old new r u v y x e f (goes_as o y x x y left right right old new r (turned o i (values_of vs)) (made_turned o i (values_of vs)) (needs_right left right (made_of o x y)) h)

  pub truth_tuple_go : (b : Bool) → Goes o (tuple_of vs) (pure.Int i) right right old new r → u ≡ pure.Truth b → v ≡ tuple_of vs → i ≡ int_of_truth b → Goes o u v left right old new r
  truth_tuple_go b h e f k =
      let x = tuple_of vs in
      let y = pure.Int (int_of_truth b) in
      let P : ℤ → Type 0 = λ z. Goes o x (pure.Int z) right right old new r in
      goes_at o left right old new r u v (pure.Truth b) x e f
      (goes_as o (pure.Truth b) x x y left right right old new r (truth_turned o b (values_of vs)) (made_truth_turned o b (values_of vs)) (needs_right left right (made_of o x y)) (subst P k h))

no_truth : (vs : List pure.Value) → is_too_large (tuple_of vs) ≡ false → is_too_large (tuple_of vs) ≡ true → ⊥
no_truth vs e f = let h : true ≡ false = sym f ∙ e in cc

-- what is too large raises, and nothing is changed
large_kept : (vs : List pure.Value) (old new : Memory) (r : Result Ref Fault) → PlacesTuple vs old new r → is_too_large (tuple_of vs) ≡ true → new ≡ old
large_kept vs old new (Ok r) p h = absurd (no_truth vs p.0 h)
large_kept vs old new (Err (Raises cause)) p h = p.2
large_kept vs old new (Err NoMemory) p h = p

-- tuples are joined
pub join_tuples_go : (o : BinaryOperator) (us vs : List pure.Value) (left right : Ref) (old new : Memory) (r : Result Ref Fault) → o ≡ binary.Add → PlacesTuple (us ++ vs) old new r → (is_too_large (tuple_of (us ++ vs)) ≡ true → IsTold r) → Goes o (tuple_of us) (tuple_of vs) left right old new r
join_tuples_go o us vs left right old new r e p told =
    let P : BinaryOperator → Type 0 = λ x. Goes x (tuple_of us) (tuple_of vs) left right old new r in
    let same = ap (λ xs. xs ++ items_of (values_of vs)) (items_back us) ∙ ap (λ xs. us ++ xs) (items_back vs) in
    subst P (sym e) (record {
      runs = tuple_runs (λ w. operate tree.Add (tuple_of us) (tuple_of vs) w) (us ++ vs) old new r (λ w. ap (λ xs. tuple_within xs w) same) p;
      memory = λ n. let large : is_too_large (tuple_of (us ++ vs)) ≡ true = ap (λ xs. is_too_large (tuple_of xs)) (sym same) ∙ n in (large_kept (us ++ vs) old new r p large, told large);
    })

-- a tuple is repeated
pub repeat_tuple_go : (o : BinaryOperator) (vs : List pure.Value) (i j : ℤ) (tuple : Ref) (old new : Memory) (r : Result Ref Fault) → o ≡ binary.Multiply → i ≡ j → PlacesTuple (repeated_items vs i) old new r → (is_too_large (tuple_of (repeated_items vs i)) ≡ true → IsTold r) → Goes o (tuple_of vs) (pure.Int j) tuple tuple old new r
repeat_tuple_go o vs i j tuple old new r e k p told =
    let P : BinaryOperator → Type 0 = λ x. Goes x (tuple_of vs) (pure.Int j) tuple tuple old new r in
    let Q : ℤ → Type 0 = λ z. Goes tree.Multiply (tuple_of vs) (pure.Int z) tuple tuple old new r in
    let same = ap (λ xs. repeated_items xs i) (items_back vs) in
    subst P (sym e) (subst Q k (record {
      runs = tuple_runs (λ w. operate tree.Multiply (tuple_of vs) (pure.Int i) w) (repeated_items vs i) old new r (λ w. ap (λ xs. tuple_within xs w) same) p;
      memory = λ n. let large : is_too_large (tuple_of (repeated_items vs i)) ≡ true = ap (λ xs. is_too_large (tuple_of xs)) (sym same) ∙ n in (large_kept (repeated_items vs i) old new r p large, told large);
    }))
