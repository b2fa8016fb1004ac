-- Operators between bytes, and between bytes and integers, that go as their definitions.
use Rattle.std.proofs.Common.{◌≡◌, ◌+◌, arith, length-append, ℕ, ℤ, List, ◌≤◌, ◌++◌, length, Bool, true, false, Option, Some, Result, Ok, Err, IsOk, cond, refl, sym, ap, subst, ◌∙◌, nat_lt, lt-ltb, le-ltb, pos, negsuc}
use Rattle.si_semantics.specs.Value as pure
use Rattle.si_semantics.specs.Tree as tree
use Rattle.si_semantics.specs.World.{World, Ran}
use Rattle.si_semantics.specs.Text.{max_length}
use Rattle.si_semantics.specs.Operations.{gave, refused, bytes_made, bytes_within, too_long, bytes_repeated, times, operate, int_of_truth}
use Rattle.si_plain.specs.declared.operators.BinaryOperator.{BinaryOperator}
use Rattle.si_plain.specs.declared.operators.BinaryOperator.TheVariants as binary
use Rattle.si_arena.specs.declared.value.Ref.{Ref}
use Rattle.si_arena.specs.declared.cause.Fault.{Fault}
use Rattle.si_arena.specs.declared.cause.Fault.TheVariants.{Raises, NoMemory}
use Rattle.si_arena.specs.Memory.{Memory, PlacesBytes}
use Rattle.si_arena.specs.Texts.{repeated_text}
use Rattle.si_arena.proofs.Repeats.{length_times}
use Rattle.si_arena.specs.Causes.{kind_of, message_of, CauseLies}
use Rattle.si_ops.specs.Calls.{IsRefusal}
use Rattle.si_ops.specs.Runs.{Runs}
use Rattle.si_ops.specs.Operands.{made_of}
use Rattle.si_ops.proofs.Running.{throws_long, Goes, goes_at, goes_as, needs_left, needs_right, ok_told}

-- an operation that places bytes
pub bytes_runs : (f : World → Ran) (t : List ℕ) (old new : Memory) (r : Result Ref Fault) → ((w : World) → nat_lt max_length (length t) ≡ false → f w ≡ gave (pure.Bytes t) w) → ((w : World) → nat_lt max_length (length t) ≡ true → f w ≡ too_long w) → PlacesBytes t old new r → Runs f old new r
bytes_runs f t old new (Ok r) fits over h = (
  (λ w e. fits w (le-ltb _ _ h.0) ∙ ap (λ v. gave v w) (sym h.1.denotes)),
  h.1.lies,
  h.1.extends,
  h.1.store,
)
bytes_runs f t old new (Err (Raises cause)) fits over h = (throws_long f old cause h.1 (λ w. over w (lt-ltb _ _ h.0)), h.2)
bytes_runs f t old new (Err NoMemory) fits over h = h

within_fits : (t : List ℕ) (w : World) → nat_lt max_length (length t) ≡ false → bytes_within t w ≡ gave (pure.Bytes t) w
within_fits t w h = ap (λ b. cond b (too_long w) (gave (pure.Bytes t) w)) h

within_over : (t : List ℕ) (w : World) → nat_lt max_length (length t) ≡ true → bytes_within t w ≡ too_long w
within_over t w h = ap (λ b. cond b (too_long w) (gave (pure.Bytes t) w)) h

-- what repeating gives, by whether they are too many
repeated_fits : (s : List ℕ) (j : ℤ) (w : World) → nat_lt max_length (length (repeated_text s j)) ≡ false → bytes_repeated s j w ≡ gave (pure.Bytes (repeated_text s j)) w
repeated_fits s (negsuc k) w h = refl
repeated_fits s (pos n) w h =
    let P : Bool → Type 0 = λ b. ◌≡◌ {A = Ran} (elim b [ true ↦ too_long w | false ↦ gave (pure.Bytes (times n s)) w ]) (gave (pure.Bytes (times n s)) w) in
    subst P (sym (ap (λ k. nat_lt max_length k) (sym (length_times n s)) ∙ h)) refl

repeated_over : (s : List ℕ) (j : ℤ) (w : World) → nat_lt max_length (length (repeated_text s j)) ≡ true → bytes_repeated s j w ≡ too_long w
repeated_over s (negsuc k) w h = cc
repeated_over s (pos n) w h =
    let P : Bool → Type 0 = λ b. ◌≡◌ {A = Ran} (elim b [ true ↦ too_long w | false ↦ gave (pure.Bytes (times n s)) w ]) (too_long w) in
    subst P (sym (ap (λ k. nat_lt max_length k) (sym (length_times n s)) ∙ h)) refl

join_runs : (s t : List ℕ) (old new : Memory) (r : Result Ref Fault) → PlacesBytes (s ++ t) old new r → Runs (λ w. operate tree.Add (pure.Bytes s) (pure.Bytes t) w) old new r
join_runs s t old new r h = bytes_runs (λ w. bytes_within (s ++ t) w) (s ++ t) old new r (λ w e. within_fits (s ++ t) w e) (λ w e. within_over (s ++ t) w e) h

repeat_runs : (s : List ℕ) (j : ℤ) (old new : Memory) (r : Result Ref Fault) → PlacesBytes (repeated_text s j) old new r → Runs (λ w. operate tree.Multiply (pure.Bytes s) (pure.Int j) w) old new r
repeat_runs s j old new r h = bytes_runs (λ w. bytes_repeated s j w) (repeated_text s j) old new r (λ w e. repeated_fits s j w e) (λ w e. repeated_over s j w e) h

-- an integer and bytes may change places
turned : (o : tree.BinaryOperator) (i : ℤ) (s : List ℕ) (w : World) → operate o (pure.Int i) (pure.Bytes s) w ≡ operate o (pure.Bytes s) (pure.Int i) w
turned tree.Add i s w = refl
turned tree.Subtract i s w = refl
turned tree.Multiply i s w = refl
turned tree.FloorDivide i s w = refl
turned tree.Modulo i s w = refl
turned tree.Power i s w = refl
turned tree.BitOr i s w = refl
turned tree.BitXor i s w = refl
turned tree.BitAnd i s w = refl
turned tree.ShiftLeft i s w = refl
turned tree.ShiftRight i s w = refl

made_turned : (o : tree.BinaryOperator) (i : ℤ) (s : List ℕ) → made_of o (pure.Int i) (pure.Bytes s) ≡ made_of o (pure.Bytes s) (pure.Int i)
made_turned tree.Add i s = refl
made_turned tree.Subtract i s = refl
made_turned tree.Multiply i s = refl
made_turned tree.FloorDivide i s = refl
made_turned tree.Modulo i s = refl
made_turned tree.Power i s = refl
made_turned tree.BitOr i s = refl
made_turned tree.BitXor i s = refl
made_turned tree.BitAnd i s = refl
made_turned tree.ShiftLeft i s = refl
made_turned tree.ShiftRight i s = refl

-- a truth counts as an integer beside bytes
counted : (o : tree.BinaryOperator) (b : Bool) (s : List ℕ) (w : World) → operate o (pure.Bytes s) (pure.Truth b) w ≡ operate o (pure.Bytes s) (pure.Int (int_of_truth b)) w
counted tree.Add b s w = refl
counted tree.Subtract b s w = refl
counted tree.Multiply b s w = refl
counted tree.FloorDivide b s w = refl
counted tree.Modulo b s w = refl
counted tree.Power b s w = refl
counted tree.BitOr b s w = refl
counted tree.BitXor b s w = refl
counted tree.BitAnd b s w = refl
counted tree.ShiftLeft b s w = refl
counted tree.ShiftRight b s w = refl

made_counted : (o : tree.BinaryOperator) (b : Bool) (s : List ℕ) → made_of o (pure.Bytes s) (pure.Truth b) ≡ made_of o (pure.Bytes s) (pure.Int (int_of_truth b))
made_counted tree.Add b s = refl
made_counted tree.Subtract b s = refl
made_counted tree.Multiply b s = refl
made_counted tree.FloorDivide b s = refl
made_counted tree.Modulo b s = refl
made_counted tree.Power b s = refl
made_counted tree.BitOr b s = refl
made_counted tree.BitXor b s = refl
made_counted tree.BitAnd b s = refl
made_counted tree.ShiftLeft b s = refl
made_counted tree.ShiftRight b s = refl

truth_turned : (o : tree.BinaryOperator) (b : Bool) (s : List ℕ) (w : World) → operate o (pure.Truth b) (pure.Bytes s) w ≡ operate o (pure.Bytes s) (pure.Int (int_of_truth b)) w
truth_turned tree.Add b s w = refl
truth_turned tree.Subtract b s w = refl
truth_turned tree.Multiply b s w = refl
truth_turned tree.FloorDivide b s w = refl
truth_turned tree.Modulo b s w = refl
truth_turned tree.Power b s w = refl
truth_turned tree.BitOr b s w = refl
truth_turned tree.BitXor b s w = refl
truth_turned tree.BitAnd b s w = refl
truth_turned tree.ShiftLeft b s w = refl
truth_turned tree.ShiftRight b s w = refl

made_truth_turned : (o : tree.BinaryOperator) (b : Bool) (s : List ℕ) → made_of o (pure.Truth b) (pure.Bytes s) ≡ made_of o (pure.Bytes s) (pure.Int (int_of_truth b))
made_truth_turned tree.Add b s = refl
made_truth_turned tree.Subtract b s = refl
made_truth_turned tree.Multiply b s = refl
made_truth_turned tree.FloorDivide b s = refl
made_truth_turned tree.Modulo b s = refl
made_truth_turned tree.Power b s = refl
made_truth_turned tree.BitOr b s = refl
made_truth_turned tree.BitXor b s = refl
made_truth_turned tree.BitAnd b s = refl
made_truth_turned tree.ShiftLeft b s = refl
made_truth_turned tree.ShiftRight b s = refl

-- bytes and an integer, or a truth that counts as one
module _ (o : tree.BinaryOperator) (left right : Ref) (old new : Memory) (r : Result Ref Fault) (u v : pure.Value) (s : List ℕ) (i : ℤ) where
  pub bytes_int_go : Goes o (pure.Bytes s) (pure.Int i) left left old new r → u ≡ pure.Bytes s → v ≡ pure.Int i → Goes o u v left right old new r
  bytes_int_go h e f =
      let x = pure.Bytes s in
      let y = pure.Int i in
      goes_at o left right old new r u v x y e f (goes_as o x y x y left right left old new r (λ w. refl) refl (needs_left left right (made_of o x y)) h)

  pub bytes_truth_go : (b : Bool) → Goes o (pure.Bytes s) (pure.Int i) left left old new r → u ≡ pure.Bytes s → v ≡ pure.Truth b → i ≡ int_of_truth b → Goes o u v left right old new r
  bytes_truth_go b h e f k =
      let x = pure.Bytes s in
      let y = pure.Int (int_of_truth b) in
      let P : ℤ → Type 0 = λ z. Goes o x (pure.Int z) left left old new r in
      goes_at o left right old new r u v x (pure.Truth b) e f
      (goes_as o x (pure.Truth b) x y left right left old new r (counted o b s) (made_counted o b s) (needs_left left right (made_of o x y)) (subst P k h))

  pub int_bytes_go : Goes o (pure.Bytes s) (pure.Int i) right right old new r → u ≡ pure.Int i → v ≡ pure.Bytes s → Goes o u v left right old new r
  int_bytes_go h e f =
      let x = pure.Bytes s in
      let y = pure.Int i in
      goes_at o left right old new r u v y x e f (goes_as o y x x y left right right old new r (turned o i s) (made_turned o i s) (needs_right left right (made_of o x y)) h)

  pub truth_bytes_go : (b : Bool) → Goes o (pure.Bytes s) (pure.Int i) right right old new r → u ≡ pure.Truth b → v ≡ pure.Bytes s → i ≡ int_of_truth b → Goes o u v left right old new r
  truth_bytes_go b h e f k =
      let x = pure.Bytes s in
      let y = pure.Int (int_of_truth b) in
      let P : ℤ → Type 0 = λ z. Goes o x (pure.Int z) right right old new r in
      goes_at o left right old new r u v (pure.Truth b) x e f
      (goes_as o (pure.Truth b) x x y left right right old new r (truth_turned o b s) (made_truth_turned o b s) (needs_right left right (made_of o x y)) (subst P k h))

-- bytes are joined
pub join_bytes_go : (o : BinaryOperator) (s t : List ℕ) (left right : Ref) (old new : Memory) (r : Result Ref Fault) → o ≡ binary.Add → PlacesBytes (s ++ t) old new r → (length s + length t ≤ 11 → (new ≡ old) × IsOk r) → Goes o (pure.Bytes s) (pure.Bytes t) left right old new r
join_bytes_go o s t left right old new r e p short =
    let P : BinaryOperator → Type 0 = λ x. Goes x (pure.Bytes s) (pure.Bytes t) left right old new r in
    subst P (sym e) (record {
      runs = join_runs s t old new r p;
      memory = λ n. let h = short (omega (arith, n.2, length-append s t)) in (h.0, ok_told r h.1);
    })

-- bytes are repeated
pub repeat_bytes_go : (o : BinaryOperator) (s : List ℕ) (i j : ℤ) (text : Ref) (old new : Memory) (r : Result Ref Fault) → o ≡ binary.Multiply → i ≡ j → PlacesBytes (repeated_text s i) old new r → (length (repeated_text s i) ≤ 11 → (new ≡ old) × IsOk r) → Goes o (pure.Bytes s) (pure.Int j) text text old new r
repeat_bytes_go o s i j text old new r e k p short =
    let P : BinaryOperator → Type 0 = λ x. Goes x (pure.Bytes s) (pure.Int j) text text old new r in
    let Q : ℤ → Type 0 = λ z. Goes tree.Multiply (pure.Bytes s) (pure.Int z) text text old new r in
    subst P (sym e) (subst Q k (record {
      runs = repeat_runs s i old new r p;
      memory = λ n. let h = short n.2 in (h.0, ok_told r h.1);
    }))

-- ---- bytes that are made of items

-- there are none
pub none_run : (f : World → Ran) (made : Option (List ℕ)) (m : Memory) (fault : Fault) → ((w : World) → f w ≡ bytes_made made w) → IsRefusal fault made → Runs f m m (Err fault)
none_run f made m (Raises cause) is h =
    let thrown : (w : World) → f w ≡ refused (kind_of cause) (message_of m.names cause) w =
    λ w. is w ∙ ap (λ o. bytes_made o w) h.0 ∙ ap (λ k. refused (kind_of k) (message_of m.names k) w) (sym h.1) in
    (((λ w e. thrown w), subst (CauseLies m.names) (sym h.1) tt), refl)
none_run f made m NoMemory is h = refl

-- there are these
pub made_run : (f : World → Ran) (made : Option (List ℕ)) (bs : List ℕ) (old new : Memory) (r : Result Ref Fault) → ((w : World) → f w ≡ bytes_made made w) → made ≡ Some bs → PlacesBytes bs old new r → Runs f old new r
made_run f made bs old new r is e h =
    bytes_runs f bs old new r (λ w g. is w ∙ ap (λ o. bytes_made o w) e ∙ within_fits bs w g) (λ w g. is w ∙ ap (λ o. bytes_made o w) e ∙ within_over bs w g) h
