-- Operations that go as their definitions.
use Rattle.std.proofs.Common.{◌≡◌, ◌≢◌, ◌+◌, arith, length-append, ℤ, ◌≤◌, ◌++◌, length, Bool, true, false, Result, Ok, Err, IsOk, cond, refl, sym, ap, subst, ◌∙◌, nat_lt, lt-ltb, le-ltb, pos, negsuc, to_z, of_z, w64}
use Rattle.si_semantics.specs.Value as pure
use Rattle.si_semantics.specs.Tree as tree
use Rattle.si_semantics.specs.World.{World, Ran}
use Rattle.si_semantics.specs.Text.{max_length}
use Rattle.si_semantics.specs.Operations.{gave, refused, within, too_long, wrong_type, operate_unary, compare, repeated, times, integer, operate, operate_integers, operate_truths, int_of_truth}
use Rattle.si_plain.specs.declared.operators.BinaryOperator.{BinaryOperator}
use Rattle.si_plain.specs.declared.operators.BinaryOperator.TheVariants as binary
use Rattle.si_plain.specs.declared.operators.UnaryOperator.{UnaryOperator}
use Rattle.si_plain.specs.declared.operators.UnaryOperator.TheVariants as unary
use Rattle.si_arena.specs.declared.value.Ref.{Ref}
use Rattle.si_arena.specs.declared.cause.Cause.{Cause}
use Rattle.si_arena.specs.declared.cause.Cause.TheVariants.{TooLong, WrongType}
use Rattle.si_arena.specs.declared.cause.Fault.{Fault}
use Rattle.si_arena.specs.declared.cause.Fault.TheVariants.{Raises, NoMemory}
use Rattle.si_arena.specs.Causes.{kind_of, message_of, CauseLies}
use Rattle.si_arena.specs.Memory.{Memory, PlacesText}
use Rattle.si_arena.specs.Texts.{repeated_text, IsNarrow}
use Rattle.si_arena.proofs.Repeats.{length_times}
use Rattle.si_ops.specs.declared.operand.Operand.{Operand}
use Rattle.si_ops.specs.Runs.{Throws, Runs, Tells}
use Rattle.si_ops.specs.Operands.{IsOther, IsNoInteger, Stands, Made, NoneMade, TextMade, TupleMade, made_of, NeedsNone, IsTold}

-- an operation that goes as another
pub runs_as : (f g : World → Ran) (old new : Memory) (r : Result Ref Fault) → ((w : World) → f w ≡ g w) → Runs g old new r → Runs f old new r
runs_as f g old new (Ok r) same h = ((λ w e. same w ∙ h.0 w e), h.1, h.2, h.3)
runs_as f g old new (Err (Raises cause)) same h = (((λ w e. same w ∙ h.0.0 w e), h.0.1), h.1)
runs_as f g old new (Err NoMemory) same h = h

-- ---- texts

-- the exception that says that a text is too long
pub throws_long : (f : World → Ran) (m : Memory) (cause : Cause) → cause ≡ TooLong → ((w : World) → f w ≡ too_long w) → Throws f m cause
throws_long f m cause e g = (
  (λ w h. g w ∙ ap (λ c. refused (kind_of c) (message_of m.names c) w) (sym e)),
  subst (CauseLies m.names) (sym e) tt,
)

-- an operation that places a text
pub places_runs : (f : World → Ran) (t : pure.Text) (old new : Memory) (r : Result Ref Fault) → ((w : World) → nat_lt max_length (length t) ≡ false → f w ≡ gave (pure.Str t) w) → ((w : World) → nat_lt max_length (length t) ≡ true → f w ≡ too_long w) → PlacesText t old new r → Runs f old new r
places_runs f t old new (Ok r) fits over h = (
  (λ w e. fits w (le-ltb _ _ h.0) ∙ ap (λ v. gave v w) (sym h.1.denotes)),
  h.1.lies,
  h.1.extends,
  h.1.store,
)
places_runs f t old new (Err (Raises cause)) fits over h = (throws_long f old cause h.1 (λ w. over w (lt-ltb _ _ h.0)), h.2)
places_runs f t old new (Err NoMemory) fits over h = h

within_fits : (t : pure.Text) (w : World) → nat_lt max_length (length t) ≡ false → within t w ≡ gave (pure.Str t) w
within_fits t w h = ap (λ b. cond b (too_long w) (gave (pure.Str t) w)) h

within_over : (t : pure.Text) (w : World) → nat_lt max_length (length t) ≡ true → within t w ≡ too_long w
within_over t w h = ap (λ b. cond b (too_long w) (gave (pure.Str t) w)) h

-- what repeating gives, by whether the text is too long
repeated_fits : (s : pure.Text) (j : ℤ) (w : World) → nat_lt max_length (length (repeated_text s j)) ≡ false → repeated s j w ≡ gave (pure.Str (repeated_text s j)) w
repeated_fits s (negsuc k) w h = refl
repeated_fits s (pos n) w h =
    let P : Bool → Type 0 = λ b. ◌≡◌ {A = Ran} (elim b [ true ↦ too_long w | false ↦ gave (pure.Str (times n s)) w ]) (gave (pure.Str (times n s)) w) in
    subst P (sym (ap (λ k. nat_lt max_length k) (sym (length_times n s)) ∙ h)) refl

repeated_over : (s : pure.Text) (j : ℤ) (w : World) → nat_lt max_length (length (repeated_text s j)) ≡ true → repeated s j w ≡ too_long w
repeated_over s (negsuc k) w h = cc
repeated_over s (pos n) w h =
    let P : Bool → Type 0 = λ b. ◌≡◌ {A = Ran} (elim b [ true ↦ too_long w | false ↦ gave (pure.Str (times n s)) w ]) (too_long w) in
    subst P (sym (ap (λ k. nat_lt max_length k) (sym (length_times n s)) ∙ h)) refl

join_runs : (s t : pure.Text) (old new : Memory) (r : Result Ref Fault) → PlacesText (s ++ t) old new r → Runs (λ w. operate tree.Add (pure.Str s) (pure.Str t) w) old new r
join_runs s t old new r h = places_runs (λ w. within (s ++ t) w) (s ++ t) old new r (λ w e. within_fits (s ++ t) w e) (λ w e. within_over (s ++ t) w e) h

repeat_runs : (s : pure.Text) (j : ℤ) (old new : Memory) (r : Result Ref Fault) → PlacesText (repeated_text s j) old new r → Runs (λ w. operate tree.Multiply (pure.Str s) (pure.Int j) w) old new r
repeat_runs s j old new r h = places_runs (λ w. repeated s j w) (repeated_text s j) old new r (λ w e. repeated_fits s j w e) (λ w e. repeated_over s j w e) h

-- ---- operands

-- any other operator than `|`, `^` and `&` takes truths as integers
pub truths_count : (o : BinaryOperator) (a b : Bool) (w : World) → o ≢ binary.BitOr → o ≢ binary.BitXor → o ≢ binary.BitAnd → operate_truths o a b w ≡ operate o (pure.Int (int_of_truth a)) (pure.Int (int_of_truth b)) w
truths_count binary.BitOr a b w f g h = absurd (f refl)
truths_count binary.BitXor a b w f g h = absurd (g refl)
truths_count binary.BitAnd a b w f g h = absurd (h refl)
truths_count binary.ShiftLeft a b w f g h = refl
truths_count binary.ShiftRight a b w f g h = refl
truths_count binary.Add a b w f g h = refl
truths_count binary.Subtract a b w f g h = refl
truths_count binary.Multiply a b w f g h = refl
truths_count binary.FloorDivide a b w f g h = refl
truths_count binary.Modulo a b w f g h = refl
truths_count binary.Power a b w f g h = refl

-- what an operator does with two values, and which memory it needs
pub record Goes (o : tree.BinaryOperator) (u v : pure.Value) (left right : Ref) (old new : Memory) (r : Result Ref Fault) : Type 0 where
  pub runs : Runs (λ w. operate o u v w) old new r
  pub memory : NeedsNone left right (made_of o u v) → (new ≡ old) × IsTold r

module _ (o : tree.BinaryOperator) (left right : Ref) (old new : Memory) (r : Result Ref Fault) where
  -- values that are equal to others
  pub goes_at : (u v x y : pure.Value) → u ≡ x → v ≡ y → Goes o x y left right old new r → Goes o u v left right old new r
  goes_at u v x y e f h =
      let P : pure.Value → Type 0 = λ z. Goes o z v left right old new r in
      let Q : pure.Value → Type 0 = λ z. Goes o x z left right old new r in
      subst P (sym e) (subst Q (sym f) h)

  -- no memory is needed where the arena is as it was and the value is told
  told_goes : (u v : pure.Value) → new ≡ old → IsTold r → Runs (λ w. operate o u v w) old new r → Goes o u v left right old new r
  told_goes u v e t h = record { runs = h; memory = λ n. (e, t) }

-- what a value is to an operator, by what that is equal to
pub stood : (m : Memory) (r : Ref) (p q : Operand) → Stands m r p → p ≡ q → Stands m r q
stood m r p q h e = subst (Stands m r) e h

no_truth : false ≡ true → ⊥
no_truth h = cc

pub ok_told : (r : Result Ref Fault) → IsOk r → IsTold r
ok_told (Ok r) h = tt
ok_told (Err e) h = absurd (no_truth h)

pub needs_left : (left right : Ref) (t : Made) → NeedsNone left right t → NeedsNone left left t
needs_left left right NoneMade h = tt
needs_left left right (TextMade t) h = (h.0, h.0, h.2)
needs_left left right (TupleMade vs) h = h

pub needs_right : (left right : Ref) (t : Made) → NeedsNone left right t → NeedsNone right right t
needs_right left right NoneMade h = tt
needs_right left right (TextMade t) h = (h.1, h.1, h.2)
needs_right left right (TupleMade vs) h = h

-- an operator that does with two values what it does with two others
pub goes_as : (o : tree.BinaryOperator) (u v x y : pure.Value) (left right text : Ref) (old new : Memory) (r : Result Ref Fault) → ((w : World) → operate o u v w ≡ operate o x y w) → made_of o u v ≡ made_of o x y → (NeedsNone left right (made_of o x y) → NeedsNone text text (made_of o x y)) → Goes o x y text text old new r → Goes o u v left right old new r
goes_as o u v x y left right text old new r same made needs h = record {
  runs = runs_as (λ w. operate o u v w) (λ w. operate o x y w) old new r same h.runs;
  memory = λ n. let P : Made → Type 0 = λ t. NeedsNone left right t in h.memory (needs (subst P made n));
}

-- an integer and a text may change places
turned : (o : tree.BinaryOperator) (i : ℤ) (s : pure.Text) (w : World) → operate o (pure.Int i) (pure.Str s) w ≡ operate o (pure.Str s) (pure.Int i) w
turned tree.Add i s w = refl
turned tree.Subtract i s w = refl
turned tree.Multiply i s w = refl
turned tree.FloorDivide i s w = refl
turned tree.Modulo i s w = refl
turned tree.Power i s w = refl
turned tree.BitOr i s w = refl
turned tree.BitXor i s w = refl
turned tree.BitAnd i s w = refl
turned tree.ShiftLeft i s w = refl
turned tree.ShiftRight i s w = refl

made_turned : (o : tree.BinaryOperator) (i : ℤ) (s : pure.Text) → made_of o (pure.Int i) (pure.Str s) ≡ made_of o (pure.Str s) (pure.Int i)
made_turned tree.Add i s = refl
made_turned tree.Subtract i s = refl
made_turned tree.Multiply i s = refl
made_turned tree.FloorDivide i s = refl
made_turned tree.Modulo i s = refl
made_turned tree.Power i s = refl
made_turned tree.BitOr i s = refl
made_turned tree.BitXor i s = refl
made_turned tree.BitAnd i s = refl
made_turned tree.ShiftLeft i s = refl
made_turned tree.ShiftRight i s = refl

-- a truth counts as an integer beside a text
counted : (o : tree.BinaryOperator) (b : Bool) (s : pure.Text) (w : World) → operate o (pure.Str s) (pure.Truth b) w ≡ operate o (pure.Str s) (pure.Int (int_of_truth b)) w
counted tree.Add b s w = refl
counted tree.Subtract b s w = refl
counted tree.Multiply b s w = refl
counted tree.FloorDivide b s w = refl
counted tree.Modulo b s w = refl
counted tree.Power b s w = refl
counted tree.BitOr b s w = refl
counted tree.BitXor b s w = refl
counted tree.BitAnd b s w = refl
counted tree.ShiftLeft b s w = refl
counted tree.ShiftRight b s w = refl

made_counted : (o : tree.BinaryOperator) (b : Bool) (s : pure.Text) → made_of o (pure.Str s) (pure.Truth b) ≡ made_of o (pure.Str s) (pure.Int (int_of_truth b))
made_counted tree.Add b s = refl
made_counted tree.Subtract b s = refl
made_counted tree.Multiply b s = refl
made_counted tree.FloorDivide b s = refl
made_counted tree.Modulo b s = refl
made_counted tree.Power b s = refl
made_counted tree.BitOr b s = refl
made_counted tree.BitXor b s = refl
made_counted tree.BitAnd b s = refl
made_counted tree.ShiftLeft b s = refl
made_counted tree.ShiftRight b s = refl

truth_turned : (o : tree.BinaryOperator) (b : Bool) (s : pure.Text) (w : World) → operate o (pure.Truth b) (pure.Str s) w ≡ operate o (pure.Str s) (pure.Int (int_of_truth b)) w
truth_turned tree.Add b s w = refl
truth_turned tree.Subtract b s w = refl
truth_turned tree.Multiply b s w = refl
truth_turned tree.FloorDivide b s w = refl
truth_turned tree.Modulo b s w = refl
truth_turned tree.Power b s w = refl
truth_turned tree.BitOr b s w = refl
truth_turned tree.BitXor b s w = refl
truth_turned tree.BitAnd b s w = refl
truth_turned tree.ShiftLeft b s w = refl
truth_turned tree.ShiftRight b s w = refl

made_truth_turned : (o : tree.BinaryOperator) (b : Bool) (s : pure.Text) → made_of o (pure.Truth b) (pure.Str s) ≡ made_of o (pure.Str s) (pure.Int (int_of_truth b))
made_truth_turned tree.Add b s = refl
made_truth_turned tree.Subtract b s = refl
made_truth_turned tree.Multiply b s = refl
made_truth_turned tree.FloorDivide b s = refl
made_truth_turned tree.Modulo b s = refl
made_truth_turned tree.Power b s = refl
made_truth_turned tree.BitOr b s = refl
made_truth_turned tree.BitXor b s = refl
made_truth_turned tree.BitAnd b s = refl
made_truth_turned tree.ShiftLeft b s = refl
made_truth_turned tree.ShiftRight b s = refl

-- two integers, and truths that count as integers
module _ (o : tree.BinaryOperator) (left right : Ref) (m : Memory) (r : Result Ref Fault) (u v : pure.Value) (i j : ℤ) (t : IsTold r) (h : Runs (λ w. operate o (pure.Int i) (pure.Int j) w) m m r) where
  pub ints_go : u ≡ pure.Int i → v ≡ pure.Int j → Goes o u v left right m m r
  ints_go e f = goes_at o left right m m r u v (pure.Int i) (pure.Int j) e f (told_goes o left right m m r (pure.Int i) (pure.Int j) refl t h)

  pub int_truth_go : (b : Bool) → u ≡ pure.Int i → v ≡ pure.Truth b → j ≡ int_of_truth b → Goes o u v left right m m r
  int_truth_go b e f k =
      let P : ℤ → Type 0 = λ z. Runs (λ w. integer (operate_integers o i z) w) m m r in
      goes_at o left right m m r u v (pure.Int i) (pure.Truth b) e f (told_goes o left right m m r (pure.Int i) (pure.Truth b) refl t (subst P k h))

  pub truth_int_go : (a : Bool) → u ≡ pure.Truth a → v ≡ pure.Int j → i ≡ int_of_truth a → Goes o u v left right m m r
  truth_int_go a e f k =
      let P : ℤ → Type 0 = λ z. Runs (λ w. integer (operate_integers o z j) w) m m r in
      goes_at o left right m m r u v (pure.Truth a) (pure.Int j) e f (told_goes o left right m m r (pure.Truth a) (pure.Int j) refl t (subst P k h))

-- two truths
pub truths_go : (o : tree.BinaryOperator) (left right : Ref) (m : Memory) (r : Result Ref Fault) (u v : pure.Value) (a b : Bool) → IsTold r → Runs (λ w. operate_truths o a b w) m m r → u ≡ pure.Truth a → v ≡ pure.Truth b → Goes o u v left right m m r
truths_go o left right m r u v a b t h e f =
    goes_at o left right m m r u v (pure.Truth a) (pure.Truth b) e f (told_goes o left right m m r (pure.Truth a) (pure.Truth b) refl t h)

-- a text and an integer, or a truth that counts as one
module _ (o : tree.BinaryOperator) (left right : Ref) (old new : Memory) (r : Result Ref Fault) (u v : pure.Value) (s : pure.Text) (i : ℤ) where
  pub text_int_go : Goes o (pure.Str s) (pure.Int i) left left old new r → u ≡ pure.Str s → v ≡ pure.Int i → Goes o u v left right old new r
  text_int_go h e f =
      let x = pure.Str s in
      let y = pure.Int i in
      goes_at o left right old new r u v x y e f (goes_as o x y x y left right left old new r (λ w. refl) refl (needs_left left right (made_of o x y)) h)

  pub text_truth_go : (b : Bool) → Goes o (pure.Str s) (pure.Int i) left left old new r → u ≡ pure.Str s → v ≡ pure.Truth b → i ≡ int_of_truth b → Goes o u v left right old new r
  text_truth_go b h e f k =
      let x = pure.Str s in
      let y = pure.Int (int_of_truth b) in
      let P : ℤ → Type 0 = λ z. Goes o x (pure.Int z) left left old new r in
      goes_at o left right old new r u v x (pure.Truth b) e f
      (goes_as o x (pure.Truth b) x y left right left old new r (counted o b s) (made_counted o b s) (needs_left left right (made_of o x y)) (subst P k h))

  pub int_text_go : Goes o (pure.Str s) (pure.Int i) right right old new r → u ≡ pure.Int i → v ≡ pure.Str s → Goes o u v left right old new r
  int_text_go h e f =
      let x = pure.Str s in
      let y = pure.Int i in
      goes_at o left right old new r u v y x e f (goes_as o y x x y left right right old new r (turned o i s) (made_turned o i s) (needs_right left right (made_of o x y)) h)

  pub truth_text_go : (b : Bool) → Goes o (pure.Str s) (pure.Int i) right right old new r → u ≡ pure.Truth b → v ≡ pure.Str s → i ≡ int_of_truth b → Goes o u v left right old new r
  truth_text_go b h e f k =
      let x = pure.Str s in
      let y = pure.Int (int_of_truth b) in
      let P : ℤ → Type 0 = λ z. Goes o x (pure.Int z) right right old new r in
      goes_at o left right old new r u v (pure.Truth b) x e f
      (goes_as o (pure.Truth b) x x y left right right old new r (truth_turned o b s) (made_truth_turned o b s) (needs_right left right (made_of o x y)) (subst P k h))

-- what a truth counts as is an integer of 64 bits
truth_fits : (b : Bool) → to_z w64 (of_z w64 (int_of_truth b)) ≡ int_of_truth b
truth_fits true = refl
truth_fits false = refl

pub count_fits : (b : Bool) (i : ℤ) → i ≡ int_of_truth b → to_z w64 (of_z w64 i) ≡ int_of_truth b
count_fits b i e = ap (λ z. to_z w64 (of_z w64 z)) e ∙ truth_fits b

-- two texts are joined
pub join_go : (o : BinaryOperator) (s t : pure.Text) (left right : Ref) (old new : Memory) (r : Result Ref Fault) → o ≡ binary.Add → PlacesText (s ++ t) old new r → (IsNarrow left → IsNarrow right → length s + length t ≤ 11 → (new ≡ old) × IsOk r) → Goes o (pure.Str s) (pure.Str t) left right old new r
join_go o s t left right old new r e p short =
    let P : BinaryOperator → Type 0 = λ x. Goes x (pure.Str s) (pure.Str t) left right old new r in
    subst P (sym e) (record {
      runs = join_runs s t old new r p;
      memory = λ n. let h = short n.0 n.1 (omega (arith, n.2, length-append s t)) in (h.0, ok_told r h.1);
    })

-- a text is repeated
pub repeat_go : (o : BinaryOperator) (s : pure.Text) (i j : ℤ) (text : Ref) (old new : Memory) (r : Result Ref Fault) → o ≡ binary.Multiply → i ≡ j → PlacesText (repeated_text s i) old new r → (IsNarrow text → length (repeated_text s i) ≤ 11 → (new ≡ old) × IsOk r) → Goes o (pure.Str s) (pure.Int j) text text old new r
repeat_go o s i j text old new r e k p short =
    let P : BinaryOperator → Type 0 = λ x. Goes x (pure.Str s) (pure.Int j) text text old new r in
    let Q : ℤ → Type 0 = λ z. Goes tree.Multiply (pure.Str s) (pure.Int z) text text old new r in
    subst P (sym e) (subst Q k (record {
      runs = repeat_runs s i old new r p;
      memory = λ n. let h = short n.0 n.2 in (h.0, ok_told r h.1);
    }))

-- ---- operators before a value

-- a value that is equal to another
pub tells_at : (o : tree.UnaryOperator) (m : Memory) (u x : pure.Value) (r : Result Ref Cause) → u ≡ x → Tells (λ w. operate_unary o x w) m r → Tells (λ w. operate_unary o u w) m r
tells_at o m u x r e h =
    let P : pure.Value → Type 0 = λ z. Tells (λ w. operate_unary o z w) m r in
    subst P (sym e) h

-- an operation that goes as another
tells_as : (f g : World → Ran) (m : Memory) (r : Result Ref Cause) → ((w : World) → f w ≡ g w) → Tells g m r → Tells f m r
tells_as f g m (Ok r) same h = ((λ w e. same w ∙ h.0 w e), h.1)
tells_as f g m (Err cause) same h = ((λ w e. same w ∙ h.0 w e), h.1)

-- any operator but `not` takes a truth as an integer
counts : (o : UnaryOperator) (b : Bool) (w : World) → o ≢ unary.Not → operate_unary o (pure.Truth b) w ≡ operate_unary o (pure.Int (int_of_truth b)) w
counts unary.Not b w h = absurd (h refl)
counts unary.Plus b w h = refl
counts unary.Minus b w h = refl
counts unary.Invert b w h = refl

pub truth_tells : (o : UnaryOperator) (b : Bool) (i : ℤ) (m : Memory) (r : Result Ref Cause) → o ≢ unary.Not → i ≡ int_of_truth b → Tells (λ w. operate_unary o (pure.Int i) w) m r → Tells (λ w. operate_unary o (pure.Truth b) w) m r
truth_tells o b i m r other e h =
    let P : ℤ → Type 0 = λ z. Tells (λ w. operate_unary o (pure.Int z) w) m r in
    tells_as (λ w. operate_unary o (pure.Truth b) w) (λ w. operate_unary o (pure.Int (int_of_truth b)) w) m r (λ w. counts o b w other) (subst P e h)

-- any operator but `not` refuses what counts as no integer
plus_wrong : (u : pure.Value) (w : World) → IsNoInteger u → operate_unary tree.Plus u w ≡ wrong_type w
plus_wrong (pure.Int i) w h = absurd h
plus_wrong (pure.Truth b) w h = absurd h
plus_wrong _ w h = refl

minus_wrong : (u : pure.Value) (w : World) → IsNoInteger u → operate_unary tree.Minus u w ≡ wrong_type w
minus_wrong (pure.Int i) w h = absurd h
minus_wrong (pure.Truth b) w h = absurd h
minus_wrong _ w h = refl

invert_wrong : (u : pure.Value) (w : World) → IsNoInteger u → operate_unary tree.Invert u w ≡ wrong_type w
invert_wrong (pure.Int i) w h = absurd h
invert_wrong (pure.Truth b) w h = absurd h
invert_wrong _ w h = refl

wrong_operand : (o : UnaryOperator) (u : pure.Value) (w : World) → o ≢ unary.Not → IsNoInteger u → operate_unary o u w ≡ wrong_type w
wrong_operand unary.Not u w other h = absurd (other refl)
wrong_operand unary.Plus u w other h = plus_wrong u w h
wrong_operand unary.Minus u w other h = minus_wrong u w h
wrong_operand unary.Invert u w other h = invert_wrong u w h

pub wrong_tells : (o : UnaryOperator) (u : pure.Value) (m : Memory) → o ≢ unary.Not → IsNoInteger u → Tells (λ w. operate_unary o u w) m (Err WrongType)
wrong_tells o u m other h = ((λ w e. wrong_operand o u w other h), tt)

-- what stands as a text or as another value counts as no integer
pub text_no_integer : (m : Memory) (r : Ref) (u : pure.Value) (t : pure.Text) → u ≡ pure.Str t → IsNoInteger u
text_no_integer m r u t e = subst IsNoInteger (sym e) tt

pub other_no_integer : (u : pure.Value) → IsOther u → IsNoInteger u
other_no_integer (pure.Int i) h = h
other_no_integer (pure.Truth b) h = h
other_no_integer _ h = tt

-- ---- comparisons

-- values that are equal to others are compared as these
pub compared_at : (o : tree.ComparisonOperator) (u v x y : pure.Value) (w : World) (s : Ran) → x ≡ u → y ≡ v → compare o x y w ≡ s → compare o u v w ≡ s
compared_at o u v x y w s e f h = sym (ap (λ z. compare o z y w) e ∙ ap (λ z. compare o u z w) f) ∙ h
