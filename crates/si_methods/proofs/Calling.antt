-- Calls that go as their definitions.
use Rattle.std.proofs.Common.{◌≡◌, ℕ, ℤ, pos, negsuc, true, false, ltb-true, ◌<◌, List, [], ◌∷◌, ◌++◌, length, Option, Some, None, Result, Ok, Err, refl, sym, ap, subst, ◌∙◌, arith}
use Rattle.std.specs.Prelude.{unsigned_abs}
use Rattle.std.specs.Int.Signed.{lt_z}
use Rattle.si_semantics.specs.Value as pure
use Rattle.si_semantics.specs.World as world
use Rattle.si_semantics.specs.World.{World, Ran, Asked}
use Rattle.si_semantics.specs.Operations.{gave, refused, placed}
use Rattle.si_semantics.specs.Attributes.{queue_of}
use Rattle.si_arena.specs.declared.value.Ref.{Ref}
use Rattle.si_arena.specs.declared.cause.Cause.{Cause}
use Rattle.si_arena.specs.declared.cause.Fault.{Fault}
use Rattle.si_arena.specs.declared.cause.Fault.TheVariants.{Raises, NoMemory}
use Rattle.si_arena.specs.Causes.{kind_of, message_of, CauseLies}
use Rattle.si_arena.specs.Memory.{Memory, value_of, Lies, IsMade}
use Rattle.si_arena.proofs.Lying.{extends_same, extends_made}
use Rattle.si_ops.specs.Runs.{Throws}
use Rattle.si_methods.specs.declared.request.Answered.{Answered}
use Rattle.si_methods.specs.declared.request.Answered.TheVariants.{Value, Asks, NoKey}
use Rattle.si_methods.specs.Answering.{Answers, told_of, lacking_of, placed_of}
use Rattle.si_methods.specs.Passing.{PutsItem, IsSent, IsUnsent, refusal_by}
use Rattle.si_semantics.specs.Attributes.{shared, prepares, parcels_by_name}
use Rattle.si_semantics.specs.Parcels.{Tree}
use Rattle.si_semantics.specs.Attributes.{puts}
use Rattle.std.proofs.Common.{lt-ltb, le-ltb, cond}
use Rattle.si_plain.specs.declared.kind.Kind.{Kind}
use Rattle.si_plain.specs.declared.kind.Kind.TheVariants as kinds
use Rattle.si_semantics.specs.Text.{max_length}
use Rattle.si_semantics.specs.Operations.{too_long, within, bytes_within}
use Rattle.si_semantics.specs.Attributes.{texts_in, joined_texts, joins_texts, text_made, encodes}
use Rattle.si_arena.specs.declared.cause.Cause.TheVariants.{WrongType, TooLong}
use Rattle.si_arena.specs.Memory.{PlacesText, PlacesBytes}
use Rattle.si_ops.specs.declared.lack.Lack.{Lack}
use Rattle.si_ops.specs.declared.lack.Lack.TheVariants as lacks
use Rattle.si_ops.specs.Changes.{Changes, Takes}
use Rattle.si_methods.specs.Needing.{IsTold}
use Rattle.si_methods.specs.Shown.{IsTextOf}
use Rattle.si_methods.proofs.Otherwise.{encodes_nothing}
use Rattle.si_methods.specs.declared.joining.Gathered.{Gathered}
use Rattle.si_methods.specs.Joining.{Joins, JoinsItems}

-- a call that goes as another
pub answers_as : (f g : World → Ran) (own : ℕ) (old new : Memory) (r : Result Answered Fault) → ((w : World) → w.store ≡ old.store → f w ≡ g w) → Answers g own old new r → Answers f own old new r
answers_as f g own old new (Ok (Value r)) same h = ((λ w e o. same w e ∙ h.0 w e o), h.1, h.2)
answers_as f g own old new (Ok (Asks kept action)) same h = (
  record {
    request = h.0.request;
    asks = λ w e. same w e ∙ h.0.asks w e;
    made_by = h.0.made_by;
    kept_is = h.0.kept_is;
    lies = h.0.lies;
  },
  h.1,
)
answers_as f g own old new (Ok (NoKey key)) same h = ((λ w e. same w e ∙ h.0 w e), h.1, h.2)
answers_as f g own old new (Err (Raises cause)) same h = (((λ w e. same w e ∙ h.0.0 w e), h.0.1), h.1)
answers_as f g own old new (Err NoMemory) same h = h

-- a call that gives a value, and changes nothing
pub gives : (f : World → Ran) (own : ℕ) (m : Memory) (r : Ref) → Lies m r → ((w : World) → w.store ≡ m.store → f w ≡ gave (value_of m r) w) → Answers f own m m (Ok (Value r))
gives f own m r lies g = ((λ w e o. g w e ∙ ap (λ s. gave (value_of m r) (record w { store = s })) e), lies, extends_same m)

-- a call that raises
pub throws : (f : World → Ran) (own : ℕ) (m : Memory) (cause : Cause) → CauseLies m.names cause → ((w : World) → w.store ≡ m.store → f w ≡ refused (kind_of cause) (message_of m.names cause) w) → Answers f own m m (Err (Raises cause))
throws f own m cause lies g = ((g, lies), refl)

-- a call that raises as an operation does
pub throws_as : (f : World → Ran) (own : ℕ) (m : Memory) (cause : Cause) → Throws f m cause → Answers f own m m (Err (Raises cause))
throws_as f own m cause h = (h, refl)

-- an object is placed
pub places : (o : pure.Object) (own : ℕ) (old new : Memory) (r : Ref) → IsMade o old new r → Answers (λ w. placed o w) own old new (Ok (Value r))
places o own old new r h = (
  (λ w e p.
      ap (λ (s : List pure.Object). gave (pure.Address (length s)) (record w { store = s ++ o ∷ [] })) e
      ∙ ap (λ v. gave v (record w { store = old.store ++ o ∷ [] })) (sym (ap (value_of new) h.address))
      ∙ ap (λ (m : Memory). gave (value_of new r) (record w { store = m.store })) (sym h.memory)),
  subst (Lies new) (sym h.address) (omega (arith, ap (λ (m : Memory). length m.store) h.memory, longer old.store o)),
  extends_made h,
)
  where
    longer : (os : List pure.Object) (o : pure.Object) → length os < length (os ++ o ∷ [])
    longer [] o = omega arith
    longer (x ∷ os) o = omega (arith, longer os o)

-- the most items of a queue
pub below_bound : (n : ℤ) (w : World) → lt_z n (pos 0) ≡ true → queue_of (Some n) w ≡ Asked (world.CreateQueue 0) w
below_bound (pos m) w e = absurd (omega (arith, ltb-true m 0 e))
below_bound (negsuc m) w e = refl

pub within_bound : (n : ℤ) (w : World) → lt_z n (pos 0) ≡ false → queue_of (Some n) w ≡ Asked (world.CreateQueue (unsigned_abs n)) w
within_bound (pos m) w e = refl
within_bound (negsuc m) w e = absurd cc

-- a call that puts no item
pub puts_as : (takes : (pure.Value → Ran) → World → Ran) (v : pure.Value) (own : ℕ) (m : Memory) (fault : Fault) (request : ℕ → Tree → world.Request) → PutsItem takes v m (Err fault) → Answers (λ w. takes (λ u. puts request v u w) w) own m m (Err fault)
puts_as takes v own m (Raises cause) request h = (h request, refl)
puts_as takes v own m NoMemory request h = refl

-- an item that goes as another
pub puts_through : (f g : (pure.Value → Ran) → World → Ran) (v : pure.Value) (m : Memory) (r : Result (ℕ × Tree) Fault) → ((does : pure.Value → Ran) (w : World) → f does w ≡ g does w) → PutsItem g v m r → PutsItem f v m r
puts_through f g v m (Ok b) same h = λ request w. same (λ u. puts request v u w) w ∙ h request w
puts_through f g v m (Err (Raises cause)) same h = λ request. ((λ w e. same (λ u. puts request v u w) w ∙ (h request).0 w e), (h request).1)
puts_through f g v m (Err NoMemory) same h = tt

-- an item that is not sent is not put
pub not_put : (v u : pure.Value) (q n : ℕ) (m : Memory) (f : Fault) → v ≡ pure.Queue q n → IsSent u (Err f) → PutsItem (λ does w. does u) v m (Err f)
not_put v u q n m (Raises cause) e h = λ request.
    subst (Throws (λ w. puts request v u w) m) (sym h.1)
    ((λ w s. ap (λ x. puts request x u w) e ∙ ap (λ o. shared o (λ p. Asked (request q p) w) w) h.0), tt)
not_put v u q n m NoMemory e h = tt

-- pairs of which one is not sent are not bound
refuses_by : (i : ℕ) (k : Kind) (m : Memory) (w : World) → prepares i (Err k) w ≡ refused (kind_of (refusal_by k)) (message_of m.names (refusal_by k)) w
refuses_by i kinds.NotShareableError m w = refl
refuses_by i _ m w = refl

refusal_lies : (k : Kind) (m : Memory) → CauseLies m.names (refusal_by k)
refusal_lies kinds.NotShareableError m = tt
refusal_lies _ m = tt

pub not_bound : (i : ℕ) (pairs : List (pure.Key × pure.Value)) (own : ℕ) (m : Memory) (f : Fault) → IsUnsent pairs f → Answers (λ w. prepares i (parcels_by_name pairs) w) own m m (Err f)
not_bound i pairs own m (Raises cause) h =
    (subst (Throws (λ w. prepares i (parcels_by_name pairs) w) m) (sym h.2) ((λ w s. ap (λ o. prepares i o w) h.1 ∙ refuses_by i h.0 m w), refusal_lies h.0 m), refl)
not_bound i pairs own m NoMemory h = refl

-- ---- operations that are calls

-- memory is not refused for a call that takes none
pub is_told : (r : Result Answered Cause) → IsTold (told_of r)
is_told (Ok a) = tt
is_told (Err cause) = tt

-- a change that is not made
pub unchanged : (f : World → Ran) (own : ℕ) (old new : Memory) (fault : Fault) → Changes f old new (Err fault) → Answers f own old new (Err fault)
unchanged f own old new (Raises cause) h = h
unchanged f own old new NoMemory h = h

-- a value that is not taken away
pub untaken : (f : World → Ran) (own : ℕ) (old new : Memory) (key : Ref) (lack : Lack) → Lies old key → Takes f (value_of old key) old new (Err lack) → Answers f own old new (told_of (lacking_of key lack))
untaken f own old new key (lacks.Raises cause) lies h = h
untaken f own old new key lacks.NoKey lies h = (h.0, lies, h.1)

-- a text is placed
pub text_placed : (t : pure.Text) (own : ℕ) (old new : Memory) (r : Result Ref Fault) → PlacesText t old new r → Answers (λ w. within t w) own old new (placed_of r)
text_placed t own old new (Ok r) h = (
  (λ w e o.
      ap (λ b. cond b (too_long w) (gave (pure.Str t) w)) (le-ltb max_length (length t) h.0)
      ∙ ap (λ v. gave v w) (sym h.1.denotes)
      ∙ ap (λ s. gave (value_of new r) (record w { store = s })) (e ∙ sym h.1.store)),
  h.1.lies,
  h.1.extends,
)
text_placed t own old new (Err (Raises cause)) h =
    (subst (Throws (λ w. within t w) old) (sym h.1) ((λ w e. ap (λ b. cond b (too_long w) (gave (pure.Str t) w)) (lt-ltb max_length (length t) h.0)), tt), h.2)
text_placed t own old new (Err NoMemory) h = h

-- bytes are placed
pub bytes_placed : (bs : List ℕ) (own : ℕ) (old new : Memory) (r : Result Ref Fault) → PlacesBytes bs old new r → Answers (λ w. bytes_within bs w) own old new (placed_of r)
bytes_placed bs own old new (Ok r) h = (
  (λ w e o.
      ap (λ b. cond b (too_long w) (gave (pure.Bytes bs) w)) (le-ltb max_length (length bs) h.0)
      ∙ ap (λ v. gave v w) (sym h.1.denotes)
      ∙ ap (λ s. gave (value_of new r) (record w { store = s })) (e ∙ sym h.1.store)),
  h.1.lies,
  h.1.extends,
)
bytes_placed bs own old new (Err (Raises cause)) h =
    (subst (Throws (λ w. bytes_within bs w) old) (sym h.1) ((λ w e. ap (λ b. cond b (too_long w) (gave (pure.Bytes bs) w)) (lt-ltb max_length (length bs) h.0)), tt), h.2)
bytes_placed bs own old new (Err NoMemory) h = h

-- ---- texts that are joined

pub joins_items : (s : pure.Text) (u : pure.Value) (m : Memory) (vs : List pure.Value) (r : Result Gathered Fault) → ((w : World) → w.store ≡ m.store → texts_in u w ≡ Some vs) → Joins (joined_texts s vs) m r → JoinsItems (pure.Str s) u m r
joins_items s u m vs (Ok t) h j = λ w e. ap (λ o. joins_texts (pure.Str s) o w) (h w e) ∙ ap (λ o. text_made o w) j
joins_items s u m vs (Err (Raises cause)) h j = ((λ w e. ap (λ o. joins_texts (pure.Str s) o w) (h w e) ∙ j.0 w e), j.1)
joins_items s u m vs (Err NoMemory) h j = tt

-- there is no text
pub not_joined : (v u : pure.Value) (own : ℕ) (m : Memory) (fault : Fault) → JoinsItems v u m (Err fault) → Answers (λ w. joins_texts v (texts_in u w) w) own m m (Err fault)
not_joined v u own m (Raises cause) h = (h, refl)
not_joined v u own m NoMemory h = refl

-- a text that is too long for a str
pub past_the_most : (made : Option pure.Text) (t : pure.Text) (m : Memory) → made ≡ Some t → max_length < length t → Throws (λ w. text_made made w) m TooLong
past_the_most made t m e l = ((λ w s. ap (λ o. text_made o w) e ∙ ap (λ b. cond b (too_long w) (gave (pure.Str t) w)) (lt-ltb max_length (length t) l)), tt)

-- what is no str among them
pub no_text_made : (made : Option pure.Text) (m : Memory) → made ≡ None → Throws (λ w. text_made made w) m WrongType
no_text_made made m e = ((λ w s. ap (λ o. text_made o w) e), tt)

-- a str that is not encoded
pub not_encoded : (v : pure.Value) (own : ℕ) (m : Memory) (fault : Fault) → IsTextOf v (Err fault) → Answers (λ w. encodes v w) own m m (Err fault)
not_encoded v own m (Raises cause) h = (subst (Throws (λ w. encodes v w) m) (sym h.1) ((λ w e. encodes_nothing v w h.0), tt), refl)
not_encoded v own m NoMemory h = refl
