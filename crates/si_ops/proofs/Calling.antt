-- Calls that go as their definitions.
use Rattle.std.proofs.Common.{◌≡◌, ℕ, ◌+◌, ◌<◌, ◌≤◌, List, [], ◌∷◌, length, get_or, Bool, true, false, cond, Result, Ok, Err, refl, sym, ap, subst, ◌∙◌, arith, nat_lt, lt-ltb, le-ltb, leb-true, ◌≢◌, ℤ}
use Rattle.std.specs.declared.string.String.{String}
use Rattle.std.specs.String.{string_bytes, string_len, string_capacity}
use Rattle.si_plain.specs.declared.kind.Kind.{Kind}
use Rattle.si_plain.specs.declared.kind.Kind.TheVariants.{OverflowError, RecursionError}
use Rattle.si_semantics.specs.Value as pure
use Rattle.si_semantics.specs.World.{World, Ran}
use Rattle.si_semantics.specs.Text.{Written, Whole, Broken, written, max_length, max_nested, decimal, str_of, repr_of}
use Rattle.si_semantics.specs.Operations.{gave, text, call_built_in}
use Rattle.si_arena.specs.declared.value.Ref.{Ref}
use Rattle.si_arena.specs.declared.cause.Cause.{Cause}
use Rattle.si_arena.specs.declared.cause.Cause.TheVariants.{Arithmetic, TooLong, WrongType, NotCallable, WrongArguments, TooDeep, NoneActive, Outside, SizeChanged, NotDefined, NotBound, NoAttribute, Refused}
use Rattle.si_arena.specs.declared.cause.Fault.{Fault}
use Rattle.si_arena.specs.declared.cause.Fault.TheVariants.{Raises, NoMemory}
use Rattle.si_arena.specs.Memory.{Memory, value_of, all_of, Lies, PlacesText}
use Rattle.si_arena.specs.declared.view.View.{View}
use Rattle.si_arena.specs.declared.view.View.TheVariants as view
use Rattle.si_arena.specs.Views.{value_in}
use Rattle.si_arena.proofs.Lying.{extends_same}
use Rattle.si_ops.specs.declared.calls.Called.{Called}
use Rattle.si_ops.specs.declared.calls.Called.TheVariants.{Value}
use Rattle.si_ops.specs.Runs.{Throws, Tells, Runs}
use Rattle.si_ops.specs.Writing.{Appends, IsUnwritten}
use Rattle.si_ops.specs.Operands.{IsTold}
use Rattle.si_ops.specs.Calls.{Makes, Calls, IsSaid, call_of}
use Rattle.si_ops.specs.inner.Written.{is_own_str}

-- ---- how many arguments

one_of : (xs : List Ref) (d : Ref) → 1 ≤ length xs → length xs < 2 → xs ≡ get_or xs 0 d ∷ []
one_of [] d p q = absurd (omega arith)
one_of (x ∷ []) d p q = refl
one_of (x ∷ y ∷ xs) d p q = absurd (omega arith)

-- the values of one argument
pub sole : (m : Memory) (xs : List Ref) (r : Ref) → 1 ≤ length xs → length xs < 2 → r ≡ get_or xs 0 r → all_of m xs ≡ value_of m r ∷ []
sole m xs r p q e = ap (all_of m) (one_of xs r p q) ∙ ap (λ x. value_of m x ∷ []) (sym e)

-- ---- what makes no object

-- an operation that may place its value makes no object
pub makes_runs : (f : World → Ran) (old new : Memory) (r : Result Ref Fault) → Runs f old new r → Makes f old new r
makes_runs f old new (Ok r) h = ((λ w e. h.0 w e ∙ ap (λ s. gave (value_of new r) (record w { store = s })) (e ∙ sym h.3)), h.1, h.2)
makes_runs f old new (Err (Raises cause)) h = h
makes_runs f old new (Err NoMemory) h = h

pub calls_ok : {Z : Type 0} (f : World → Ran) (old new : Memory) (s t : String Z) (r : Ref) → Runs f old new (Ok r) → string_bytes t ≡ string_bytes s → Calls f old new s t (Ok (Value r))
calls_ok f old new s t r h e = (makes_runs f old new (Ok r) h, e)

pub calls_err : {Z : Type 0} (f : World → Ran) (old new : Memory) (s t : String Z) (fault : Fault) → Runs f old new (Err fault) → string_bytes t ≡ string_bytes s → Calls f old new s t (Err fault)
calls_err f old new s t fault h e = (makes_runs f old new (Err fault) h, e)

-- a call that makes an object, or not
pub calls_failed : {Z : Type 0} (f : World → Ran) (old new : Memory) (s t : String Z) (fault : Fault) → Makes f old new (Err fault) → string_bytes t ≡ string_bytes s → Calls f old new s t (Err fault)
calls_failed f old new s t fault h e = (h, e)

-- what takes no memory makes no object
pub calls_told : {Z : Type 0} (f : World → Ran) (m : Memory) (s : String Z) (answer : Result Ref Cause) (r : Result Called Fault) → r ≡ call_of answer → Tells f m answer → Calls f m m s s r
calls_told f m s answer r e h = subst (λ x. Calls f m m s s x) (sym e) (by answer h)
  where
    by : (answer : Result Ref Cause) → Tells f m answer → Calls f m m s s (call_of answer)
    by (Ok v) h = calls_ok f m m s s v (h.0, h.1, extends_same m, refl) refl
    by (Err cause) h = ((h, refl), refl)

-- memory that was not refused for a value was not refused for the call
pub said_of : (fault : Fault) → IsTold (Err fault) → IsSaid (Err fault)
said_of (Raises cause) h = tt
said_of NoMemory h = h

-- ---- texts

short_enough : (w : Written) (t : pure.Text) → written w ≡ Ok t → nat_lt max_length (length t) ≡ false
short_enough (Whole s) t e = by (nat_lt max_length (length s)) refl e
  where
    by : (b : Bool) → nat_lt max_length (length s) ≡ b → ◌≡◌ {A = Result pure.Text Kind} (cond b (Err OverflowError) (Ok s)) (Ok t) → nat_lt max_length (length t) ≡ false
    by true h e = cc
    by false h e = let same : s ≡ t = cc in ap (λ x. nat_lt max_length (length x)) (sym same) ∙ h
short_enough (Broken s) t e = by (nat_lt max_length (length s)) e
  where
    by : (b : Bool) → ◌≡◌ {A = Result pure.Text Kind} (cond b (Err OverflowError) (Err RecursionError)) (Ok t) → nat_lt max_length (length t) ≡ false
    by true e = cc
    by false e = cc

-- a text that was written and is placed
pub text_placed : (o : List pure.Object → Written) (t : pure.Text) (old new : Memory) (r : Result Ref Fault) → written (o old.store) ≡ Ok t → PlacesText t old new r → Runs (λ w. text (written (o w.store)) w) old new r
text_placed o t old new (Ok r) is h = (
  (λ w e. ap (λ s. text (written (o s)) w) e ∙ ap (λ p. text p w) is ∙ ap (λ v. gave v w) (sym h.1.denotes)),
  h.1.lies,
  h.1.extends,
  h.1.store,
)
text_placed o t old new (Err (Raises cause)) is h =
    let long : nat_lt max_length (length t) ≡ true = lt-ltb _ _ h.0 in
    let short = short_enough (o old.store) t is in
    absurd (let no : true ≡ false = sym long ∙ short in cc)
text_placed o t old new (Err NoMemory) is h = h

-- a text that can't be written
pub text_throws : (o : List pure.Object → Written) (m : Memory) (cause : Cause) → IsUnwritten (written (o m.store)) cause → Throws (λ w. text (written (o w.store)) w) m cause
text_throws o m TooDeep h = ((λ w e. ap (λ s. text (written (o s)) w) e ∙ ap (λ p. text p w) h), tt)
text_throws o m TooLong h = ((λ w e. ap (λ s. text (written (o s)) w) e ∙ ap (λ p. text p w) h), tt)
text_throws o m (Arithmetic k) h = absurd h
text_throws o m WrongType h = absurd h
text_throws o m NotCallable h = absurd h
text_throws o m WrongArguments h = absurd h
text_throws o m NoneActive h = absurd h
text_throws o m Outside h = absurd h
text_throws o m SizeChanged h = absurd h
text_throws o m (NotDefined s) h = absurd h
text_throws o m (NotBound s) h = absurd h
text_throws o m (NoAttribute s) h = absurd h
text_throws o m (Refused s) h = absurd h

-- a text that is not too long is written whole
written_whole : (t : pure.Text) → length t ≤ max_length → written (Whole t) ≡ Ok t
written_whole t few = ap (λ b. cond b (Err OverflowError) (Ok t)) (le-ltb max_length (length t) few)

-- the digits of an integer, placed, are its str and its repr
module _ (old new : Memory) (n : ℤ) (r : Result Ref Fault) (few : length (decimal n) ≤ max_length) (h : PlacesText (decimal n) old new r) where
  pub int_str : Runs (λ w. call_built_in pure.MakeStr (pure.Int n ∷ []) w) old new r
  int_str = text_placed (λ s. str_of max_nested s (pure.Int n)) (decimal n) old new r (written_whole (decimal n) few) h

  pub int_repr : Runs (λ w. call_built_in pure.Repr (pure.Int n ∷ []) w) old new r
  int_repr = text_placed (λ s. repr_of max_nested s [] (pure.Int n)) (decimal n) old new r (written_whole (decimal n) few) h

-- a str is its own
own_value : (v : pure.Value) → is_own_str v ≡ true → (w : World) → call_built_in pure.MakeStr (v ∷ []) w ≡ gave v w
own_value (pure.Str s) h w = ap (λ p. text p w) (written_whole s (leb-true (length s) max_length h))
own_value _ h w = cc

pub own_str : (m : Memory) (r : Ref) → Lies m r → is_own_str (value_of m r) ≡ true → Runs (λ w. call_built_in pure.MakeStr (value_of m r ∷ []) w) m m (Ok r)
own_str m r lies h = ((λ w e. own_value (value_of m r) h w), lies, extends_same m, refl)

-- what shows as no str is none
pub no_str_shown : (m : Memory) (v : View) → ((s : _) → v ≢ view.Str s) → false ≡ is_own_str (value_in m v)
no_str_shown m (view.Str s) f = absurd (f s refl)
no_str_shown m _ f = refl

-- what was not added can't be placed
pub text_refused : {Z : Type 0} (U : Type 0) (o : List pure.Object → Written) (longest : List ℕ) (s t : String Z) (m : Memory) (fault : Fault) → Appends {U = U} (written (o m.store)) longest s t (Err fault) → Runs (λ w. text (written (o w.store)) w) m m (Err fault)
text_refused U o longest s t m (Raises cause) h = (text_throws o m cause h.0, refl)
text_refused U o longest s t m NoMemory h = refl

-- a line that there is room for is refused for no memory
pub line_said : {Z : Type 0} (U : Type 0) (p : Result pure.Text Kind) (longest : List ℕ) (s t : String Z) (fault : Fault) → Appends {U = U} p longest s t (Err fault) → string_len s + length longest ≤ string_capacity s → IsSaid (Err fault)
line_said U p longest s t (Raises cause) h l = tt
line_said U p longest s t NoMemory h l = let full = h.0 in absurd (omega (arith, full, l))
