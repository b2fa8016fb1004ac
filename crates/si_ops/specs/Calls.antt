-- How a call goes over an arena, by its definition, which says what it does in a world. The world's objects are those of
-- the arena, before it and after it.
use Rattle.std.specs.Prelude.{◌≡◌, true, ℕ, ℤ, pos, negsuc, nat_lt, if◌then◌else◌, ◌<◌, ◌≤◌, ◌+◌, List, [], ◌∷◌, ◌++◌, length, Option, Some, None, Result, Ok, Err, encode_utf8_all, slice_get}
use Rattle.std.specs.String.{string_bytes, string_len, string_capacity}
use Rattle.std.specs.declared.string.String.{String}
use Rattle.si_semantics.specs.Value as pure
use Rattle.si_semantics.specs.World.{World, Ran, Gave}
use Rattle.si_semantics.specs.Operations.{gave, integer_in, range_items, items_of_object}
use Rattle.si_semantics.specs.Tuples.{is_too_large, characters_in, numbers_in, integers_in}
use Rattle.si_arena.specs.declared.value.Ref.{Ref}
use Rattle.si_arena.specs.declared.object.Steps.{Steps}
use Rattle.si_plain.specs.declared.kind.Kind.{Kind}
use Rattle.si_plain.specs.declared.kind.Kind.TheVariants.{ValueError}
use Rattle.si_arena.specs.declared.cause.Cause.{Cause}
use Rattle.si_arena.specs.declared.cause.Cause.TheVariants.{Arithmetic}
use Rattle.si_arena.specs.declared.cause.Fault.{Fault}
use Rattle.si_arena.specs.declared.cause.Fault.TheVariants.{Raises, NoMemory}
use Rattle.si_arena.specs.Memory.{Memory, value_of, range_of, Lies, Extends}
use Rattle.si_ops.specs.Runs.{Throws}
use Rattle.si_ops.specs.Writing.{line_bytes}
use Rattle.si_ops.specs.declared.calls.Called.{Called}
use Rattle.si_ops.specs.declared.calls.Called.TheVariants.{Value, Printed}

-- the call gives a value, prints nothing, and changes nothing but the world's objects: they are those of the arena after
-- it
abbrev pub GivesAnew : (World → Ran) → Memory → Memory → pure.Value → Type 0
GivesAnew f old new v = (w : World) → w.store ≡ old.store → f w ≡ gave v (record w { store = new.store })

-- the call gives None, prints a text and changes nothing else
abbrev pub Prints : (World → Ran) → Memory → pure.Text → Type 0
Prints f m t = (w : World) → w.store ≡ m.store → f w ≡ Gave pure.Nothing (Some t) w

-- an operation that may place its value or make an object: the value, which lies in the arena; or why it raises, or
-- memory is refused, and then the arena is as it was
abbrev pub Makes : (World → Ran) → Memory → Memory → Result Ref Fault → Type 0
Makes f old new (Ok r) = GivesAnew f old new (value_of new r) × Lies new r × Extends old new
Makes f old new (Err (Raises cause)) = Throws f old cause × (new ≡ old)
Makes f old new (Err NoMemory) = new ≡ old

-- a call that may also print: then the text is added to a line, whose text is else as it was, and the arena is as it was
abbrev pub Calls : {Z : Type 0} → (World → Ran) → Memory → Memory → String Z → String Z → Result Called Fault → Type 0
Calls f old new line more (Ok (Value r)) = Makes f old new (Ok r) × (string_bytes more ≡ string_bytes line)
Calls f old new line more (Ok Printed) = (t : pure.Text) × Prints f old t × (new ≡ old) × (string_bytes more ≡ string_bytes line ++ encode_utf8_all t)
Calls f old new line more (Err fault) = Makes f old new (Err fault) × (string_bytes more ≡ string_bytes line)

-- what a call that prints nothing makes of a value, or of why there is none
abbrev pub call_of : Result Ref Cause → Result Called Fault
call_of (Ok r) = Ok (Value r)
call_of (Err cause) = Err (Raises cause)

-- a character, whose str is the value, or why it raises
abbrev pub Spells : (World → Ran) → Memory → Result ℕ Cause → Type 0
Spells f m (Ok c) = (w : World) → f w ≡ gave (pure.Str (c ∷ [])) w
Spells f m (Err cause) = Throws f m cause

-- the integers of a range, or why it raises
abbrev pub Spans : (World → Ran) → Memory → Result Steps Cause → Type 0
Spans f m (Ok steps) = (w : World) → f w ≡ gave (range_of steps) w
Spans f m (Err cause) = Throws f m cause

-- an integer from 0 to 255 as a byte
abbrev pub byte_of : ℤ → Option ℕ
byte_of (pos n) = if nat_lt n 256 then Some n else None
byte_of (negsuc n) = None

-- a sum, where it is no integer of 64 bits -1
abbrev pub StepsTo : Result ℤ Kind → ℤ → Type 0
StepsTo (Ok sum) n = n ≡ sum
StepsTo (Err k) n = n ≡ negsuc 0

-- there are no bytes: ValueError; or memory was refused
abbrev pub IsRefusal : Fault → Option (List ℕ) → Type 0
IsRefusal (Raises cause) made = (made ≡ None) × (cause ≡ Arithmetic ValueError)
IsRefusal NoMemory made = Unit {0}

-- what `chr` makes a str of is below 256, or no number of a character
abbrev pub IsByte : Option ℤ → Type 0
IsByte (Some (pos n)) = n < 256
IsByte _ = Unit {0}

-- what `chr` is called with needs no memory
abbrev pub AreBytes : List pure.Value → Type 0
AreBytes (v ∷ []) = IsByte (integer_in v)
AreBytes _ = Unit {0}

-- what `tuple` is called with needs no memory: it is no list and no dict and has too many items for a tuple, or it is one, or
-- it can't be made one
abbrev pub NeedsNoTuple : List pure.Object → List pure.Value → Type 0
NeedsNoTuple store (pure.Str s ∷ []) = is_too_large (pure.tuple_of (characters_in s)) ≡ true
NeedsNoTuple store (pure.Bytes bs ∷ []) = is_too_large (pure.tuple_of (numbers_in bs)) ≡ true
NeedsNoTuple store (pure.Range a b c ∷ []) = is_too_large (pure.tuple_of (integers_in (range_items a b c))) ≡ true
NeedsNoTuple store (pure.Address x ∷ []) = items_of_object (slice_get store x) ≡ None
NeedsNoTuple store _ = Unit {0}

-- no memory is needed for a call: of what can't be called, of `print` where the line has room for what it prints, of
-- `chr` for a character below 256, of `tuple` where that makes none, and of what else makes no str, no bytes, no range, no
-- list and no exception
abbrev pub NeedsNone : {Z : Type 0} → Memory → String Z → pure.Value → List pure.Value → Type 0
NeedsNone m line (pure.Provided pure.Print) vs = string_len line + length (line_bytes m.store vs) ≤ string_capacity line
NeedsNone m line (pure.Provided pure.MakeRange) vs = ⊥
NeedsNone m line (pure.Provided pure.MakeStr) vs = ⊥
NeedsNone m line (pure.Provided pure.Repr) vs = ⊥
NeedsNone m line (pure.Provided pure.Chr) vs = AreBytes vs
NeedsNone m line (pure.Provided pure.MakeBytes) vs = ⊥
NeedsNone m line (pure.Provided pure.MakeTuple) vs = NeedsNoTuple m.store vs
NeedsNone m line (pure.Provided pure.MakeList) vs = ⊥
NeedsNone m line (pure.Provided b) vs = Unit {0}
NeedsNone m line (pure.Class k) vs = ⊥
NeedsNone m line v vs = Unit {0}

-- memory was not refused
abbrev pub IsSaid : Result Called Fault → Type 0
IsSaid (Err NoMemory) = ⊥
IsSaid _ = Unit {0}
