-- How an operation goes over an arena, by its definition, which says what it does in a world. The world's objects are
-- those of the arena.
use Rattle.std.specs.Prelude.{◌≡◌, Bool, Option, Some, None, Result, Ok, Err}
use Rattle.si_plain.specs.declared.kind.Kind.{Kind}
use Rattle.si_plain.specs.declared.kind.Kind.TheVariants.{KeyError, TypeError, RecursionError, ValueError}
use Rattle.si_semantics.specs.Value as pure
use Rattle.si_semantics.specs.World.{World, Ran, Threw}
use Rattle.si_semantics.specs.Operations.{gave, refused}
use Rattle.si_arena.specs.declared.value.Ref.{Ref}
use Rattle.si_arena.specs.declared.cause.Cause.{Cause}
use Rattle.si_arena.specs.declared.cause.Fault.{Fault}
use Rattle.si_arena.specs.declared.cause.Fault.TheVariants.{Raises, NoMemory}
use Rattle.si_ops.specs.declared.lack.Lack.{Lack}
use Rattle.si_ops.specs.declared.lack.Lack.TheVariants as lack
use Rattle.si_ops.specs.declared.refusal.Refusal.{Refusal}
use Rattle.si_ops.specs.declared.refusal.Refusal.TheVariants.{WrongType, TooDeep, WrongValue}
use Rattle.si_arena.specs.Causes.{kind_of, message_of, CauseLies}
use Rattle.si_arena.specs.Memory.{Memory, value_of, Lies, Extends}

-- the operation gives a value, prints nothing and changes nothing
abbrev pub Gives : (World → Ran) → Memory → pure.Value → Type 0
Gives f m v = (w : World) → w.store ≡ m.store → f w ≡ gave v w

-- the operation raises an exception of the cause's kind with its message, and changes nothing else
abbrev pub Throws : (World → Ran) → Memory → Cause → Type 0
Throws f m cause = ((w : World) → w.store ≡ m.store → f w ≡ refused (kind_of cause) (message_of m.names cause) w) × CauseLies m.names cause

-- a key is not there: it is the argument of a KeyError, and nothing else is changed
abbrev pub MissesKey : (World → Ran) → Memory → pure.Value → Type 0
MissesKey f m v = (w : World) → w.store ≡ m.store → f w ≡ Threw KeyError (Some v) w

-- what a comparison gives; where it gives nothing its operands are of a wrong kind
abbrev pub answer_of : Option Bool → Result Bool Kind
answer_of (Some b) = Ok b
answer_of None = Err TypeError

-- the kind of the exception with which a comparison refuses
abbrev pub kind_refused : Refusal → Result Bool Kind
kind_refused WrongType = Err TypeError
kind_refused TooDeep = Err RecursionError
kind_refused WrongValue = Err ValueError

-- what a comparison gives, or why it refuses
abbrev pub decided : Result Bool Refusal → Result Bool Kind
decided (Ok b) = Ok b
decided (Err refusal) = kind_refused refusal

-- an operation that takes no memory: a truth, or why it raises
abbrev pub Decides : (World → Ran) → Memory → Result Bool Cause → Type 0
Decides f m (Ok b) = Gives f m (pure.Truth b)
Decides f m (Err cause) = Throws f m cause

-- an operation that takes no memory: a value, which lies in the arena, or why it raises
abbrev pub Tells : (World → Ran) → Memory → Result Ref Cause → Type 0
Tells f m (Ok r) = Gives f m (value_of m r) × Lies m r
Tells f m (Err cause) = Throws f m cause

-- the same with an index, which may be a key that is not there
abbrev pub Finds : (World → Ran) → (index : pure.Value) → Memory → Result Ref Lack → Type 0
Finds f v m (Ok r) = Gives f m (value_of m r) × Lies m r
Finds f v m (Err (lack.Raises cause)) = Throws f m cause
Finds f v m (Err lack.NoKey) = MissesKey f m v

-- an operation that may place its value: that, which lies in the arena, with the objects as they were; or why it
-- raises, or memory is refused, and then the arena is as it was
abbrev pub Runs : (World → Ran) → Memory → Memory → Result Ref Fault → Type 0
Runs f old new (Ok r) = Gives f old (value_of new r) × Lies new r × Extends old new × (new.store ≡ old.store)
Runs f old new (Err (Raises cause)) = Throws f old cause × (new ≡ old)
Runs f old new (Err NoMemory) = new ≡ old
