-- How a call of a method goes over an arena, by its definition, which says what it does in a world. The world's objects are
-- those of the arena, and its number that of the interpreter.
use Rattle.std.specs.Prelude.{◌≡◌, ℕ, Result, Ok, Err}
use Rattle.si_semantics.specs.World.{World, Ran, Asked, Request}
use Rattle.si_semantics.specs.Operations.{gave}
use Rattle.si_semantics.specs.Actions as shared
use Rattle.si_arena.specs.declared.value.Ref.{Ref}
use Rattle.si_arena.specs.declared.cause.Cause.{Cause}
use Rattle.si_arena.specs.declared.cause.Fault.{Fault}
use Rattle.si_arena.specs.declared.cause.Fault.TheVariants.{Raises, NoMemory}
use Rattle.si_arena.specs.Memory.{Memory, value_of, Lies, Extends}
use Rattle.si_parcel.specs.Shared as parcel
use Rattle.si_ops.specs.declared.lack.Lack.{Lack}
use Rattle.si_ops.specs.declared.lack.Lack.TheVariants as lack
use Rattle.si_ops.specs.Runs.{Throws, MissesKey}
use Rattle.si_methods.specs.declared.request.Awaited.{Awaited}
use Rattle.si_methods.specs.declared.request.Answered.{Answered}
use Rattle.si_methods.specs.declared.request.Answered.TheVariants.{Value, Asks, NoKey}
use Rattle.si_methods.specs.Requests.{action_of}
use Rattle.si_methods.specs.Kept.{awaited_of, AwaitedLies}

-- the call asks a request and changes nothing: it is made by this action, and this is kept of it
pub record Requests (f : World → Ran) (m : Memory) (kept : Awaited) (action : shared.Action) : Type 0 where
  pub request : Request
  pub asks : (w : World) → w.store ≡ m.store → f w ≡ Asked request w
  pub made_by : action_of request ≡ action
  pub kept_is : awaited_of request ≡ kept
  pub lies : AwaitedLies m kept

-- a call of the interpreter of this number gives a value, which lies in the arena, and changes nothing but the world's
-- objects: they are those of the arena after it; or it asks a request, or misses a key, or raises, or memory is refused, and
-- then the arena is as it was
abbrev pub Answers : (World → Ran) → ℕ → Memory → Memory → Result Answered Fault → Type 0
Answers f own old new (Ok (Value r)) =
    ((w : World) → w.store ≡ old.store → w.own ≡ own → f w ≡ gave (value_of new r) (record w { store = new.store })) × Lies new r × Extends old new
Answers f own old new (Ok (Asks kept action)) = Requests f old kept (parcel.action_of action) × (new ≡ old)
Answers f own old new (Ok (NoKey key)) = MissesKey f old (value_of old key) × Lies old key × (new ≡ old)
Answers f own old new (Err (Raises cause)) = Throws f old cause × (new ≡ old)
Answers f own old new (Err NoMemory) = new ≡ old

-- what a call gives that takes no memory
abbrev pub told_of : Result Answered Cause → Result Answered Fault
told_of (Ok answered) = Ok answered
told_of (Err cause) = Err (Raises cause)

-- a key that is not there, or why it raises
abbrev pub lacking_of : Ref → Lack → Result Answered Cause
lacking_of key (lack.Raises cause) = Err cause
lacking_of key lack.NoKey = Ok (NoKey key)

-- a value, unless there is none
abbrev pub placed_of : Result Ref Fault → Result Answered Fault
placed_of (Ok r) = Ok (Value r)
placed_of (Err fault) = Err fault
