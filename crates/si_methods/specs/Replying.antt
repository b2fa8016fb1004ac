-- What an answer makes of a request in an arena, by the definition, which says it of a world. The world's objects are those of
-- the arena.
use Rattle.std.specs.Prelude.{◌≡◌, Option, Some, Result, Ok, Err, codes, length, nat_lt, if◌then◌else◌}
use Rattle.std.specs.declared.alloc.AllocError.{AllocError}
use Rattle.si_plain.specs.declared.kind.Kind.{Kind}
use Rattle.si_plain.specs.declared.kind.Kind.TheVariants.{OverflowError}
use Rattle.si_semantics.specs.Value as pure
use Rattle.si_semantics.specs.Text.{max_length}
use Rattle.si_semantics.specs.World as world
use Rattle.si_semantics.specs.World.{World, Request}
use Rattle.si_semantics.specs.Replies.{reply}
use Rattle.si_semantics.specs.Actions.{Answer, Action}
use Rattle.si_arena.specs.declared.object.Object.{Object}
use Rattle.si_arena.specs.declared.value.Ref.{Ref}
use Rattle.si_arena.specs.Memory.{Memory, value_of, object_of, Lies, ObjectLies, Extends}
use Rattle.si_parcel.specs.Shared as parcel
use Rattle.si_methods.specs.declared.request.Awaited.{Awaited}
use Rattle.si_methods.specs.declared.replying.Replied.{Replied}
use Rattle.si_methods.specs.declared.replying.Replied.TheVariants.{Got, Failed, Wants}
use Rattle.si_methods.specs.Requests.{action_of}
use Rattle.si_methods.specs.Kept.{awaited_of, AwaitedLies}
use Rattle.si_methods.specs.Given.{answer_in}
use Rattle.si_methods.specs.Needing.{TakesRoom}

-- what an answer makes of each request of which this is kept, in each world with the arena's objects
abbrev pub Makes : Awaited → Answer → Memory → (World → world.Replied) → Type 0
Makes kept answer m x = (q : Request) → awaited_of q ≡ kept → (w : World) → w.store ≡ m.store → reply q (answer_in answer) w ≡ x w

-- the exception of a kind with a message; where the message is too long for a str, that is said in its place
abbrev pub exception_of : Kind → pure.Text → pure.Object
exception_of k t = if nat_lt max_length (length t) then pure.Exception OverflowError (Some (pure.Str (codes "too long"))) else pure.Exception k (Some (pure.Str t))

-- an exception is there, but not among the objects yet; what lay in the arena lies there and denotes what it did
pub record IsThere (o : pure.Object) (old new : Memory) (object : Object) : Type 0 where
  pub denotes : object_of new object ≡ o
  pub lies : ObjectLies new object
  pub extends : Extends old new
  pub store : new.store ≡ old.store

-- the exception of a kind with a message; where memory is refused the arena is as it was
abbrev pub MakesException : Kind → pure.Text → Memory → Memory → Result Object AllocError → Type 0
MakesException k t old new (Ok object) = IsThere (exception_of k t) old new object
MakesException k t old new (Err refused) = new ≡ old

-- it makes an exception: that of the object, by its kind and argument
pub record MakesFailed (kept : Awaited) (answer : Answer) (old new : Memory) (object : Object) : Type 0 where
  pub kind : Kind
  pub argument : Option pure.Value
  pub there : IsThere (pure.Exception kind argument) old new object
  pub makes : Makes kept answer old (world.Failed kind argument)

-- it makes a further request: it is made by this action, and this is kept of it
pub record MakesRequest (kept : Awaited) (answer : Answer) (m : Memory) (more : Awaited) (action : Action) : Type 0 where
  pub request : Request
  pub makes : Makes kept answer m (world.Wants request)
  pub made_by : action_of request ≡ action
  pub kept_is : awaited_of request ≡ more
  pub lies : AwaitedLies m more

-- an answer makes a value, which lies in the arena, with the objects that the arena has then; an exception; or a further
-- request, and the arena is as it was. Memory is refused only where it takes any: then what lay in the arena lies there and
-- denotes what it did, and no object was changed or made
abbrev pub Replies : Awaited → Answer → Memory → Memory → Result Replied AllocError → Type 0
Replies kept answer old new (Ok (Got r)) =
    Makes kept answer old (λ w. world.Got (value_of new r) (record w { store = new.store })) × Lies new r × Extends old new
Replies kept answer old new (Ok (Failed object)) = MakesFailed kept answer old new object
Replies kept answer old new (Ok (Wants more action)) = MakesRequest kept answer old more (parcel.action_of action) × (new ≡ old)
Replies kept answer old new (Err refused) = Extends old new × (new.store ≡ old.store) × TakesRoom kept answer

-- an exception, and a value, unless memory was refused for it
abbrev pub failed_of : Result Object AllocError → Result Replied AllocError
failed_of (Ok object) = Ok (Failed object)
failed_of (Err refused) = Err refused

abbrev pub received_of : Result Ref AllocError → Result Replied AllocError
received_of (Ok r) = Ok (Got r)
received_of (Err refused) = Err refused
