-- What an answer makes of a request (PEP 734, "Interpreter Objects" and "Queue Objects"; which kind is raised, and its message,
-- is this project's own).
use Rattle.std.specs.Prelude.{codes, ℕ, ℤ, pos, Result, Ok, Err, List, [], ◌∷◌, ◌++◌, length, map, Bool, not, ◌&&◌, Some, nat_eq, nat_le, nat_lt, slice_set, if◌then◌else◌}
use Rattle.si_plain.specs.declared.kind.Kind.{Kind}
use Rattle.si_plain.specs.declared.kind.Kind.TheVariants.{OverflowError, RuntimeError, InterpreterError, InterpreterNotFoundError, ExecutionFailed, QueueEmpty, QueueFull}
use Rattle.si_plain.specs.Integers.{in_range}
use Rattle.si_semantics.specs.Operations.{arithmetic_message}
use Rattle.si_semantics.specs.Value as value
use Rattle.si_semantics.specs.Value.{Text, Nothing, Int, Str, Queue, Interpreter, Address, Items, Started}
use Rattle.si_semantics.specs.Text.{decimal, max_length, kind_and_message}
use Rattle.si_semantics.specs.World as world
use Rattle.si_semantics.specs.World.{World, Outcome, Returned, Raised, Request, Answer, Replied, Got, Failed, Wants}

-- a call raises an exception with a message; where the message is too long for a str, that is raised in its place
abbrev pub failed : Kind → Text → World → Replied
failed k t w = if nat_lt max_length (length t) then Failed OverflowError (Some (Str (codes "too long"))) w else Failed k (Some (Str t)) w

-- an interpreter is closed, or runs
abbrev pub not_found : ℕ → World → Replied
not_found i w = failed InterpreterNotFoundError (codes "interpreter " ++ (decimal (pos i) ++ codes " not found")) w

abbrev pub is_running : ℕ → World → Replied
is_running i w = failed InterpreterError (codes "interpreter " ++ (decimal (pos i) ++ codes " is running")) w

-- a run has ended that `exec` waits for: the exception by which it was left is told in an ExecutionFailed
abbrev pub executed : Outcome → World → Replied
executed Returned w = Got Nothing w
executed (Raised k message) w = failed ExecutionFailed (kind_and_message k message) w

-- a queue of so many items has as many as it may have
abbrev pub is_full : (maxsize items : ℕ) → Bool
is_full maxsize items = not (nat_eq maxsize 0) && nat_le maxsize items

-- how many items there are; a number past 64 bits is refused as one that is computed
abbrev pub counted : Result ℤ Kind → World → Replied
counted (Ok n) w = Got (Int n) w
counted (Err k) w = failed k (arithmetic_message k) w

-- a thread is started, by its run
abbrev pub with_run : (thread run : ℕ) → World → World
with_run x r w = record w { store = slice_set w.store x (Started r) }

-- a new list of interpreters
abbrev pub listed : List ℕ → World → Replied
listed ids w = Got (Address (length w.store)) (record w { store = w.store ++ Items (map Interpreter ids) ∷ [] })

-- what an answer makes of a request; one that does not fit is never given, and would make None
abbrev pub reply : Request → Answer → World → Replied
reply world.Create (world.Created i) w = Got (Interpreter i) w
reply world.Create world.Limit w = failed InterpreterError (codes "too many interpreters") w
reply (world.CreateQueue m) (world.QueueMade q) w = Got (Queue q m) w
reply (world.CreateQueue m) world.Limit w = failed RuntimeError (codes "too many queues") w
reply (world.Put q p) world.Done w = Got Nothing w
reply (world.PutNow q p) world.Done w = Got Nothing w
reply (world.PutNow q p) world.Full w = failed QueueFull (codes "queue is full") w
reply (world.Get q) (world.Item v) w = Got v w
reply (world.GetNow q) (world.Item v) w = Got v w
reply (world.GetNow q) world.Empty w = failed QueueEmpty (codes "queue is empty") w
reply (world.Size q) (world.Count n) w = counted (in_range (pos n)) w
reply (world.IsEmpty q) (world.Count n) w = Got (value.Truth (nat_eq n 0)) w
reply (world.IsFull q m) (world.Count n) w = Got (value.Truth (is_full m n)) w
reply (world.Prepare i bs) world.Done w = Got Nothing w
reply (world.Prepare i bs) world.NotFound w = not_found i w
reply (world.Prepare i bs) world.Running w = is_running i w
reply (world.Exec i text) (world.Started r) w = Wants (world.AwaitExec r) w
reply (world.Exec i text) world.NotFound w = not_found i w
reply (world.Exec i text) world.Running w = is_running i w
reply (world.AwaitExec r) (world.Ended o) w = executed o w
reply (world.StartThread x i text) (world.Started r) w = Got Nothing (with_run x r w)
reply (world.StartThread x i text) world.NotFound w = not_found i w
reply (world.StartThread x i text) world.Running w = is_running i w
reply (world.JoinThread r) (world.Ended o) w = Got Nothing w
reply world.ListAll (world.Ids ids) w = listed ids w
reply (world.IsRunning i) (world.Truth b) w = Got (value.Truth b) w
reply (world.IsRunning i) world.NotFound w = not_found i w
reply (world.Close i) world.Done w = Got Nothing w
reply (world.Close i) world.NotFound w = not_found i w
reply (world.Close i) world.Current w = failed InterpreterError (codes "interpreter is current") w
reply (world.Close i) world.Main w = failed InterpreterError (codes "interpreter is main") w
reply (world.Close i) world.Running w = is_running i w
reply _ _ w = Got Nothing w
