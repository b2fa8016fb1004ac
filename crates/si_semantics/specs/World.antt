-- What the scripts of one interpreter see and change, and what it asks of others (this project's own).
use Rattle.std.specs.Prelude.{codes, ℕ, Bool, List, [], ◌∷◌, Option, Some, None, if◌then◌else◌}
use Rattle.si_plain.specs.declared.kind.Kind.{Kind}
use Rattle.si_semantics.specs.Value.{Text, Value, Str, Object}
use Rattle.si_semantics.specs.Parcels.{Tree}
use Rattle.si_semantics.specs.Tree.{Module}
use Rattle.si_semantics.specs.Text.{same_text}

-- the names of the module `__main__`, and their values (Language Reference, 4.2)
abbrev pub Globals : Type 0
Globals = Text → Option Value

-- what a script sees and changes: the number of its interpreter, its globals, and the objects that it made, in order
pub record World : Type 0 where
  pub own : ℕ
  pub globals : Globals
  pub store : List Object

-- how a run ended: at its end, or left by an exception of a kind with a message
pub data Outcome : Type 0 where
  Returned : Outcome
  Raised : Kind → Text → Outcome

-- a call that only others can answer (PEP 734, "Interpreter Objects" and "Queue Objects"). Interpreters, queues and runs go by
-- their numbers, and values as the parcels of which they are copies.
pub data Request : Type 0 where
  -- a new interpreter
  Create : Request
  -- a new queue of at most so many items, 0 for no bound
  CreateQueue : (maxsize : ℕ) → Request
  -- a parcel at the end of a queue, where there is room: Put waits for it, PutNow does not
  Put : (queue : ℕ) → Tree → Request
  PutNow : (queue : ℕ) → Tree → Request
  -- the first item of a queue, where there is one: Get waits for it, GetNow does not
  Get : (queue : ℕ) → Request
  GetNow : (queue : ℕ) → Request
  -- how many items a queue has; whether it has none; whether it has as many as it may have
  Size : (queue : ℕ) → Request
  IsEmpty : (queue : ℕ) → Request
  IsFull : (queue maxsize : ℕ) → Request
  -- names to bind in another interpreter
  Prepare : (interpreter : ℕ) → List (Text × Tree) → Request
  -- a run of this text, and then its end
  Exec : (interpreter : ℕ) → Text → Request
  AwaitExec : (run : ℕ) → Request
  -- the same by a thread, an object: it is started, and then joined
  StartThread : (thread interpreter : ℕ) → Text → Request
  JoinThread : (run : ℕ) → Request
  -- the interpreters that are not closed
  ListAll : Request
  IsRunning : (interpreter : ℕ) → Request
  Close : (interpreter : ℕ) → Request

-- what an interpreter is given to do: names to bind, a text to run (None: it is not read), or to close
pub data Job : Type 0 where
  Bind : List (Text × Value) → Job
  Run : Option Module → Job
  Closing : Job

-- what others answer to an action, with values in the place of parcels
pub data Answer : Type 0 where
  Taken : Job → Answer
  Done : Answer
  -- there are as many as the limits allow
  Limit : Answer
  -- the number of what was made or started
  Created : (interpreter : ℕ) → Answer
  QueueMade : (queue : ℕ) → Answer
  Started : (run : ℕ) → Answer
  Full : Answer
  Empty : Answer
  Item : Value → Answer
  Count : ℕ → Answer
  Ids : List ℕ → Answer
  -- why nothing is done with an interpreter: it is closed, runs, is the one that asks, or is the main one
  NotFound : Answer
  Running : Answer
  Current : Answer
  Main : Answer
  -- how the run ended
  Ended : Outcome → Answer
  Truth : Bool → Answer

-- how an operation goes: a value and perhaps a text that it prints, an exception by its kind and argument, or a request
pub data Ran : Type 0 where
  Gave : Value → Option Text → World → Ran
  Threw : Kind → Option Value → World → Ran
  Asked : Request → World → Ran

-- what an answer makes of a request: a value, an exception, or a further request
pub data Replied : Type 0 where
  Got : Value → World → Replied
  Failed : Kind → Option Value → World → Replied
  Wants : Request → World → Replied

-- no name is bound
abbrev pub nothing_bound : Globals
nothing_bound y = None

-- a name is bound to a value, the others are as they were (Language Reference, 4.2.1)
abbrev pub bind : Text → Value → Globals → Globals
bind x v g = λ y. if same_text x y then Some v else g y

-- a name is not bound any more, the others are as they were
abbrev pub unbind : Text → Globals → Globals
unbind x g = λ y. if same_text x y then None else g y

-- names are bound in order
abbrev pub bind_all : List (Text × Value) → Globals → Globals
bind_all [] g = g
bind_all (b ∷ bs) g = bind_all bs (bind b.0 b.1 g)

-- a name is bound in a world
abbrev pub set_global : Text → Value → World → World
set_global x v w = record w { globals = bind x v w.globals }

-- a name is unbound in a world
abbrev pub unset_global : Text → World → World
unset_global x w = record w { globals = unbind x w.globals }

-- as the interpreter of a number begins, `__name__` alone is bound (Language Reference, 9.1)
abbrev pub first_world : ℕ → World
first_world own = record { own = own; globals = bind (codes "__name__") (Str (codes "__main__")) nothing_bound; store = [] }
