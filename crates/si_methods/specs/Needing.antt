-- Which calls and answers take no memory (this project's own).
use Rattle.std.specs.Prelude.{List, [], ◌∷◌, Result, Ok, Err}
use Rattle.si_semantics.specs.Value as pure
use Rattle.si_semantics.specs.Actions as shared
use Rattle.si_semantics.specs.Actions.{Answer}
use Rattle.si_semantics.specs.Life.{Raised}
use Rattle.si_semantics.specs.Attributes as attributes
use Rattle.si_arena.specs.declared.cause.Fault.{Fault}
use Rattle.si_arena.specs.declared.cause.Fault.TheVariants.{Raises, NoMemory}
use Rattle.si_share.specs.Copies.{NeedsRoom}
use Rattle.si_methods.specs.declared.request.Awaited.{Awaited}
use Rattle.si_methods.specs.declared.request.Awaited.TheVariants as awaited

-- a value whose parcel takes no memory: no str, no bytes and no tuple
abbrev pub IsBare : pure.Value → Type 0
IsBare (pure.Str s) = ⊥
IsBare (pure.Bytes bs) = ⊥
IsBare (pure.Tuple vs) = ⊥
IsBare _ = Unit {0}

abbrev pub AreBare : List pure.Value → Type 0
AreBare [] = Unit {0}
AreBare (v ∷ vs) = IsBare v × AreBare vs

-- a call of a method with these arguments takes no memory: of each but those that make a str, bytes, a thread or an item of a
-- list, and those that send a text, names or an item that takes any to others
abbrev pub TakesNone : attributes.Method → List pure.Value → Type 0
TakesNone attributes.JoinTexts vs = ⊥
TakesNone attributes.Encode vs = ⊥
TakesNone attributes.Append vs = ⊥
TakesNone attributes.MakeThread vs = ⊥
TakesNone attributes.Start vs = ⊥
TakesNone attributes.Execute vs = ⊥
TakesNone attributes.PrepareMain vs = ⊥
TakesNone attributes.Put vs = AreBare vs
TakesNone attributes.PutNow vs = AreBare vs
TakesNone _ vs = Unit {0}

-- memory was not refused
abbrev pub IsRaised : Fault → Type 0
IsRaised (Raises cause) = Unit {0}
IsRaised NoMemory = ⊥

abbrev pub IsTold : {A : Type 0} → Result A Fault → Type 0
IsTold (Ok a) = Unit {0}
IsTold (Err fault) = IsRaised fault

-- what an answer makes of a request takes memory: an item that needs room in the arena, an exception whose message names an
-- interpreter or tells of another exception, and a list of interpreters
abbrev pub TakesRoom : Awaited → Answer → Type 0
TakesRoom awaited.Get (shared.Item p) = NeedsRoom p
TakesRoom awaited.GetNow (shared.Item p) = NeedsRoom p
TakesRoom (awaited.Prepare i) shared.NotFound = Unit {0}
TakesRoom (awaited.Prepare i) shared.Running = Unit {0}
TakesRoom (awaited.Exec i) shared.NotFound = Unit {0}
TakesRoom (awaited.Exec i) shared.Running = Unit {0}
TakesRoom awaited.AwaitExec (shared.Ended (Raised kind message)) = Unit {0}
TakesRoom (awaited.StartThread x i) shared.NotFound = Unit {0}
TakesRoom (awaited.StartThread x i) shared.Running = Unit {0}
TakesRoom awaited.ListAll (shared.Ids ids) = Unit {0}
TakesRoom (awaited.IsRunning i) shared.NotFound = Unit {0}
TakesRoom (awaited.Close i) shared.NotFound = Unit {0}
TakesRoom (awaited.Close i) shared.Running = Unit {0}
TakesRoom _ _ = ⊥
