-- What is kept of a request to understand its answer (this project's own).
use Rattle.std.specs.Prelude.{◌<◌, length}
use Rattle.si_semantics.specs.World as world
use Rattle.si_semantics.specs.World.{Request}
use Rattle.si_arena.specs.Memory.{Memory}
use Rattle.si_methods.specs.declared.request.Awaited.{Awaited}
use Rattle.si_methods.specs.declared.request.Awaited.TheVariants as awaited

-- what is kept of a request: neither a parcel, nor a text, nor the number of a queue or a run
abbrev pub awaited_of : Request → Awaited
awaited_of world.Create = awaited.Create
awaited_of (world.CreateQueue m) = awaited.CreateQueue m
awaited_of (world.Put q p) = awaited.Put
awaited_of (world.PutNow q p) = awaited.PutNow
awaited_of (world.Get q) = awaited.Get
awaited_of (world.GetNow q) = awaited.GetNow
awaited_of (world.Size q) = awaited.Size
awaited_of (world.IsEmpty q) = awaited.IsEmpty
awaited_of (world.IsFull q m) = awaited.IsFull m
awaited_of (world.Prepare i bs) = awaited.Prepare i
awaited_of (world.Exec i text) = awaited.Exec i
awaited_of (world.AwaitExec r) = awaited.AwaitExec
awaited_of (world.StartThread x i text) = awaited.StartThread x i
awaited_of (world.JoinThread r) = awaited.JoinThread
awaited_of world.ListAll = awaited.ListAll
awaited_of (world.IsRunning i) = awaited.IsRunning i
awaited_of (world.Close i) = awaited.Close i

-- the thread of which is kept that it is started has an address in the arena
abbrev pub AwaitedLies : Memory → Awaited → Type 0
AwaitedLies m (awaited.StartThread x i) = x < length m.store
AwaitedLies m _ = Unit {0}
