-- The shared actions by which requests are made.
use Rattle.si_semantics.specs.World as language
use Rattle.si_semantics.specs.Actions as shared
use Rattle.si_semantics.specs.Actions.{Action}

-- the shared action by which a request is made: `exec` and a thread start a run and await its end; what a queue is asked of
-- its items is its size
abbrev pub action_of : language.Request → Action
action_of language.Create = shared.Create
action_of (language.CreateQueue m) = shared.CreateQueue m
action_of (language.Put q p) = shared.Put q p
action_of (language.PutNow q p) = shared.PutNow q p
action_of (language.Get q) = shared.Get q
action_of (language.GetNow q) = shared.GetNow q
action_of (language.Size q) = shared.Size q
action_of (language.IsEmpty q) = shared.Size q
action_of (language.IsFull q m) = shared.Size q
action_of (language.Prepare i bs) = shared.Prepare i bs
action_of (language.Exec i text) = shared.Start i text
action_of (language.AwaitExec r) = shared.Await r
action_of (language.StartThread x i text) = shared.Start i text
action_of (language.JoinThread r) = shared.Await r
action_of language.ListAll = shared.ListAll
action_of (language.IsRunning i) = shared.IsRunning i
action_of (language.Close i) = shared.Close i
