-- What is kept of a request says what an answer makes of it.
use Rattle.std.proofs.Common.{◌≡◌, Bool, true, false, [], refl, sym, ap, ◌∙◌}
use Rattle.std.specs.Prelude.{◌&&◌, nat_le}
use Rattle.std.proofs.lemmas.Bool.{leb-true, le-leb}
use Rattle.si_semantics.specs.World as world
use Rattle.si_semantics.specs.World.{World, Request}
use Rattle.si_semantics.specs.Replies.{reply}
use Rattle.si_semantics.specs.Actions as shared
use Rattle.si_semantics.specs.Actions.{fits}
use Rattle.si_semantics.specs.Parcels as tree
use Rattle.si_semantics.specs.Parcels.{Tree, Leaf, is_parcel, IsParcel, size_of, levels_of, longest_in}
use Rattle.si_methods.specs.declared.request.Awaited.{Awaited}
use Rattle.si_methods.specs.declared.request.Awaited.TheVariants as awaited
use Rattle.si_methods.specs.Requests.{action_of}
use Rattle.si_methods.specs.Kept.{awaited_of}

-- a request of which this is kept
abbrev pub request_of : Awaited → Request
request_of awaited.Create = world.Create
request_of (awaited.CreateQueue m) = world.CreateQueue m
request_of awaited.Put = world.Put 0 (Leaf tree.Nothing)
request_of awaited.PutNow = world.PutNow 0 (Leaf tree.Nothing)
request_of awaited.Get = world.Get 0
request_of awaited.GetNow = world.GetNow 0
request_of awaited.Size = world.Size 0
request_of awaited.IsEmpty = world.IsEmpty 0
request_of (awaited.IsFull m) = world.IsFull 0 m
request_of (awaited.Prepare i) = world.Prepare i []
request_of (awaited.Exec i) = world.Exec i []
request_of awaited.AwaitExec = world.AwaitExec 0
request_of (awaited.StartThread x i) = world.StartThread x i []
request_of awaited.JoinThread = world.JoinThread 0
request_of awaited.ListAll = world.ListAll
request_of (awaited.IsRunning i) = world.IsRunning i
request_of (awaited.Close i) = world.Close i

-- what an answer makes of a request, it makes of that one
pub kept_reply : (q : Request) (a : world.Answer) (w : World) → reply q a w ≡ reply (request_of (awaited_of q)) a w
kept_reply world.Create a w = refl
kept_reply (world.CreateQueue m) a w = refl
kept_reply (world.Put q p) a w = refl
kept_reply (world.PutNow q p) a w = refl
kept_reply (world.Get q) a w = refl
kept_reply (world.GetNow q) a w = refl
kept_reply (world.Size q) a w = refl
kept_reply (world.IsEmpty q) a w = refl
kept_reply (world.IsFull q m) a w = refl
kept_reply (world.Prepare i bs) a w = refl
kept_reply (world.Exec i text) a w = refl
kept_reply (world.AwaitExec r) a w = refl
kept_reply (world.StartThread x i text) a w = refl
kept_reply (world.JoinThread r) a w = refl
kept_reply world.ListAll a w = refl
kept_reply (world.IsRunning i) a w = refl
kept_reply (world.Close i) a w = refl

-- the answers that fit a request fit that one
pub kept_fit : (q : Request) (a : shared.Answer) → fits a (action_of q) ≡ fits a (action_of (request_of (awaited_of q)))
kept_fit world.Create a = refl
kept_fit (world.CreateQueue m) a = refl
kept_fit (world.Put q p) shared.Limit = refl
kept_fit (world.Put q p) (shared.Created n) = refl
kept_fit (world.Put q p) (shared.QueueMade n) = refl
kept_fit (world.Put q p) (shared.Started n) = refl
kept_fit (world.Put q p) shared.Done = refl
kept_fit (world.Put q p) shared.Full = refl
kept_fit (world.Put q p) shared.Empty = refl
kept_fit (world.Put q p) (shared.Item t) = refl
kept_fit (world.Put q p) (shared.Count n) = refl
kept_fit (world.Put q p) shared.NotFound = refl
kept_fit (world.Put q p) shared.Running = refl
kept_fit (world.Put q p) shared.Current = refl
kept_fit (world.Put q p) shared.Main = refl
kept_fit (world.Put q p) (shared.Ended o) = refl
kept_fit (world.Put q p) (shared.Truth b) = refl
kept_fit (world.Put q p) (shared.Ids is) = refl
kept_fit (world.Put q p) (shared.Given j) = refl
kept_fit (world.PutNow q p) shared.Limit = refl
kept_fit (world.PutNow q p) (shared.Created n) = refl
kept_fit (world.PutNow q p) (shared.QueueMade n) = refl
kept_fit (world.PutNow q p) (shared.Started n) = refl
kept_fit (world.PutNow q p) shared.Done = refl
kept_fit (world.PutNow q p) shared.Full = refl
kept_fit (world.PutNow q p) shared.Empty = refl
kept_fit (world.PutNow q p) (shared.Item t) = refl
kept_fit (world.PutNow q p) (shared.Count n) = refl
kept_fit (world.PutNow q p) shared.NotFound = refl
kept_fit (world.PutNow q p) shared.Running = refl
kept_fit (world.PutNow q p) shared.Current = refl
kept_fit (world.PutNow q p) shared.Main = refl
kept_fit (world.PutNow q p) (shared.Ended o) = refl
kept_fit (world.PutNow q p) (shared.Truth b) = refl
kept_fit (world.PutNow q p) (shared.Ids is) = refl
kept_fit (world.PutNow q p) (shared.Given j) = refl
kept_fit (world.Get q) shared.Limit = refl
kept_fit (world.Get q) (shared.Created n) = refl
kept_fit (world.Get q) (shared.QueueMade n) = refl
kept_fit (world.Get q) (shared.Started n) = refl
kept_fit (world.Get q) shared.Done = refl
kept_fit (world.Get q) shared.Full = refl
kept_fit (world.Get q) shared.Empty = refl
kept_fit (world.Get q) (shared.Item t) = refl
kept_fit (world.Get q) (shared.Count n) = refl
kept_fit (world.Get q) shared.NotFound = refl
kept_fit (world.Get q) shared.Running = refl
kept_fit (world.Get q) shared.Current = refl
kept_fit (world.Get q) shared.Main = refl
kept_fit (world.Get q) (shared.Ended o) = refl
kept_fit (world.Get q) (shared.Truth b) = refl
kept_fit (world.Get q) (shared.Ids is) = refl
kept_fit (world.Get q) (shared.Given j) = refl
kept_fit (world.GetNow q) shared.Limit = refl
kept_fit (world.GetNow q) (shared.Created n) = refl
kept_fit (world.GetNow q) (shared.QueueMade n) = refl
kept_fit (world.GetNow q) (shared.Started n) = refl
kept_fit (world.GetNow q) shared.Done = refl
kept_fit (world.GetNow q) shared.Full = refl
kept_fit (world.GetNow q) shared.Empty = refl
kept_fit (world.GetNow q) (shared.Item t) = refl
kept_fit (world.GetNow q) (shared.Count n) = refl
kept_fit (world.GetNow q) shared.NotFound = refl
kept_fit (world.GetNow q) shared.Running = refl
kept_fit (world.GetNow q) shared.Current = refl
kept_fit (world.GetNow q) shared.Main = refl
kept_fit (world.GetNow q) (shared.Ended o) = refl
kept_fit (world.GetNow q) (shared.Truth b) = refl
kept_fit (world.GetNow q) (shared.Ids is) = refl
kept_fit (world.GetNow q) (shared.Given j) = refl
kept_fit (world.Size q) shared.Limit = refl
kept_fit (world.Size q) (shared.Created n) = refl
kept_fit (world.Size q) (shared.QueueMade n) = refl
kept_fit (world.Size q) (shared.Started n) = refl
kept_fit (world.Size q) shared.Done = refl
kept_fit (world.Size q) shared.Full = refl
kept_fit (world.Size q) shared.Empty = refl
kept_fit (world.Size q) (shared.Item t) = refl
kept_fit (world.Size q) (shared.Count n) = refl
kept_fit (world.Size q) shared.NotFound = refl
kept_fit (world.Size q) shared.Running = refl
kept_fit (world.Size q) shared.Current = refl
kept_fit (world.Size q) shared.Main = refl
kept_fit (world.Size q) (shared.Ended o) = refl
kept_fit (world.Size q) (shared.Truth b) = refl
kept_fit (world.Size q) (shared.Ids is) = refl
kept_fit (world.Size q) (shared.Given j) = refl
kept_fit (world.IsEmpty q) shared.Limit = refl
kept_fit (world.IsEmpty q) (shared.Created n) = refl
kept_fit (world.IsEmpty q) (shared.QueueMade n) = refl
kept_fit (world.IsEmpty q) (shared.Started n) = refl
kept_fit (world.IsEmpty q) shared.Done = refl
kept_fit (world.IsEmpty q) shared.Full = refl
kept_fit (world.IsEmpty q) shared.Empty = refl
kept_fit (world.IsEmpty q) (shared.Item t) = refl
kept_fit (world.IsEmpty q) (shared.Count n) = refl
kept_fit (world.IsEmpty q) shared.NotFound = refl
kept_fit (world.IsEmpty q) shared.Running = refl
kept_fit (world.IsEmpty q) shared.Current = refl
kept_fit (world.IsEmpty q) shared.Main = refl
kept_fit (world.IsEmpty q) (shared.Ended o) = refl
kept_fit (world.IsEmpty q) (shared.Truth b) = refl
kept_fit (world.IsEmpty q) (shared.Ids is) = refl
kept_fit (world.IsEmpty q) (shared.Given j) = refl
kept_fit (world.IsFull q m) shared.Limit = refl
kept_fit (world.IsFull q m) (shared.Created n) = refl
kept_fit (world.IsFull q m) (shared.QueueMade n) = refl
kept_fit (world.IsFull q m) (shared.Started n) = refl
kept_fit (world.IsFull q m) shared.Done = refl
kept_fit (world.IsFull q m) shared.Full = refl
kept_fit (world.IsFull q m) shared.Empty = refl
kept_fit (world.IsFull q m) (shared.Item t) = refl
kept_fit (world.IsFull q m) (shared.Count n) = refl
kept_fit (world.IsFull q m) shared.NotFound = refl
kept_fit (world.IsFull q m) shared.Running = refl
kept_fit (world.IsFull q m) shared.Current = refl
kept_fit (world.IsFull q m) shared.Main = refl
kept_fit (world.IsFull q m) (shared.Ended o) = refl
kept_fit (world.IsFull q m) (shared.Truth b) = refl
kept_fit (world.IsFull q m) (shared.Ids is) = refl
kept_fit (world.IsFull q m) (shared.Given j) = refl
kept_fit (world.Prepare i bs) shared.Limit = refl
kept_fit (world.Prepare i bs) (shared.Created n) = refl
kept_fit (world.Prepare i bs) (shared.QueueMade n) = refl
kept_fit (world.Prepare i bs) (shared.Started n) = refl
kept_fit (world.Prepare i bs) shared.Done = refl
kept_fit (world.Prepare i bs) shared.Full = refl
kept_fit (world.Prepare i bs) shared.Empty = refl
kept_fit (world.Prepare i bs) (shared.Item t) = refl
kept_fit (world.Prepare i bs) (shared.Count n) = refl
kept_fit (world.Prepare i bs) shared.NotFound = refl
kept_fit (world.Prepare i bs) shared.Running = refl
kept_fit (world.Prepare i bs) shared.Current = refl
kept_fit (world.Prepare i bs) shared.Main = refl
kept_fit (world.Prepare i bs) (shared.Ended o) = refl
kept_fit (world.Prepare i bs) (shared.Truth b) = refl
kept_fit (world.Prepare i bs) (shared.Ids is) = refl
kept_fit (world.Prepare i bs) (shared.Given j) = refl
kept_fit (world.Exec i text) shared.Limit = refl
kept_fit (world.Exec i text) (shared.Created n) = refl
kept_fit (world.Exec i text) (shared.QueueMade n) = refl
kept_fit (world.Exec i text) (shared.Started n) = refl
kept_fit (world.Exec i text) shared.Done = refl
kept_fit (world.Exec i text) shared.Full = refl
kept_fit (world.Exec i text) shared.Empty = refl
kept_fit (world.Exec i text) (shared.Item t) = refl
kept_fit (world.Exec i text) (shared.Count n) = refl
kept_fit (world.Exec i text) shared.NotFound = refl
kept_fit (world.Exec i text) shared.Running = refl
kept_fit (world.Exec i text) shared.Current = refl
kept_fit (world.Exec i text) shared.Main = refl
kept_fit (world.Exec i text) (shared.Ended o) = refl
kept_fit (world.Exec i text) (shared.Truth b) = refl
kept_fit (world.Exec i text) (shared.Ids is) = refl
kept_fit (world.Exec i text) (shared.Given j) = refl
kept_fit (world.AwaitExec r) shared.Limit = refl
kept_fit (world.AwaitExec r) (shared.Created n) = refl
kept_fit (world.AwaitExec r) (shared.QueueMade n) = refl
kept_fit (world.AwaitExec r) (shared.Started n) = refl
kept_fit (world.AwaitExec r) shared.Done = refl
kept_fit (world.AwaitExec r) shared.Full = refl
kept_fit (world.AwaitExec r) shared.Empty = refl
kept_fit (world.AwaitExec r) (shared.Item t) = refl
kept_fit (world.AwaitExec r) (shared.Count n) = refl
kept_fit (world.AwaitExec r) shared.NotFound = refl
kept_fit (world.AwaitExec r) shared.Running = refl
kept_fit (world.AwaitExec r) shared.Current = refl
kept_fit (world.AwaitExec r) shared.Main = refl
kept_fit (world.AwaitExec r) (shared.Ended o) = refl
kept_fit (world.AwaitExec r) (shared.Truth b) = refl
kept_fit (world.AwaitExec r) (shared.Ids is) = refl
kept_fit (world.AwaitExec r) (shared.Given j) = refl
kept_fit (world.StartThread x i text) shared.Limit = refl
kept_fit (world.StartThread x i text) (shared.Created n) = refl
kept_fit (world.StartThread x i text) (shared.QueueMade n) = refl
kept_fit (world.StartThread x i text) (shared.Started n) = refl
kept_fit (world.StartThread x i text) shared.Done = refl
kept_fit (world.StartThread x i text) shared.Full = refl
kept_fit (world.StartThread x i text) shared.Empty = refl
kept_fit (world.StartThread x i text) (shared.Item t) = refl
kept_fit (world.StartThread x i text) (shared.Count n) = refl
kept_fit (world.StartThread x i text) shared.NotFound = refl
kept_fit (world.StartThread x i text) shared.Running = refl
kept_fit (world.StartThread x i text) shared.Current = refl
kept_fit (world.StartThread x i text) shared.Main = refl
kept_fit (world.StartThread x i text) (shared.Ended o) = refl
kept_fit (world.StartThread x i text) (shared.Truth b) = refl
kept_fit (world.StartThread x i text) (shared.Ids is) = refl
kept_fit (world.StartThread x i text) (shared.Given j) = refl
kept_fit (world.JoinThread r) shared.Limit = refl
kept_fit (world.JoinThread r) (shared.Created n) = refl
kept_fit (world.JoinThread r) (shared.QueueMade n) = refl
kept_fit (world.JoinThread r) (shared.Started n) = refl
kept_fit (world.JoinThread r) shared.Done = refl
kept_fit (world.JoinThread r) shared.Full = refl
kept_fit (world.JoinThread r) shared.Empty = refl
kept_fit (world.JoinThread r) (shared.Item t) = refl
kept_fit (world.JoinThread r) (shared.Count n) = refl
kept_fit (world.JoinThread r) shared.NotFound = refl
kept_fit (world.JoinThread r) shared.Running = refl
kept_fit (world.JoinThread r) shared.Current = refl
kept_fit (world.JoinThread r) shared.Main = refl
kept_fit (world.JoinThread r) (shared.Ended o) = refl
kept_fit (world.JoinThread r) (shared.Truth b) = refl
kept_fit (world.JoinThread r) (shared.Ids is) = refl
kept_fit (world.JoinThread r) (shared.Given j) = refl
kept_fit world.ListAll a = refl
kept_fit (world.IsRunning i) a = refl
kept_fit (world.Close i) a = refl

pub same_replies : (q r : Request) → awaited_of q ≡ awaited_of r → (a : world.Answer) (w : World) → reply q a w ≡ reply r a w
same_replies q r e a w = kept_reply q a w ∙ ap (λ k. reply (request_of k) a w) e ∙ sym (kept_reply r a w)

pub same_fit : (q r : Request) → awaited_of q ≡ awaited_of r → (a : shared.Answer) → fits a (action_of q) ≡ fits a (action_of r)
same_fit q r e a = kept_fit q a ∙ ap (λ k. fits a (action_of (request_of k))) e ∙ sym (kept_fit r a)

-- ---- the limits of parcels

both_true : (a b : Bool) → (a && b) ≡ true → (a ≡ true) × (b ≡ true)
both_true true true e = (refl, refl)
both_true true false e = absurd cc
both_true false b e = absurd cc

and_true : (a b : Bool) → a ≡ true → b ≡ true → (a && b) ≡ true
and_true true true e f = refl
and_true true false e f = absurd cc
and_true false b e f = absurd cc

pub is_within : (t : Tree) → is_parcel t ≡ true → IsParcel t
is_within t e =
    let p = both_true (nat_le (size_of t) 65536) (nat_le (levels_of t) 200 && nat_le (longest_in t) 1048576) e in
    let q = both_true (nat_le (levels_of t) 200) (nat_le (longest_in t) 1048576) p.1 in
    record { size = leb-true _ _ p.0; levels = leb-true _ _ q.0; longest = leb-true _ _ q.1 }

pub within_is : (t : Tree) → IsParcel t → is_parcel t ≡ true
within_is t p = and_true _ _ (le-leb _ _ p.size) (and_true _ _ (le-leb _ _ p.levels) (le-leb _ _ p.longest))
