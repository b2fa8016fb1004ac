-- What answers make of requests of which something is kept.
use Rattle.std.proofs.Common.{◌≡◌, ◌≢◌, ◌<◌, ◌+◌, ℕ, zero, suc, Bool, true, false, cond, List, [], ◌∷◌, ◌++◌, length, map, take, get_or, add-one, Option, Some, None, Result, Ok, Err, refl, sym, ap, subst, ◌∙◌, arith, nat_lt, append-nil}
use Rattle.std.specs.Prelude.{codes, slice_set, IfOk, OnErr}
use Rattle.std.proofs.lemmas.List.{length-set}
use Rattle.std.specs.declared.alloc.AllocError.{AllocError}
use Rattle.si_semantics.specs.Value as pure
use Rattle.si_semantics.specs.World as world
use Rattle.si_semantics.specs.World.{World}
use Rattle.si_semantics.specs.Replies.{reply, failed}
use Rattle.si_semantics.specs.Text.{max_length}
use Rattle.si_semantics.specs.Parcels.{Tree, Leaf, Group}
use Rattle.si_semantics.specs.Shareable.{value_of_parcel}
use Rattle.si_semantics.specs.Actions as shared
use Rattle.si_plain.specs.declared.kind.Kind.{Kind}
use Rattle.si_plain.specs.declared.kind.Kind.TheVariants.{OverflowError}
use Rattle.si_parcel.specs.declared.answer.Answer.{Answer}
use Rattle.si_parcel.specs.declared.answer.Answer.TheVariants as answer
use Rattle.si_parcel.specs.declared.outcome.Outcome.{Outcome}
use Rattle.si_parcel.specs.Shared.{answer_of}
use Rattle.si_arena.specs.declared.value.Ref.{Ref}
use Rattle.si_arena.specs.declared.cause.Cause.{Cause}
use Rattle.si_arena.specs.declared.value.Ref.TheVariants as value
use Rattle.si_arena.specs.declared.object.Object.{Object}
use Rattle.si_arena.specs.declared.object.Object.TheVariants.{Caused}
use Rattle.si_arena.specs.Causes.{kind_of, message_of, CauseLies}
use Rattle.si_arena.specs.Memory.{Memory, value_of, all_of, Lies, AllLie, Extends, IsMade}
use Rattle.si_arena.proofs.Lying.{extends_same, extends_made}
use Rattle.si_methods.specs.declared.request.Awaited.{Awaited}
use Rattle.si_methods.specs.declared.request.Awaited.TheVariants as awaited
use Rattle.si_methods.specs.declared.replying.Replied.{Replied}
use Rattle.si_methods.specs.declared.replying.Replied.TheVariants.{Got, Failed}
use Rattle.si_methods.specs.Given.{answer_in, item_in}
use Rattle.si_methods.specs.Replying.{Makes, Replies, MakesException, MakesFailed, IsThere, failed_of, received_of}
use Rattle.si_share.specs.Copies.{CopiesIn, Leaves, NeedsRoom}
use Rattle.si_methods.specs.Needing.{TakesRoom}
use Rattle.si_methods.proofs.Kept.{request_of, kept_reply}

-- what an answer makes of one request of which this is kept, it makes of each
pub makes : (kept : Awaited) (a : shared.Answer) (m : Memory) (x : World → world.Replied) → ((w : World) → w.store ≡ m.store → reply (request_of kept) (answer_in a) w ≡ x w) → Makes kept a m x
makes kept a m x h = λ q e w s. kept_reply q (answer_in a) w ∙ ap (λ k. reply (request_of k) (answer_in a) w) e ∙ h w s

-- a value, and nothing is changed
pub got : (kept : Awaited) (a : shared.Answer) (m : Memory) (r : Ref) → Lies m r → ((w : World) → reply (request_of kept) (answer_in a) w ≡ world.Got (value_of m r) w) → Replies kept a m m (Ok (Got r))
got kept a m r lies h = (
  makes kept a m (λ w. world.Got (value_of m r) (record w { store = m.store })) (λ w s. h w ∙ ap (λ t. world.Got (value_of m r) (record w { store = t })) s),
  lies,
  extends_same m,
)

-- an exception that follows from its cause
pub refuses : (kept : Awaited) (a : shared.Answer) (m : Memory) (cause : Cause) → CauseLies m.names cause → ((w : World) → reply (request_of kept) (answer_in a) w ≡ world.Failed (kind_of cause) (Some (pure.Str (message_of m.names cause))) w) → Replies kept a m m (Ok (Failed (Caused cause)))
refuses kept a m cause lies h = record {
  kind = kind_of cause;
  argument = Some (pure.Str (message_of m.names cause));
  there = record { denotes = refl; lies = lies; extends = extends_same m; store = refl };
  makes = makes kept a m (world.Failed (kind_of cause) (Some (pure.Str (message_of m.names cause)))) (λ w s. h w);
}

-- an exception with a message, or memory is refused for it
pub fails : (kept : Awaited) (a : shared.Answer) (k : Kind) (t : pure.Text) (old new : Memory) (r : Result Object AllocError) → TakesRoom kept a → ((w : World) → reply (request_of kept) (answer_in a) w ≡ failed k t w) → MakesException k t old new r → Replies kept a old new (failed_of r)
fails kept a k t old new (Err e) room g h = (subst (Extends old) (sym h) (extends_same old), ap (λ (m : Memory). m.store) h, room)
fails kept a k t old new (Ok o) room g h = by (nat_lt max_length (length t)) refl
  where
    by : (b : Bool) → nat_lt max_length (length t) ≡ b → MakesFailed kept a old new o
    by true e = record {
      kind = OverflowError;
      argument = Some (pure.Str (codes "too long"));
      there = subst (λ x. IsThere x old new o) (ap (λ b. cond b (pure.Exception OverflowError (Some (pure.Str (codes "too long")))) (pure.Exception k (Some (pure.Str t)))) e) h;
      makes = makes kept a old (world.Failed OverflowError (Some (pure.Str (codes "too long")))) (λ w s. g w ∙ ap (λ b. cond b (world.Failed OverflowError (Some (pure.Str (codes "too long"))) w) (world.Failed k (Some (pure.Str t)) w)) e);
    }
    by false e = record {
      kind = k;
      argument = Some (pure.Str t);
      there = subst (λ x. IsThere x old new o) (ap (λ b. cond b (pure.Exception OverflowError (Some (pure.Str (codes "too long")))) (pure.Exception k (Some (pure.Str t)))) e) h;
      makes = makes kept a old (world.Failed k (Some (pure.Str t))) (λ w s. g w ∙ ap (λ b. cond b (world.Failed OverflowError (Some (pure.Str (codes "too long"))) w) (world.Failed k (Some (pure.Str t)) w)) e);
    }

left : (p : Tree) (old new : Memory) → Leaves p old new → Extends old new × (new.store ≡ old.store)
left (Leaf a) old new e = (subst (Extends old) (sym e) (extends_same old), ap (λ (m : Memory). m.store) e)
left (Group s ts) old new h = h

-- an item that is copied in
pub receives : (kept : Awaited) (p : Tree) (old new : Memory) (r : Result Ref AllocError) → (NeedsRoom p → TakesRoom kept (shared.Item p)) → ((v : pure.Value) (w : World) → reply (request_of kept) (world.Item v) w ≡ world.Got v w) → CopiesIn p old new r → Replies kept (shared.Item p) old new (received_of r)
receives kept p old new (Ok r) room g h = (
  makes kept (shared.Item p) old (λ w. world.Got (value_of new r) (record w { store = new.store }))
      (λ w s.
      ap (λ o. reply (request_of kept) (item_in o) w) h.1
      ∙ g h.0 w
      ∙ ap (λ v. world.Got v w) (sym h.2.denotes)
      ∙ ap (λ t. world.Got (value_of new r) (record w { store = t })) (s ∙ sym h.2.store)),
  h.2.lies,
  h.2.extends,
)
receives kept p old new (Err e) room g h = let l = left p old new h.1 in (l.0, l.1, room h.0)

-- a thread is started
pub starts : (x i run : ℕ) (old new : Memory) → new ≡ record old { store = slice_set old.store x (pure.Started run) } → Replies (awaited.StartThread x i) (shared.Started run) old new (Ok (Got value.None))
starts x i run old new e = (
  makes (awaited.StartThread x i) (shared.Started run) old (λ w. world.Got pure.Nothing (record w { store = new.store }))
      (λ w s.
      ap (λ (t : List pure.Object). world.Got pure.Nothing (record w { store = slice_set t x (pure.Started run) })) s
      ∙ ap (λ (m : Memory). world.Got pure.Nothing (record w { store = m.store })) (sym e)),
  tt,
  record {
    lasts = record {
      texts = record {
        narrow = ([], ap (λ (m : Memory). m.texts.narrow) e ∙ sym (append-nil old.texts.narrow));
        wide = ([], ap (λ (m : Memory). m.texts.wide) e ∙ sym (append-nil old.texts.wide));
      };
      names = ([], ap (λ (m : Memory). m.names) e ∙ sym (append-nil old.names));
      ranges = ([], ap (λ (m : Memory). m.ranges) e ∙ sym (append-nil old.ranges));
      tuples = ([], ap (λ (m : Memory). m.tuples) e ∙ sym (append-nil old.tuples));
    };
    objects = omega (arith, ap (λ (m : Memory). length m.store) e, length-set old.store x (pure.Started run));
  },
)

-- interpreters in a new list
longer : (os : List pure.Object) (o : pure.Object) → length os < length (os ++ o ∷ [])
longer [] o = omega arith
longer (x ∷ os) o = omega (arith, longer os o)

pub lists : (ids : List ℕ) (old new : Memory) (r : Result Ref AllocError) → IfOk r (λ x. IsMade (pure.Items (map pure.Interpreter ids)) old new x) → OnErr r (new ≡ old) → Replies awaited.ListAll (shared.Ids ids) old new (received_of r)
lists ids old new (Ok r) h g = (
  makes awaited.ListAll (shared.Ids ids) old (λ w. world.Got (value_of new r) (record w { store = new.store }))
      (λ w s.
      ap (λ (os : List pure.Object). world.Got (pure.Address (length os)) (record w { store = os ++ pure.Items (map pure.Interpreter ids) ∷ [] })) s
      ∙ ap (λ v. world.Got v (record w { store = old.store ++ pure.Items (map pure.Interpreter ids) ∷ [] })) (sym (ap (value_of new) h.address))
      ∙ ap (λ (m : Memory). world.Got (value_of new r) (record w { store = m.store })) (sym h.memory)),
  subst (Lies new) (sym h.address) (omega (arith, ap (λ (m : Memory). length m.store) h.memory, longer old.store (pure.Items (map pure.Interpreter ids)))),
  extends_made h,
)
lists ids old new (Err e) h g = (subst (Extends old) (sym g) (extends_same old), ap (λ (m : Memory). m.store) g, tt)

-- the interpreters of numbers lie in every arena
pub interpreters_lie : (m : Memory) (ids : List ℕ) → AllLie m (map value.Interpreter ids)
interpreters_lie m [] = tt
interpreters_lie m (i ∷ ids) = (tt, interpreters_lie m ids)

pub interpreters_are : (m : Memory) (ids : List ℕ) → all_of m (map value.Interpreter ids) ≡ map pure.Interpreter ids
interpreters_are m [] = refl
interpreters_are m (i ∷ ids) = ap (λ vs. pure.Interpreter i ∷ vs) (interpreters_are m ids)

-- one interpreter more
pub one_listed : (ids : List ℕ) (k i d : ℕ) → i ≡ get_or ids k d → k < length ids → map value.Interpreter (take k ids) ++ value.Interpreter i ∷ [] ≡ map value.Interpreter (take (k + 1) ids)
one_listed ids k i d e l = go ids k i d e l ∙ ap (λ j. map value.Interpreter (take j ids)) (sym (add-one k))
  where
    go : (ids : List ℕ) (k i d : ℕ) → i ≡ get_or ids k d → k < length ids → map value.Interpreter (take k ids) ++ value.Interpreter i ∷ [] ≡ map value.Interpreter (take (suc k) ids)
    go [] k i d e l = absurd (omega arith)
    go (j ∷ ids) zero i d e l = ap (λ x. value.Interpreter x ∷ []) e
    go (j ∷ ids) (suc k) i d e l = ap (λ xs. value.Interpreter j ∷ xs) (go ids k i d e (omega arith))

-- ---- answers that do not fit make None

item_create : (o : Option pure.Value) (w : World) → reply (request_of awaited.Create) (item_in o) w ≡ world.Got pure.Nothing w
item_create (Some v) w = refl
item_create None w = refl

pub else_create : (a : Answer) (mem : Memory) → ((y : ℕ) → a ≢ answer.Created y) → a ≢ answer.Limit → Replies awaited.Create (answer_of a) mem mem (Ok (Got value.None))
else_create answer.Limit mem not_created not_limit = absurd (not_limit refl)
else_create (answer.Created y) mem not_created not_limit = absurd (not_created y refl)
else_create (answer.QueueMade y) mem not_created not_limit = got awaited.Create (answer_of (answer.QueueMade y)) mem value.None tt (λ w. refl)
else_create (answer.Started y) mem not_created not_limit = got awaited.Create (answer_of (answer.Started y)) mem value.None tt (λ w. refl)
else_create answer.Done mem not_created not_limit = got awaited.Create (answer_of answer.Done) mem value.None tt (λ w. refl)
else_create answer.Full mem not_created not_limit = got awaited.Create (answer_of answer.Full) mem value.None tt (λ w. refl)
else_create answer.Empty mem not_created not_limit = got awaited.Create (answer_of answer.Empty) mem value.None tt (λ w. refl)
else_create (answer.Item y) mem not_created not_limit = got awaited.Create (shared.Item y) mem value.None tt (λ w. item_create (value_of_parcel y) w)
else_create (answer.Count y) mem not_created not_limit = got awaited.Create (answer_of (answer.Count y)) mem value.None tt (λ w. refl)
else_create answer.NotFound mem not_created not_limit = got awaited.Create (answer_of answer.NotFound) mem value.None tt (λ w. refl)
else_create answer.Running mem not_created not_limit = got awaited.Create (answer_of answer.Running) mem value.None tt (λ w. refl)
else_create answer.Current mem not_created not_limit = got awaited.Create (answer_of answer.Current) mem value.None tt (λ w. refl)
else_create answer.Main mem not_created not_limit = got awaited.Create (answer_of answer.Main) mem value.None tt (λ w. refl)
else_create (answer.Ended y) mem not_created not_limit = got awaited.Create (answer_of (answer.Ended y)) mem value.None tt (λ w. refl)
else_create (answer.Truth y) mem not_created not_limit = got awaited.Create (answer_of (answer.Truth y)) mem value.None tt (λ w. refl)
else_create (answer.Ids y) mem not_created not_limit = got awaited.Create (answer_of (answer.Ids y)) mem value.None tt (λ w. refl)
else_create (answer.Given y) mem not_created not_limit = got awaited.Create (answer_of (answer.Given y)) mem value.None tt (λ w. refl)

item_create_queue : (m : ℕ) (o : Option pure.Value) (w : World) → reply (request_of (awaited.CreateQueue m)) (item_in o) w ≡ world.Got pure.Nothing w
item_create_queue m (Some v) w = refl
item_create_queue m None w = refl

pub else_create_queue : (m : ℕ) (a : Answer) (mem : Memory) → ((y : ℕ) → a ≢ answer.QueueMade y) → a ≢ answer.Limit → Replies (awaited.CreateQueue m) (answer_of a) mem mem (Ok (Got value.None))
else_create_queue m answer.Limit mem not_queue_made not_limit = absurd (not_limit refl)
else_create_queue m (answer.Created y) mem not_queue_made not_limit = got (awaited.CreateQueue m) (answer_of (answer.Created y)) mem value.None tt (λ w. refl)
else_create_queue m (answer.QueueMade y) mem not_queue_made not_limit = absurd (not_queue_made y refl)
else_create_queue m (answer.Started y) mem not_queue_made not_limit = got (awaited.CreateQueue m) (answer_of (answer.Started y)) mem value.None tt (λ w. refl)
else_create_queue m answer.Done mem not_queue_made not_limit = got (awaited.CreateQueue m) (answer_of answer.Done) mem value.None tt (λ w. refl)
else_create_queue m answer.Full mem not_queue_made not_limit = got (awaited.CreateQueue m) (answer_of answer.Full) mem value.None tt (λ w. refl)
else_create_queue m answer.Empty mem not_queue_made not_limit = got (awaited.CreateQueue m) (answer_of answer.Empty) mem value.None tt (λ w. refl)
else_create_queue m (answer.Item y) mem not_queue_made not_limit = got (awaited.CreateQueue m) (shared.Item y) mem value.None tt (λ w. item_create_queue m (value_of_parcel y) w)
else_create_queue m (answer.Count y) mem not_queue_made not_limit = got (awaited.CreateQueue m) (answer_of (answer.Count y)) mem value.None tt (λ w. refl)
else_create_queue m answer.NotFound mem not_queue_made not_limit = got (awaited.CreateQueue m) (answer_of answer.NotFound) mem value.None tt (λ w. refl)
else_create_queue m answer.Running mem not_queue_made not_limit = got (awaited.CreateQueue m) (answer_of answer.Running) mem value.None tt (λ w. refl)
else_create_queue m answer.Current mem not_queue_made not_limit = got (awaited.CreateQueue m) (answer_of answer.Current) mem value.None tt (λ w. refl)
else_create_queue m answer.Main mem not_queue_made not_limit = got (awaited.CreateQueue m) (answer_of answer.Main) mem value.None tt (λ w. refl)
else_create_queue m (answer.Ended y) mem not_queue_made not_limit = got (awaited.CreateQueue m) (answer_of (answer.Ended y)) mem value.None tt (λ w. refl)
else_create_queue m (answer.Truth y) mem not_queue_made not_limit = got (awaited.CreateQueue m) (answer_of (answer.Truth y)) mem value.None tt (λ w. refl)
else_create_queue m (answer.Ids y) mem not_queue_made not_limit = got (awaited.CreateQueue m) (answer_of (answer.Ids y)) mem value.None tt (λ w. refl)
else_create_queue m (answer.Given y) mem not_queue_made not_limit = got (awaited.CreateQueue m) (answer_of (answer.Given y)) mem value.None tt (λ w. refl)

item_put_now : (o : Option pure.Value) (w : World) → reply (request_of awaited.PutNow) (item_in o) w ≡ world.Got pure.Nothing w
item_put_now (Some v) w = refl
item_put_now None w = refl

pub else_put_now : (a : Answer) (mem : Memory) → a ≢ answer.Full → Replies awaited.PutNow (answer_of a) mem mem (Ok (Got value.None))
else_put_now answer.Limit mem not_full = got awaited.PutNow (answer_of answer.Limit) mem value.None tt (λ w. refl)
else_put_now (answer.Created y) mem not_full = got awaited.PutNow (answer_of (answer.Created y)) mem value.None tt (λ w. refl)
else_put_now (answer.QueueMade y) mem not_full = got awaited.PutNow (answer_of (answer.QueueMade y)) mem value.None tt (λ w. refl)
else_put_now (answer.Started y) mem not_full = got awaited.PutNow (answer_of (answer.Started y)) mem value.None tt (λ w. refl)
else_put_now answer.Done mem not_full = got awaited.PutNow (answer_of answer.Done) mem value.None tt (λ w. refl)
else_put_now answer.Full mem not_full = absurd (not_full refl)
else_put_now answer.Empty mem not_full = got awaited.PutNow (answer_of answer.Empty) mem value.None tt (λ w. refl)
else_put_now (answer.Item y) mem not_full = got awaited.PutNow (shared.Item y) mem value.None tt (λ w. item_put_now (value_of_parcel y) w)
else_put_now (answer.Count y) mem not_full = got awaited.PutNow (answer_of (answer.Count y)) mem value.None tt (λ w. refl)
else_put_now answer.NotFound mem not_full = got awaited.PutNow (answer_of answer.NotFound) mem value.None tt (λ w. refl)
else_put_now answer.Running mem not_full = got awaited.PutNow (answer_of answer.Running) mem value.None tt (λ w. refl)
else_put_now answer.Current mem not_full = got awaited.PutNow (answer_of answer.Current) mem value.None tt (λ w. refl)
else_put_now answer.Main mem not_full = got awaited.PutNow (answer_of answer.Main) mem value.None tt (λ w. refl)
else_put_now (answer.Ended y) mem not_full = got awaited.PutNow (answer_of (answer.Ended y)) mem value.None tt (λ w. refl)
else_put_now (answer.Truth y) mem not_full = got awaited.PutNow (answer_of (answer.Truth y)) mem value.None tt (λ w. refl)
else_put_now (answer.Ids y) mem not_full = got awaited.PutNow (answer_of (answer.Ids y)) mem value.None tt (λ w. refl)
else_put_now (answer.Given y) mem not_full = got awaited.PutNow (answer_of (answer.Given y)) mem value.None tt (λ w. refl)

item_put : (o : Option pure.Value) (w : World) → reply (request_of awaited.Put) (item_in o) w ≡ world.Got pure.Nothing w
item_put (Some v) w = refl
item_put None w = refl

pub else_put : (a : Answer) (mem : Memory) → Replies awaited.Put (answer_of a) mem mem (Ok (Got value.None))
else_put answer.Limit mem = got awaited.Put (answer_of answer.Limit) mem value.None tt (λ w. refl)
else_put (answer.Created y) mem = got awaited.Put (answer_of (answer.Created y)) mem value.None tt (λ w. refl)
else_put (answer.QueueMade y) mem = got awaited.Put (answer_of (answer.QueueMade y)) mem value.None tt (λ w. refl)
else_put (answer.Started y) mem = got awaited.Put (answer_of (answer.Started y)) mem value.None tt (λ w. refl)
else_put answer.Done mem = got awaited.Put (answer_of answer.Done) mem value.None tt (λ w. refl)
else_put answer.Full mem = got awaited.Put (answer_of answer.Full) mem value.None tt (λ w. refl)
else_put answer.Empty mem = got awaited.Put (answer_of answer.Empty) mem value.None tt (λ w. refl)
else_put (answer.Item y) mem = got awaited.Put (shared.Item y) mem value.None tt (λ w. item_put (value_of_parcel y) w)
else_put (answer.Count y) mem = got awaited.Put (answer_of (answer.Count y)) mem value.None tt (λ w. refl)
else_put answer.NotFound mem = got awaited.Put (answer_of answer.NotFound) mem value.None tt (λ w. refl)
else_put answer.Running mem = got awaited.Put (answer_of answer.Running) mem value.None tt (λ w. refl)
else_put answer.Current mem = got awaited.Put (answer_of answer.Current) mem value.None tt (λ w. refl)
else_put answer.Main mem = got awaited.Put (answer_of answer.Main) mem value.None tt (λ w. refl)
else_put (answer.Ended y) mem = got awaited.Put (answer_of (answer.Ended y)) mem value.None tt (λ w. refl)
else_put (answer.Truth y) mem = got awaited.Put (answer_of (answer.Truth y)) mem value.None tt (λ w. refl)
else_put (answer.Ids y) mem = got awaited.Put (answer_of (answer.Ids y)) mem value.None tt (λ w. refl)
else_put (answer.Given y) mem = got awaited.Put (answer_of (answer.Given y)) mem value.None tt (λ w. refl)

pub else_get : (a : Answer) (mem : Memory) → ((y : Tree) → a ≢ answer.Item y) → Replies awaited.Get (answer_of a) mem mem (Ok (Got value.None))
else_get answer.Limit mem not_item = got awaited.Get (answer_of answer.Limit) mem value.None tt (λ w. refl)
else_get (answer.Created y) mem not_item = got awaited.Get (answer_of (answer.Created y)) mem value.None tt (λ w. refl)
else_get (answer.QueueMade y) mem not_item = got awaited.Get (answer_of (answer.QueueMade y)) mem value.None tt (λ w. refl)
else_get (answer.Started y) mem not_item = got awaited.Get (answer_of (answer.Started y)) mem value.None tt (λ w. refl)
else_get answer.Done mem not_item = got awaited.Get (answer_of answer.Done) mem value.None tt (λ w. refl)
else_get answer.Full mem not_item = got awaited.Get (answer_of answer.Full) mem value.None tt (λ w. refl)
else_get answer.Empty mem not_item = got awaited.Get (answer_of answer.Empty) mem value.None tt (λ w. refl)
else_get (answer.Item y) mem not_item = absurd (not_item y refl)
else_get (answer.Count y) mem not_item = got awaited.Get (answer_of (answer.Count y)) mem value.None tt (λ w. refl)
else_get answer.NotFound mem not_item = got awaited.Get (answer_of answer.NotFound) mem value.None tt (λ w. refl)
else_get answer.Running mem not_item = got awaited.Get (answer_of answer.Running) mem value.None tt (λ w. refl)
else_get answer.Current mem not_item = got awaited.Get (answer_of answer.Current) mem value.None tt (λ w. refl)
else_get answer.Main mem not_item = got awaited.Get (answer_of answer.Main) mem value.None tt (λ w. refl)
else_get (answer.Ended y) mem not_item = got awaited.Get (answer_of (answer.Ended y)) mem value.None tt (λ w. refl)
else_get (answer.Truth y) mem not_item = got awaited.Get (answer_of (answer.Truth y)) mem value.None tt (λ w. refl)
else_get (answer.Ids y) mem not_item = got awaited.Get (answer_of (answer.Ids y)) mem value.None tt (λ w. refl)
else_get (answer.Given y) mem not_item = got awaited.Get (answer_of (answer.Given y)) mem value.None tt (λ w. refl)

pub else_get_now : (a : Answer) (mem : Memory) → ((y : Tree) → a ≢ answer.Item y) → a ≢ answer.Empty → Replies awaited.GetNow (answer_of a) mem mem (Ok (Got value.None))
else_get_now answer.Limit mem not_item not_empty = got awaited.GetNow (answer_of answer.Limit) mem value.None tt (λ w. refl)
else_get_now (answer.Created y) mem not_item not_empty = got awaited.GetNow (answer_of (answer.Created y)) mem value.None tt (λ w. refl)
else_get_now (answer.QueueMade y) mem not_item not_empty = got awaited.GetNow (answer_of (answer.QueueMade y)) mem value.None tt (λ w. refl)
else_get_now (answer.Started y) mem not_item not_empty = got awaited.GetNow (answer_of (answer.Started y)) mem value.None tt (λ w. refl)
else_get_now answer.Done mem not_item not_empty = got awaited.GetNow (answer_of answer.Done) mem value.None tt (λ w. refl)
else_get_now answer.Full mem not_item not_empty = got awaited.GetNow (answer_of answer.Full) mem value.None tt (λ w. refl)
else_get_now answer.Empty mem not_item not_empty = absurd (not_empty refl)
else_get_now (answer.Item y) mem not_item not_empty = absurd (not_item y refl)
else_get_now (answer.Count y) mem not_item not_empty = got awaited.GetNow (answer_of (answer.Count y)) mem value.None tt (λ w. refl)
else_get_now answer.NotFound mem not_item not_empty = got awaited.GetNow (answer_of answer.NotFound) mem value.None tt (λ w. refl)
else_get_now answer.Running mem not_item not_empty = got awaited.GetNow (answer_of answer.Running) mem value.None tt (λ w. refl)
else_get_now answer.Current mem not_item not_empty = got awaited.GetNow (answer_of answer.Current) mem value.None tt (λ w. refl)
else_get_now answer.Main mem not_item not_empty = got awaited.GetNow (answer_of answer.Main) mem value.None tt (λ w. refl)
else_get_now (answer.Ended y) mem not_item not_empty = got awaited.GetNow (answer_of (answer.Ended y)) mem value.None tt (λ w. refl)
else_get_now (answer.Truth y) mem not_item not_empty = got awaited.GetNow (answer_of (answer.Truth y)) mem value.None tt (λ w. refl)
else_get_now (answer.Ids y) mem not_item not_empty = got awaited.GetNow (answer_of (answer.Ids y)) mem value.None tt (λ w. refl)
else_get_now (answer.Given y) mem not_item not_empty = got awaited.GetNow (answer_of (answer.Given y)) mem value.None tt (λ w. refl)

item_size : (o : Option pure.Value) (w : World) → reply (request_of awaited.Size) (item_in o) w ≡ world.Got pure.Nothing w
item_size (Some v) w = refl
item_size None w = refl

pub else_size : (a : Answer) (mem : Memory) → ((y : ℕ) → a ≢ answer.Count y) → Replies awaited.Size (answer_of a) mem mem (Ok (Got value.None))
else_size answer.Limit mem not_count = got awaited.Size (answer_of answer.Limit) mem value.None tt (λ w. refl)
else_size (answer.Created y) mem not_count = got awaited.Size (answer_of (answer.Created y)) mem value.None tt (λ w. refl)
else_size (answer.QueueMade y) mem not_count = got awaited.Size (answer_of (answer.QueueMade y)) mem value.None tt (λ w. refl)
else_size (answer.Started y) mem not_count = got awaited.Size (answer_of (answer.Started y)) mem value.None tt (λ w. refl)
else_size answer.Done mem not_count = got awaited.Size (answer_of answer.Done) mem value.None tt (λ w. refl)
else_size answer.Full mem not_count = got awaited.Size (answer_of answer.Full) mem value.None tt (λ w. refl)
else_size answer.Empty mem not_count = got awaited.Size (answer_of answer.Empty) mem value.None tt (λ w. refl)
else_size (answer.Item y) mem not_count = got awaited.Size (shared.Item y) mem value.None tt (λ w. item_size (value_of_parcel y) w)
else_size (answer.Count y) mem not_count = absurd (not_count y refl)
else_size answer.NotFound mem not_count = got awaited.Size (answer_of answer.NotFound) mem value.None tt (λ w. refl)
else_size answer.Running mem not_count = got awaited.Size (answer_of answer.Running) mem value.None tt (λ w. refl)
else_size answer.Current mem not_count = got awaited.Size (answer_of answer.Current) mem value.None tt (λ w. refl)
else_size answer.Main mem not_count = got awaited.Size (answer_of answer.Main) mem value.None tt (λ w. refl)
else_size (answer.Ended y) mem not_count = got awaited.Size (answer_of (answer.Ended y)) mem value.None tt (λ w. refl)
else_size (answer.Truth y) mem not_count = got awaited.Size (answer_of (answer.Truth y)) mem value.None tt (λ w. refl)
else_size (answer.Ids y) mem not_count = got awaited.Size (answer_of (answer.Ids y)) mem value.None tt (λ w. refl)
else_size (answer.Given y) mem not_count = got awaited.Size (answer_of (answer.Given y)) mem value.None tt (λ w. refl)

item_is_empty : (o : Option pure.Value) (w : World) → reply (request_of awaited.IsEmpty) (item_in o) w ≡ world.Got pure.Nothing w
item_is_empty (Some v) w = refl
item_is_empty None w = refl

pub else_is_empty : (a : Answer) (mem : Memory) → ((y : ℕ) → a ≢ answer.Count y) → Replies awaited.IsEmpty (answer_of a) mem mem (Ok (Got value.None))
else_is_empty answer.Limit mem not_count = got awaited.IsEmpty (answer_of answer.Limit) mem value.None tt (λ w. refl)
else_is_empty (answer.Created y) mem not_count = got awaited.IsEmpty (answer_of (answer.Created y)) mem value.None tt (λ w. refl)
else_is_empty (answer.QueueMade y) mem not_count = got awaited.IsEmpty (answer_of (answer.QueueMade y)) mem value.None tt (λ w. refl)
else_is_empty (answer.Started y) mem not_count = got awaited.IsEmpty (answer_of (answer.Started y)) mem value.None tt (λ w. refl)
else_is_empty answer.Done mem not_count = got awaited.IsEmpty (answer_of answer.Done) mem value.None tt (λ w. refl)
else_is_empty answer.Full mem not_count = got awaited.IsEmpty (answer_of answer.Full) mem value.None tt (λ w. refl)
else_is_empty answer.Empty mem not_count = got awaited.IsEmpty (answer_of answer.Empty) mem value.None tt (λ w. refl)
else_is_empty (answer.Item y) mem not_count = got awaited.IsEmpty (shared.Item y) mem value.None tt (λ w. item_is_empty (value_of_parcel y) w)
else_is_empty (answer.Count y) mem not_count = absurd (not_count y refl)
else_is_empty answer.NotFound mem not_count = got awaited.IsEmpty (answer_of answer.NotFound) mem value.None tt (λ w. refl)
else_is_empty answer.Running mem not_count = got awaited.IsEmpty (answer_of answer.Running) mem value.None tt (λ w. refl)
else_is_empty answer.Current mem not_count = got awaited.IsEmpty (answer_of answer.Current) mem value.None tt (λ w. refl)
else_is_empty answer.Main mem not_count = got awaited.IsEmpty (answer_of answer.Main) mem value.None tt (λ w. refl)
else_is_empty (answer.Ended y) mem not_count = got awaited.IsEmpty (answer_of (answer.Ended y)) mem value.None tt (λ w. refl)
else_is_empty (answer.Truth y) mem not_count = got awaited.IsEmpty (answer_of (answer.Truth y)) mem value.None tt (λ w. refl)
else_is_empty (answer.Ids y) mem not_count = got awaited.IsEmpty (answer_of (answer.Ids y)) mem value.None tt (λ w. refl)
else_is_empty (answer.Given y) mem not_count = got awaited.IsEmpty (answer_of (answer.Given y)) mem value.None tt (λ w. refl)

item_is_full : (m : ℕ) (o : Option pure.Value) (w : World) → reply (request_of (awaited.IsFull m)) (item_in o) w ≡ world.Got pure.Nothing w
item_is_full m (Some v) w = refl
item_is_full m None w = refl

pub else_is_full : (m : ℕ) (a : Answer) (mem : Memory) → ((y : ℕ) → a ≢ answer.Count y) → Replies (awaited.IsFull m) (answer_of a) mem mem (Ok (Got value.None))
else_is_full m answer.Limit mem not_count = got (awaited.IsFull m) (answer_of answer.Limit) mem value.None tt (λ w. refl)
else_is_full m (answer.Created y) mem not_count = got (awaited.IsFull m) (answer_of (answer.Created y)) mem value.None tt (λ w. refl)
else_is_full m (answer.QueueMade y) mem not_count = got (awaited.IsFull m) (answer_of (answer.QueueMade y)) mem value.None tt (λ w. refl)
else_is_full m (answer.Started y) mem not_count = got (awaited.IsFull m) (answer_of (answer.Started y)) mem value.None tt (λ w. refl)
else_is_full m answer.Done mem not_count = got (awaited.IsFull m) (answer_of answer.Done) mem value.None tt (λ w. refl)
else_is_full m answer.Full mem not_count = got (awaited.IsFull m) (answer_of answer.Full) mem value.None tt (λ w. refl)
else_is_full m answer.Empty mem not_count = got (awaited.IsFull m) (answer_of answer.Empty) mem value.None tt (λ w. refl)
else_is_full m (answer.Item y) mem not_count = got (awaited.IsFull m) (shared.Item y) mem value.None tt (λ w. item_is_full m (value_of_parcel y) w)
else_is_full m (answer.Count y) mem not_count = absurd (not_count y refl)
else_is_full m answer.NotFound mem not_count = got (awaited.IsFull m) (answer_of answer.NotFound) mem value.None tt (λ w. refl)
else_is_full m answer.Running mem not_count = got (awaited.IsFull m) (answer_of answer.Running) mem value.None tt (λ w. refl)
else_is_full m answer.Current mem not_count = got (awaited.IsFull m) (answer_of answer.Current) mem value.None tt (λ w. refl)
else_is_full m answer.Main mem not_count = got (awaited.IsFull m) (answer_of answer.Main) mem value.None tt (λ w. refl)
else_is_full m (answer.Ended y) mem not_count = got (awaited.IsFull m) (answer_of (answer.Ended y)) mem value.None tt (λ w. refl)
else_is_full m (answer.Truth y) mem not_count = got (awaited.IsFull m) (answer_of (answer.Truth y)) mem value.None tt (λ w. refl)
else_is_full m (answer.Ids y) mem not_count = got (awaited.IsFull m) (answer_of (answer.Ids y)) mem value.None tt (λ w. refl)
else_is_full m (answer.Given y) mem not_count = got (awaited.IsFull m) (answer_of (answer.Given y)) mem value.None tt (λ w. refl)

item_prepare : (i : ℕ) (o : Option pure.Value) (w : World) → reply (request_of (awaited.Prepare i)) (item_in o) w ≡ world.Got pure.Nothing w
item_prepare i (Some v) w = refl
item_prepare i None w = refl

pub else_prepare : (i : ℕ) (a : Answer) (mem : Memory) → a ≢ answer.NotFound → a ≢ answer.Running → Replies (awaited.Prepare i) (answer_of a) mem mem (Ok (Got value.None))
else_prepare i answer.Limit mem not_not_found not_running = got (awaited.Prepare i) (answer_of answer.Limit) mem value.None tt (λ w. refl)
else_prepare i (answer.Created y) mem not_not_found not_running = got (awaited.Prepare i) (answer_of (answer.Created y)) mem value.None tt (λ w. refl)
else_prepare i (answer.QueueMade y) mem not_not_found not_running = got (awaited.Prepare i) (answer_of (answer.QueueMade y)) mem value.None tt (λ w. refl)
else_prepare i (answer.Started y) mem not_not_found not_running = got (awaited.Prepare i) (answer_of (answer.Started y)) mem value.None tt (λ w. refl)
else_prepare i answer.Done mem not_not_found not_running = got (awaited.Prepare i) (answer_of answer.Done) mem value.None tt (λ w. refl)
else_prepare i answer.Full mem not_not_found not_running = got (awaited.Prepare i) (answer_of answer.Full) mem value.None tt (λ w. refl)
else_prepare i answer.Empty mem not_not_found not_running = got (awaited.Prepare i) (answer_of answer.Empty) mem value.None tt (λ w. refl)
else_prepare i (answer.Item y) mem not_not_found not_running = got (awaited.Prepare i) (shared.Item y) mem value.None tt (λ w. item_prepare i (value_of_parcel y) w)
else_prepare i (answer.Count y) mem not_not_found not_running = got (awaited.Prepare i) (answer_of (answer.Count y)) mem value.None tt (λ w. refl)
else_prepare i answer.NotFound mem not_not_found not_running = absurd (not_not_found refl)
else_prepare i answer.Running mem not_not_found not_running = absurd (not_running refl)
else_prepare i answer.Current mem not_not_found not_running = got (awaited.Prepare i) (answer_of answer.Current) mem value.None tt (λ w. refl)
else_prepare i answer.Main mem not_not_found not_running = got (awaited.Prepare i) (answer_of answer.Main) mem value.None tt (λ w. refl)
else_prepare i (answer.Ended y) mem not_not_found not_running = got (awaited.Prepare i) (answer_of (answer.Ended y)) mem value.None tt (λ w. refl)
else_prepare i (answer.Truth y) mem not_not_found not_running = got (awaited.Prepare i) (answer_of (answer.Truth y)) mem value.None tt (λ w. refl)
else_prepare i (answer.Ids y) mem not_not_found not_running = got (awaited.Prepare i) (answer_of (answer.Ids y)) mem value.None tt (λ w. refl)
else_prepare i (answer.Given y) mem not_not_found not_running = got (awaited.Prepare i) (answer_of (answer.Given y)) mem value.None tt (λ w. refl)

item_exec : (i : ℕ) (o : Option pure.Value) (w : World) → reply (request_of (awaited.Exec i)) (item_in o) w ≡ world.Got pure.Nothing w
item_exec i (Some v) w = refl
item_exec i None w = refl

pub else_exec : (i : ℕ) (a : Answer) (mem : Memory) → ((y : ℕ) → a ≢ answer.Started y) → a ≢ answer.NotFound → a ≢ answer.Running → Replies (awaited.Exec i) (answer_of a) mem mem (Ok (Got value.None))
else_exec i answer.Limit mem not_started not_not_found not_running = got (awaited.Exec i) (answer_of answer.Limit) mem value.None tt (λ w. refl)
else_exec i (answer.Created y) mem not_started not_not_found not_running = got (awaited.Exec i) (answer_of (answer.Created y)) mem value.None tt (λ w. refl)
else_exec i (answer.QueueMade y) mem not_started not_not_found not_running = got (awaited.Exec i) (answer_of (answer.QueueMade y)) mem value.None tt (λ w. refl)
else_exec i (answer.Started y) mem not_started not_not_found not_running = absurd (not_started y refl)
else_exec i answer.Done mem not_started not_not_found not_running = got (awaited.Exec i) (answer_of answer.Done) mem value.None tt (λ w. refl)
else_exec i answer.Full mem not_started not_not_found not_running = got (awaited.Exec i) (answer_of answer.Full) mem value.None tt (λ w. refl)
else_exec i answer.Empty mem not_started not_not_found not_running = got (awaited.Exec i) (answer_of answer.Empty) mem value.None tt (λ w. refl)
else_exec i (answer.Item y) mem not_started not_not_found not_running = got (awaited.Exec i) (shared.Item y) mem value.None tt (λ w. item_exec i (value_of_parcel y) w)
else_exec i (answer.Count y) mem not_started not_not_found not_running = got (awaited.Exec i) (answer_of (answer.Count y)) mem value.None tt (λ w. refl)
else_exec i answer.NotFound mem not_started not_not_found not_running = absurd (not_not_found refl)
else_exec i answer.Running mem not_started not_not_found not_running = absurd (not_running refl)
else_exec i answer.Current mem not_started not_not_found not_running = got (awaited.Exec i) (answer_of answer.Current) mem value.None tt (λ w. refl)
else_exec i answer.Main mem not_started not_not_found not_running = got (awaited.Exec i) (answer_of answer.Main) mem value.None tt (λ w. refl)
else_exec i (answer.Ended y) mem not_started not_not_found not_running = got (awaited.Exec i) (answer_of (answer.Ended y)) mem value.None tt (λ w. refl)
else_exec i (answer.Truth y) mem not_started not_not_found not_running = got (awaited.Exec i) (answer_of (answer.Truth y)) mem value.None tt (λ w. refl)
else_exec i (answer.Ids y) mem not_started not_not_found not_running = got (awaited.Exec i) (answer_of (answer.Ids y)) mem value.None tt (λ w. refl)
else_exec i (answer.Given y) mem not_started not_not_found not_running = got (awaited.Exec i) (answer_of (answer.Given y)) mem value.None tt (λ w. refl)

item_await_exec : (o : Option pure.Value) (w : World) → reply (request_of awaited.AwaitExec) (item_in o) w ≡ world.Got pure.Nothing w
item_await_exec (Some v) w = refl
item_await_exec None w = refl

pub else_await_exec : (a : Answer) (mem : Memory) → ((y : Outcome) → a ≢ answer.Ended y) → Replies awaited.AwaitExec (answer_of a) mem mem (Ok (Got value.None))
else_await_exec answer.Limit mem not_ended = got awaited.AwaitExec (answer_of answer.Limit) mem value.None tt (λ w. refl)
else_await_exec (answer.Created y) mem not_ended = got awaited.AwaitExec (answer_of (answer.Created y)) mem value.None tt (λ w. refl)
else_await_exec (answer.QueueMade y) mem not_ended = got awaited.AwaitExec (answer_of (answer.QueueMade y)) mem value.None tt (λ w. refl)
else_await_exec (answer.Started y) mem not_ended = got awaited.AwaitExec (answer_of (answer.Started y)) mem value.None tt (λ w. refl)
else_await_exec answer.Done mem not_ended = got awaited.AwaitExec (answer_of answer.Done) mem value.None tt (λ w. refl)
else_await_exec answer.Full mem not_ended = got awaited.AwaitExec (answer_of answer.Full) mem value.None tt (λ w. refl)
else_await_exec answer.Empty mem not_ended = got awaited.AwaitExec (answer_of answer.Empty) mem value.None tt (λ w. refl)
else_await_exec (answer.Item y) mem not_ended = got awaited.AwaitExec (shared.Item y) mem value.None tt (λ w. item_await_exec (value_of_parcel y) w)
else_await_exec (answer.Count y) mem not_ended = got awaited.AwaitExec (answer_of (answer.Count y)) mem value.None tt (λ w. refl)
else_await_exec answer.NotFound mem not_ended = got awaited.AwaitExec (answer_of answer.NotFound) mem value.None tt (λ w. refl)
else_await_exec answer.Running mem not_ended = got awaited.AwaitExec (answer_of answer.Running) mem value.None tt (λ w. refl)
else_await_exec answer.Current mem not_ended = got awaited.AwaitExec (answer_of answer.Current) mem value.None tt (λ w. refl)
else_await_exec answer.Main mem not_ended = got awaited.AwaitExec (answer_of answer.Main) mem value.None tt (λ w. refl)
else_await_exec (answer.Ended y) mem not_ended = absurd (not_ended y refl)
else_await_exec (answer.Truth y) mem not_ended = got awaited.AwaitExec (answer_of (answer.Truth y)) mem value.None tt (λ w. refl)
else_await_exec (answer.Ids y) mem not_ended = got awaited.AwaitExec (answer_of (answer.Ids y)) mem value.None tt (λ w. refl)
else_await_exec (answer.Given y) mem not_ended = got awaited.AwaitExec (answer_of (answer.Given y)) mem value.None tt (λ w. refl)

item_start_thread : (x : ℕ) (i : ℕ) (o : Option pure.Value) (w : World) → reply (request_of (awaited.StartThread x i)) (item_in o) w ≡ world.Got pure.Nothing w
item_start_thread x i (Some v) w = refl
item_start_thread x i None w = refl

pub else_start_thread : (x : ℕ) (i : ℕ) (a : Answer) (mem : Memory) → ((y : ℕ) → a ≢ answer.Started y) → a ≢ answer.NotFound → a ≢ answer.Running → Replies (awaited.StartThread x i) (answer_of a) mem mem (Ok (Got value.None))
else_start_thread x i answer.Limit mem not_started not_not_found not_running = got (awaited.StartThread x i) (answer_of answer.Limit) mem value.None tt (λ w. refl)
else_start_thread x i (answer.Created y) mem not_started not_not_found not_running = got (awaited.StartThread x i) (answer_of (answer.Created y)) mem value.None tt (λ w. refl)
else_start_thread x i (answer.QueueMade y) mem not_started not_not_found not_running = got (awaited.StartThread x i) (answer_of (answer.QueueMade y)) mem value.None tt (λ w. refl)
else_start_thread x i (answer.Started y) mem not_started not_not_found not_running = absurd (not_started y refl)
else_start_thread x i answer.Done mem not_started not_not_found not_running = got (awaited.StartThread x i) (answer_of answer.Done) mem value.None tt (λ w. refl)
else_start_thread x i answer.Full mem not_started not_not_found not_running = got (awaited.StartThread x i) (answer_of answer.Full) mem value.None tt (λ w. refl)
else_start_thread x i answer.Empty mem not_started not_not_found not_running = got (awaited.StartThread x i) (answer_of answer.Empty) mem value.None tt (λ w. refl)
else_start_thread x i (answer.Item y) mem not_started not_not_found not_running = got (awaited.StartThread x i) (shared.Item y) mem value.None tt (λ w. item_start_thread x i (value_of_parcel y) w)
else_start_thread x i (answer.Count y) mem not_started not_not_found not_running = got (awaited.StartThread x i) (answer_of (answer.Count y)) mem value.None tt (λ w. refl)
else_start_thread x i answer.NotFound mem not_started not_not_found not_running = absurd (not_not_found refl)
else_start_thread x i answer.Running mem not_started not_not_found not_running = absurd (not_running refl)
else_start_thread x i answer.Current mem not_started not_not_found not_running = got (awaited.StartThread x i) (answer_of answer.Current) mem value.None tt (λ w. refl)
else_start_thread x i answer.Main mem not_started not_not_found not_running = got (awaited.StartThread x i) (answer_of answer.Main) mem value.None tt (λ w. refl)
else_start_thread x i (answer.Ended y) mem not_started not_not_found not_running = got (awaited.StartThread x i) (answer_of (answer.Ended y)) mem value.None tt (λ w. refl)
else_start_thread x i (answer.Truth y) mem not_started not_not_found not_running = got (awaited.StartThread x i) (answer_of (answer.Truth y)) mem value.None tt (λ w. refl)
else_start_thread x i (answer.Ids y) mem not_started not_not_found not_running = got (awaited.StartThread x i) (answer_of (answer.Ids y)) mem value.None tt (λ w. refl)
else_start_thread x i (answer.Given y) mem not_started not_not_found not_running = got (awaited.StartThread x i) (answer_of (answer.Given y)) mem value.None tt (λ w. refl)

item_join_thread : (o : Option pure.Value) (w : World) → reply (request_of awaited.JoinThread) (item_in o) w ≡ world.Got pure.Nothing w
item_join_thread (Some v) w = refl
item_join_thread None w = refl

pub else_join_thread : (a : Answer) (mem : Memory) → Replies awaited.JoinThread (answer_of a) mem mem (Ok (Got value.None))
else_join_thread answer.Limit mem = got awaited.JoinThread (answer_of answer.Limit) mem value.None tt (λ w. refl)
else_join_thread (answer.Created y) mem = got awaited.JoinThread (answer_of (answer.Created y)) mem value.None tt (λ w. refl)
else_join_thread (answer.QueueMade y) mem = got awaited.JoinThread (answer_of (answer.QueueMade y)) mem value.None tt (λ w. refl)
else_join_thread (answer.Started y) mem = got awaited.JoinThread (answer_of (answer.Started y)) mem value.None tt (λ w. refl)
else_join_thread answer.Done mem = got awaited.JoinThread (answer_of answer.Done) mem value.None tt (λ w. refl)
else_join_thread answer.Full mem = got awaited.JoinThread (answer_of answer.Full) mem value.None tt (λ w. refl)
else_join_thread answer.Empty mem = got awaited.JoinThread (answer_of answer.Empty) mem value.None tt (λ w. refl)
else_join_thread (answer.Item y) mem = got awaited.JoinThread (shared.Item y) mem value.None tt (λ w. item_join_thread (value_of_parcel y) w)
else_join_thread (answer.Count y) mem = got awaited.JoinThread (answer_of (answer.Count y)) mem value.None tt (λ w. refl)
else_join_thread answer.NotFound mem = got awaited.JoinThread (answer_of answer.NotFound) mem value.None tt (λ w. refl)
else_join_thread answer.Running mem = got awaited.JoinThread (answer_of answer.Running) mem value.None tt (λ w. refl)
else_join_thread answer.Current mem = got awaited.JoinThread (answer_of answer.Current) mem value.None tt (λ w. refl)
else_join_thread answer.Main mem = got awaited.JoinThread (answer_of answer.Main) mem value.None tt (λ w. refl)
else_join_thread (answer.Ended y) mem = got awaited.JoinThread (answer_of (answer.Ended y)) mem value.None tt (λ w. refl)
else_join_thread (answer.Truth y) mem = got awaited.JoinThread (answer_of (answer.Truth y)) mem value.None tt (λ w. refl)
else_join_thread (answer.Ids y) mem = got awaited.JoinThread (answer_of (answer.Ids y)) mem value.None tt (λ w. refl)
else_join_thread (answer.Given y) mem = got awaited.JoinThread (answer_of (answer.Given y)) mem value.None tt (λ w. refl)

item_list_all : (o : Option pure.Value) (w : World) → reply (request_of awaited.ListAll) (item_in o) w ≡ world.Got pure.Nothing w
item_list_all (Some v) w = refl
item_list_all None w = refl

pub else_list_all : (a : Answer) (mem : Memory) → ((y : List ℕ) → a ≢ answer.Ids y) → Replies awaited.ListAll (answer_of a) mem mem (Ok (Got value.None))
else_list_all answer.Limit mem not_ids = got awaited.ListAll (answer_of answer.Limit) mem value.None tt (λ w. refl)
else_list_all (answer.Created y) mem not_ids = got awaited.ListAll (answer_of (answer.Created y)) mem value.None tt (λ w. refl)
else_list_all (answer.QueueMade y) mem not_ids = got awaited.ListAll (answer_of (answer.QueueMade y)) mem value.None tt (λ w. refl)
else_list_all (answer.Started y) mem not_ids = got awaited.ListAll (answer_of (answer.Started y)) mem value.None tt (λ w. refl)
else_list_all answer.Done mem not_ids = got awaited.ListAll (answer_of answer.Done) mem value.None tt (λ w. refl)
else_list_all answer.Full mem not_ids = got awaited.ListAll (answer_of answer.Full) mem value.None tt (λ w. refl)
else_list_all answer.Empty mem not_ids = got awaited.ListAll (answer_of answer.Empty) mem value.None tt (λ w. refl)
else_list_all (answer.Item y) mem not_ids = got awaited.ListAll (shared.Item y) mem value.None tt (λ w. item_list_all (value_of_parcel y) w)
else_list_all (answer.Count y) mem not_ids = got awaited.ListAll (answer_of (answer.Count y)) mem value.None tt (λ w. refl)
else_list_all answer.NotFound mem not_ids = got awaited.ListAll (answer_of answer.NotFound) mem value.None tt (λ w. refl)
else_list_all answer.Running mem not_ids = got awaited.ListAll (answer_of answer.Running) mem value.None tt (λ w. refl)
else_list_all answer.Current mem not_ids = got awaited.ListAll (answer_of answer.Current) mem value.None tt (λ w. refl)
else_list_all answer.Main mem not_ids = got awaited.ListAll (answer_of answer.Main) mem value.None tt (λ w. refl)
else_list_all (answer.Ended y) mem not_ids = got awaited.ListAll (answer_of (answer.Ended y)) mem value.None tt (λ w. refl)
else_list_all (answer.Truth y) mem not_ids = got awaited.ListAll (answer_of (answer.Truth y)) mem value.None tt (λ w. refl)
else_list_all (answer.Ids y) mem not_ids = absurd (not_ids y refl)
else_list_all (answer.Given y) mem not_ids = got awaited.ListAll (answer_of (answer.Given y)) mem value.None tt (λ w. refl)

item_is_running : (i : ℕ) (o : Option pure.Value) (w : World) → reply (request_of (awaited.IsRunning i)) (item_in o) w ≡ world.Got pure.Nothing w
item_is_running i (Some v) w = refl
item_is_running i None w = refl

pub else_is_running : (i : ℕ) (a : Answer) (mem : Memory) → ((y : Bool) → a ≢ answer.Truth y) → a ≢ answer.NotFound → Replies (awaited.IsRunning i) (answer_of a) mem mem (Ok (Got value.None))
else_is_running i answer.Limit mem not_truth not_not_found = got (awaited.IsRunning i) (answer_of answer.Limit) mem value.None tt (λ w. refl)
else_is_running i (answer.Created y) mem not_truth not_not_found = got (awaited.IsRunning i) (answer_of (answer.Created y)) mem value.None tt (λ w. refl)
else_is_running i (answer.QueueMade y) mem not_truth not_not_found = got (awaited.IsRunning i) (answer_of (answer.QueueMade y)) mem value.None tt (λ w. refl)
else_is_running i (answer.Started y) mem not_truth not_not_found = got (awaited.IsRunning i) (answer_of (answer.Started y)) mem value.None tt (λ w. refl)
else_is_running i answer.Done mem not_truth not_not_found = got (awaited.IsRunning i) (answer_of answer.Done) mem value.None tt (λ w. refl)
else_is_running i answer.Full mem not_truth not_not_found = got (awaited.IsRunning i) (answer_of answer.Full) mem value.None tt (λ w. refl)
else_is_running i answer.Empty mem not_truth not_not_found = got (awaited.IsRunning i) (answer_of answer.Empty) mem value.None tt (λ w. refl)
else_is_running i (answer.Item y) mem not_truth not_not_found = got (awaited.IsRunning i) (shared.Item y) mem value.None tt (λ w. item_is_running i (value_of_parcel y) w)
else_is_running i (answer.Count y) mem not_truth not_not_found = got (awaited.IsRunning i) (answer_of (answer.Count y)) mem value.None tt (λ w. refl)
else_is_running i answer.NotFound mem not_truth not_not_found = absurd (not_not_found refl)
else_is_running i answer.Running mem not_truth not_not_found = got (awaited.IsRunning i) (answer_of answer.Running) mem value.None tt (λ w. refl)
else_is_running i answer.Current mem not_truth not_not_found = got (awaited.IsRunning i) (answer_of answer.Current) mem value.None tt (λ w. refl)
else_is_running i answer.Main mem not_truth not_not_found = got (awaited.IsRunning i) (answer_of answer.Main) mem value.None tt (λ w. refl)
else_is_running i (answer.Ended y) mem not_truth not_not_found = got (awaited.IsRunning i) (answer_of (answer.Ended y)) mem value.None tt (λ w. refl)
else_is_running i (answer.Truth y) mem not_truth not_not_found = absurd (not_truth y refl)
else_is_running i (answer.Ids y) mem not_truth not_not_found = got (awaited.IsRunning i) (answer_of (answer.Ids y)) mem value.None tt (λ w. refl)
else_is_running i (answer.Given y) mem not_truth not_not_found = got (awaited.IsRunning i) (answer_of (answer.Given y)) mem value.None tt (λ w. refl)

item_close : (i : ℕ) (o : Option pure.Value) (w : World) → reply (request_of (awaited.Close i)) (item_in o) w ≡ world.Got pure.Nothing w
item_close i (Some v) w = refl
item_close i None w = refl

pub else_close : (i : ℕ) (a : Answer) (mem : Memory) → a ≢ answer.NotFound → a ≢ answer.Current → a ≢ answer.Main → a ≢ answer.Running → Replies (awaited.Close i) (answer_of a) mem mem (Ok (Got value.None))
else_close i answer.Limit mem not_not_found not_current not_main not_running = got (awaited.Close i) (answer_of answer.Limit) mem value.None tt (λ w. refl)
else_close i (answer.Created y) mem not_not_found not_current not_main not_running = got (awaited.Close i) (answer_of (answer.Created y)) mem value.None tt (λ w. refl)
else_close i (answer.QueueMade y) mem not_not_found not_current not_main not_running = got (awaited.Close i) (answer_of (answer.QueueMade y)) mem value.None tt (λ w. refl)
else_close i (answer.Started y) mem not_not_found not_current not_main not_running = got (awaited.Close i) (answer_of (answer.Started y)) mem value.None tt (λ w. refl)
else_close i answer.Done mem not_not_found not_current not_main not_running = got (awaited.Close i) (answer_of answer.Done) mem value.None tt (λ w. refl)
else_close i answer.Full mem not_not_found not_current not_main not_running = got (awaited.Close i) (answer_of answer.Full) mem value.None tt (λ w. refl)
else_close i answer.Empty mem not_not_found not_current not_main not_running = got (awaited.Close i) (answer_of answer.Empty) mem value.None tt (λ w. refl)
else_close i (answer.Item y) mem not_not_found not_current not_main not_running = got (awaited.Close i) (shared.Item y) mem value.None tt (λ w. item_close i (value_of_parcel y) w)
else_close i (answer.Count y) mem not_not_found not_current not_main not_running = got (awaited.Close i) (answer_of (answer.Count y)) mem value.None tt (λ w. refl)
else_close i answer.NotFound mem not_not_found not_current not_main not_running = absurd (not_not_found refl)
else_close i answer.Running mem not_not_found not_current not_main not_running = absurd (not_running refl)
else_close i answer.Current mem not_not_found not_current not_main not_running = absurd (not_current refl)
else_close i answer.Main mem not_not_found not_current not_main not_running = absurd (not_main refl)
else_close i (answer.Ended y) mem not_not_found not_current not_main not_running = got (awaited.Close i) (answer_of (answer.Ended y)) mem value.None tt (λ w. refl)
else_close i (answer.Truth y) mem not_not_found not_current not_main not_running = got (awaited.Close i) (answer_of (answer.Truth y)) mem value.None tt (λ w. refl)
else_close i (answer.Ids y) mem not_not_found not_current not_main not_running = got (awaited.Close i) (answer_of (answer.Ids y)) mem value.None tt (λ w. refl)
else_close i (answer.Given y) mem not_not_found not_current not_main not_running = got (awaited.Close i) (answer_of (answer.Given y)) mem value.None tt (λ w. refl)
