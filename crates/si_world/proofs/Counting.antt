-- How many interpreters there are after a shared action: one more where one was created, and as many otherwise.
use Rattle.std.proofs.Common.{◌≡◌, ℕ, ◌+◌, ◌≤◌, List, [], ◌∷◌, ◌++◌, length, length-append, Bool, true, false, Option, Some, None, refl, subst, arith, if◌then◌else◌}
use Rattle.std.specs.Prelude.{◌==◌, nat_le, slice_get}
use Rattle.std.proofs.lemmas.List.{length-set}
use Rattle.si_semantics.specs.Value.{Text}
use Rattle.si_semantics.specs.Parcels.{Tree}
use Rattle.si_semantics.specs.Life.{Outcome}
use Rattle.si_semantics.specs.Actions.{Job, Action, Create, CreateQueue, Put, PutNow, Get, GetNow, Size, Prepare, Start, Await, IsRunning, Close, ListAll, Take, End, Answer}
use Rattle.si_semantics.specs.Actions as answer
use Rattle.si_semantics.specs.Shared.{State, Queue, Standing, Idle, Running, Closed, Reply, NotNow, Replied, if_given, is_full, is_closed, is_running, taken_run, idle_interpreter, with_items, with_interpreter, create, max_queues, create_queue, put_else, take_first, get_else, prepare_at, start_at, close_at, take_job, row, may_act, reply}
use Rattle.si_hub.specs.HubCode.{Past}
use Rattle.si_hub.specs.Hubs.{state_of, Acts}
use Rattle.si_world.specs.inner.Counting.{is_created}
use Rattle.si_world.specs.Worlds.{created}

-- there are so many after a reply, where there were n
pub Growing : ℕ → Reply → Type 0
Growing n NotNow = Unit {0}
Growing n (Replied r t) = length t.interpreters ≡ (if is_created r then n + 1 else n)

given_grows : {A : Type 0} (n : ℕ) (o : Option A) (f : A → Reply) → ((x : A) → Growing n (f x)) → Growing n (if_given o f)
unfolding Growing
given_grows n None f h = tt
given_grows n (Some x) f h = h x

if_grows : (n : ℕ) (b : Bool) (x y : Reply) → Growing n x → Growing n y → Growing n (if b then x else y)
if_grows n true x y h k = h
if_grows n false x y h k = k

same : (s : State) (r : Answer) → is_created r ≡ false → Growing (length s.interpreters) (Replied r s)
unfolding Growing
same s r e = rw e refl

items_grow : (s : State) (r : Answer) (q : ℕ) (l : Queue) (items : List Tree) → is_created r ≡ false → Growing (length s.interpreters) (Replied r (with_items s q l items))
unfolding Growing
items_grow s r q l items e = rw e refl

interpreter_grows : (s : State) (r : Answer) (j : ℕ) (standing : Standing) (inbox : List Job) (runs : List (Option Outcome)) → is_created r ≡ false
    → Growing (length s.interpreters) (Replied r (record (with_interpreter s j standing inbox) { runs = runs }))
unfolding Growing
interpreter_grows s r j standing inbox runs e = rw e (length-set s.interpreters j (record { standing = standing; inbox = inbox }))

create_grows : (w : ℕ) (s : State) → Growing (length s.interpreters) (create w s)
unfolding Growing
create_grows w s = if_grows (length s.interpreters) (nat_le w (length s.interpreters)) _ _ refl (length-append s.interpreters (idle_interpreter ∷ []))

queue_grows : (s : State) (maxsize : ℕ) → Growing (length s.interpreters) (create_queue maxsize s)
unfolding Growing
queue_grows s maxsize = if_grows (length s.interpreters) (nat_le max_queues (length s.queues)) _ _ refl refl

put_grows : (s : State) (instead : Reply) (q : ℕ) (p : Tree) → Growing (length s.interpreters) instead → Growing (length s.interpreters) (put_else instead q p s)
put_grows s instead q p h =
    given_grows (length s.interpreters) (slice_get s.queues q) _ (λ l. if_grows (length s.interpreters) (is_full l) instead _ h (items_grow s answer.Done q l (l.items ++ p ∷ []) refl))

first_grows : (s : State) (instead : Reply) (q : ℕ) (l : Queue) (items : List Tree) → Growing (length s.interpreters) instead → Growing (length s.interpreters) (take_first instead q l items s)
first_grows s instead q l [] h = h
first_grows s instead q l (p ∷ rest) h = items_grow s (answer.Item p) q l rest refl

get_grows : (s : State) (instead : Reply) (q : ℕ) → Growing (length s.interpreters) instead → Growing (length s.interpreters) (get_else instead q s)
get_grows s instead q h = given_grows (length s.interpreters) (slice_get s.queues q) _ (λ l. first_grows s instead q l l.items h)

prepare_grows : (s : State) (standing : Standing) (j : ℕ) (inbox : List Job) (binds : List (Text × Tree)) → Growing (length s.interpreters) (prepare_at standing j inbox binds s)
prepare_grows s Closed j inbox binds = same s answer.NotFound refl
prepare_grows s (Running r) j inbox binds = same s answer.Running refl
prepare_grows s Idle j inbox binds = interpreter_grows s answer.Done j Idle _ s.runs refl

start_grows : (s : State) (standing : Standing) (j : ℕ) (inbox : List Job) (text : Text) → Growing (length s.interpreters) (start_at standing j inbox text s)
start_grows s Closed j inbox text = same s answer.NotFound refl
start_grows s (Running r) j inbox text = same s answer.Running refl
start_grows s Idle j inbox text = interpreter_grows s (answer.Started (length s.runs)) j (Running (length s.runs)) _ _ refl

close_grows : (s : State) (standing : Standing) (i j : ℕ) (inbox : List Job) → Growing (length s.interpreters) (close_at standing i j inbox s)
close_grows s standing i j inbox =
    let n = length s.interpreters in
    if_grows n (is_closed standing) _ _ (same s answer.NotFound refl)
    (if_grows n (i == j) _ _ (same s answer.Current refl)
    (if_grows n (j == 0) _ _ (same s answer.Main refl)
    (if_grows n (is_running standing) _ _ (same s answer.Running refl) (interpreter_grows s answer.Done j Closed _ s.runs refl))))

take_grows : (s : State) (standing : Standing) (i : ℕ) (inbox : List Job) → Growing (length s.interpreters) (take_job standing i inbox s)
unfolding Growing
take_grows s standing i [] = tt
take_grows s standing i (j ∷ rest) = interpreter_grows s (answer.Given j) i standing rest s.runs refl

nothing_grows : (n : ℕ) → Growing n NotNow
unfolding Growing
nothing_grows n = tt

row_grows : (w : ℕ) (s : State) (i : ℕ) (a : Action) → Growing (length s.interpreters) (row w s i a)
row_grows w s i Create = create_grows w s
row_grows w s i (CreateQueue maxsize) = queue_grows s maxsize
row_grows w s i (Put q p) = put_grows s NotNow q p (nothing_grows _)
row_grows w s i (PutNow q p) = put_grows s (Replied answer.Full s) q p (same s answer.Full refl)
row_grows w s i (Get q) = get_grows s NotNow q (nothing_grows _)
row_grows w s i (GetNow q) = get_grows s (Replied answer.Empty s) q (same s answer.Empty refl)
row_grows w s i (Size q) = given_grows _ (slice_get s.queues q) _ (λ l. same s (answer.Count (length l.items)) refl)
row_grows w s i (Prepare j binds) = given_grows _ (slice_get s.interpreters j) _ (λ m. prepare_grows s m.standing j m.inbox binds)
row_grows w s i (Start j text) = given_grows _ (slice_get s.interpreters j) _ (λ m. start_grows s m.standing j m.inbox text)
row_grows w s i (Await r) = given_grows _ (slice_get s.runs r) _ (λ ended. given_grows _ ended _ (λ o. same s (answer.Ended o) refl))
row_grows w s i (IsRunning j) =
    given_grows _ (slice_get s.interpreters j) _ (λ m. if_grows _ (is_closed m.standing) _ _ (same s answer.NotFound refl) (same s (answer.Truth (is_running m.standing)) refl))
row_grows w s i (Close j) = given_grows _ (slice_get s.interpreters j) _ (λ m. close_grows s m.standing i j m.inbox)
row_grows w s i ListAll = same s _ refl
row_grows w s i Take = given_grows _ (slice_get s.interpreters i) _ (λ m. take_grows s m.standing i m.inbox)
row_grows w s i (End o) = given_grows _ (taken_run (slice_get s.interpreters i)) _ (λ r. interpreter_grows s answer.Done i Idle [] _ refl)

reply_grows : (w : ℕ) (s : State) (i : ℕ) (a : Action) → Growing (length s.interpreters) (reply w s i a)
unfolding reply
reply_grows w s i a = if_grows _ (may_act s i a) (row w s i a) NotNow (row_grows w s i a) (nothing_grows _)

replied_grows : (n : ℕ) (x : Reply) (r : Answer) (t : State) → x ≡ Replied r t → Growing n x → length t.interpreters ≡ (if is_created r then n + 1 else n)
unfolding Growing
replied_grows n x r t e h = let k : Growing n (Replied r t) = subst (Growing n) e h in k

-- the same of what was acted
pub created_after : (p q : Past) (i : ℕ) (a : Action) (r : Answer) → Acts p i a r q → created q ≡ (if is_created r then created p + 1 else created p)
created_after p q i a r h = replied_grows (created p) _ r (state_of q) h.replied (reply_grows p.limits.interpreters (state_of p) i a)

not_fewer : (n m : ℕ) (b : Bool) → m ≡ (if b then n + 1 else n) → n ≤ m
not_fewer n m true e = omega arith
not_fewer n m false e = omega arith

pub grows_more : (p q : Past) (i : ℕ) (a : Action) (r : Answer) → Acts p i a r q → created p ≤ created q
grows_more p q i a r h = not_fewer (created p) (created q) (is_created r) (created_after p q i a r h)
