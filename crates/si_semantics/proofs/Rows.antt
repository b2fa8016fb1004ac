-- What each row of the table keeps.
use Rattle.std.proofs.Common.{◌≡◌, ◌≢◌, ℕ, zero, suc, ◌<◌, ◌≤◌, List, [], ◌∷◌, ◌++◌, length, length-append, Bool, true, false, Option, Some, None, refl, sym, ap, ◌∙◌, subst, arith}
use Rattle.std.specs.Prelude.{◌==◌, nat_le, slice_get, slice_set, if◌then◌else◌}
use Rattle.std.proofs.lemmas.Bool.{eqb-true, eqb-false, leb-false}
use Rattle.std.proofs.lemmas.List.{append-nil, length-set}
use Rattle.si_semantics.specs.Value.{Text}
use Rattle.si_semantics.specs.Parcels.{Tree}
use Rattle.si_semantics.specs.Life.{Outcome}
use Rattle.si_semantics.specs.Actions.{Job, Action, Create, CreateQueue, Put, PutNow, Get, GetNow, Size, Prepare, Start, Await, IsRunning, Close, ListAll, Take, End, Answer, fits}
use Rattle.si_semantics.specs.Actions as answer
use Rattle.si_semantics.specs.Shared.{State, Queue, Interpreter, Standing, Idle, Running, Closed, Reply, NotNow, Replied, if_given, is_full, is_closed, is_running, run_if_empty, taken_run, empty_queue, idle_interpreter, holding, with_items, with_interpreter, open_from, create, max_queues, create_queue, put_else, take_first, get_else, size, prepare_at, prepare, start_at, start, await, running, close_at, close, take_job, take, end, row, may_act, reply}
use Rattle.si_semantics.specs.SharedLaws.{only, put_by, taken_by, items_of, held_by, Number, OfInterpreter, OfQueue, OfRun, given, standing_of, standing_in}

-- ---- lists by their places

set_here : {A : Type 0} (xs : List A) (k : ℕ) (x y : A) → slice_get xs k ≡ Some x → slice_get (slice_set xs k y) k ≡ Some y
set_here [] k x y e = cc
set_here (z ∷ xs) zero x y e = refl
set_here (z ∷ xs) (suc k) x y e = set_here xs k x y e

set_elsewhere : {A : Type 0} (xs : List A) (k i : ℕ) (y : A) → k ≢ i → slice_get (slice_set xs k y) i ≡ slice_get xs i
set_elsewhere [] k i y n = refl
set_elsewhere (z ∷ xs) zero zero y n = absurd (n refl)
set_elsewhere (z ∷ xs) zero (suc i) y n = refl
set_elsewhere (z ∷ xs) (suc k) zero y n = refl
set_elsewhere (z ∷ xs) (suc k) (suc i) y n = set_elsewhere xs k i y (λ e. n (ap (λ m. suc m) e))

-- ---- what a reply keeps

-- there is something of this number
abbrev pub IsThere : State → Number → Type 0
IsThere s (OfInterpreter i) = i < length s.interpreters
IsThere s (OfQueue q) = q < length s.queues
IsThere s (OfRun r) = r < length s.runs

-- what has this number is there now, and was not before
pub record IsNew (s t : State) (x : Number) : Type 0 where
  pub not_before : IsThere s x → ⊥
  pub now : IsThere t x

abbrev pub IsNewIfGiven : State → State → Option Number → Type 0
IsNewIfGiven s t None = Unit {0}
IsNewIfGiven s t (Some x) = IsNew s t x

-- an action was answered r in the state s, and left t
pub record Did (w : ℕ) (s : State) (a : Action) (r : Answer) (t : State) : Type 0 where
  pub queues : (q : ℕ) → held_by q s ++ put_by q a r ≡ taken_by q a r ++ held_by q t
  pub closed : (i : ℕ) → standing_in s i ≡ Some Closed → standing_in t i ≡ Some Closed
  pub numbers : IsNewIfGiven s t (given r)
  pub more_interpreters : length s.interpreters ≤ length t.interpreters
  pub more_queues : length s.queues ≤ length t.queues
  pub more_runs : length s.runs ≤ length t.runs
  pub interpreters : length s.interpreters ≤ w → length t.interpreters ≤ w
  pub few_queues : length s.queues ≤ max_queues → length t.queues ≤ max_queues
  pub fits : fits r a ≡ true

abbrev pub Keeps : ℕ → State → Action → Reply → Type 0
Keeps w s a NotNow = Unit {0}
Keeps w s a (Replied r t) = Did w s a r t

if_given_keeps : {A : Type 0} (w : ℕ) (s : State) (a : Action) (o : Option A) (f : A → Reply) → ((x : A) → o ≡ Some x → Keeps w s a (f x)) → Keeps w s a (if_given o f)
if_given_keeps w s a None f h = tt
if_given_keeps w s a (Some x) f h = h x refl

if_keeps : (w : ℕ) (s : State) (a : Action) (b : Bool) (x y : Reply) → (b ≡ true → Keeps w s a x) → (b ≡ false → Keeps w s a y) → Keeps w s a (if b then x else y)
if_keeps w s a true x y h k = h refl
if_keeps w s a false x y h k = k refl

-- an action that is no put and no get, by its answer
pub record IsNoItem (a : Action) (r : Answer) : Type 0 where
  pub put : (q : ℕ) → put_by q a r ≡ []
  pub taken : (q : ℕ) → taken_by q a r ≡ []
  pub fits : fits r a ≡ true

no_item : (qs ks : List Queue) (a : Action) (r : Answer) → IsNoItem a r → ((q : ℕ) → items_of (slice_get qs q) ≡ items_of (slice_get ks q))
    → (q : ℕ) → items_of (slice_get qs q) ++ put_by q a r ≡ taken_by q a r ++ items_of (slice_get ks q)
no_item qs ks a r n h q = rw (n.put q, n.taken q, h q) (append-nil (items_of (slice_get ks q)))

-- nothing changes
same : (w : ℕ) (s : State) (a : Action) (r : Answer) → IsNoItem a r → given r ≡ None → Did w s a r s
same w s a r n g = record {
  queues = no_item s.queues s.queues a r n (λ q. refl);
  closed = λ i h. h;
  numbers = subst (λ x. IsNewIfGiven s s x) (sym g) tt;
  more_interpreters = omega arith;
  more_queues = omega arith;
  more_runs = omega arith;
  interpreters = λ h. h;
  few_queues = λ h. h;
  fits = n.fits;
}

-- ---- queues

put_held : (qs : List Queue) (k q : ℕ) (l : Queue) (p : Tree) → slice_get qs k ≡ Some l
    → items_of (slice_get qs q) ++ only (k == q) p ≡ items_of (slice_get (slice_set qs k (holding (l.items ++ p ∷ []) l)) q)
put_held qs k q l p e = by (k == q) refl
  where
    by : (b : Bool) → (k == q) ≡ b → items_of (slice_get qs q) ++ only b p ≡ items_of (slice_get (slice_set qs k (holding (l.items ++ p ∷ []) l)) q)
    by true h = rw (← eqb-true k q h, set_here qs k l (holding (l.items ++ p ∷ []) l) e, e) refl
    by false h = rw (set_elsewhere qs k q (holding (l.items ++ p ∷ []) l) (eqb-false k q h)) (append-nil (items_of (slice_get qs q)))

got_held : (qs : List Queue) (k q : ℕ) (l : Queue) (p : Tree) (rest : List Tree) → slice_get qs k ≡ Some l → l.items ≡ p ∷ rest
    → items_of (slice_get qs q) ++ [] ≡ only (k == q) p ++ items_of (slice_get (slice_set qs k (holding rest l)) q)
got_held qs k q l p rest e f = append-nil (items_of (slice_get qs q)) ∙ by (k == q) refl
  where
    by : (b : Bool) → (k == q) ≡ b → items_of (slice_get qs q) ≡ only b p ++ items_of (slice_get (slice_set qs k (holding rest l)) q)
    by true h = rw (← eqb-true k q h, set_here qs k l (holding rest l) e, e) f
    by false h = rw (set_elsewhere qs k q (holding rest l) (eqb-false k q h)) refl

-- queue k, which is l, has other items
with_items_keeps : (w : ℕ) (s : State) (a : Action) (r : Answer) (k : ℕ) (l : Queue) (items : List Tree)
    → ((q : ℕ) → held_by q s ++ put_by q a r ≡ taken_by q a r ++ items_of (slice_get (slice_set s.queues k (holding items l)) q))
    → given r ≡ None → fits r a ≡ true → Did w s a r (with_items s k l items)
with_items_keeps w s a r k l items h g f =
    let e = length-set s.queues k (holding items l) in
    record {
      queues = h;
      closed = λ i x. x;
      numbers = subst (λ x. IsNewIfGiven s (with_items s k l items) x) (sym g) tt;
      more_interpreters = omega arith;
      more_queues = omega (arith, e);
      more_runs = omega arith;
      interpreters = λ x. x;
      few_queues = λ x. omega (arith, e, x);
      fits = f;
    }

-- a put, where the queue is not full
pub record IsPut (a : Action) (k : ℕ) (p : Tree) : Type 0 where
  pub put : (q : ℕ) → put_by q a answer.Done ≡ only (k == q) p
  pub taken : (q : ℕ) → taken_by q a answer.Done ≡ []
  pub fits : fits answer.Done a ≡ true

put_keeps : (w : ℕ) (s : State) (a : Action) (instead : Reply) (k : ℕ) (p : Tree) → Keeps w s a instead → IsPut a k p → Keeps w s a (put_else instead k p s)
put_keeps w s a instead k p h n =
    if_given_keeps w s a (slice_get s.queues k) _
    (λ l e. if_keeps w s a (is_full l) instead _ (λ _. h)
    (λ _. with_items_keeps w s a answer.Done k l (l.items ++ p ∷ []) (λ q. rw (n.put q, n.taken q) (put_held s.queues k q l p e)) refl n.fits))

-- a get, where the queue is not empty
pub record IsGet (a : Action) (k : ℕ) : Type 0 where
  pub put : (q : ℕ) (p : Tree) → put_by q a (answer.Item p) ≡ []
  pub taken : (q : ℕ) (p : Tree) → taken_by q a (answer.Item p) ≡ only (k == q) p
  pub fits : (p : Tree) → fits (answer.Item p) a ≡ true

take_first_keeps : (w : ℕ) (s : State) (a : Action) (instead : Reply) (k : ℕ) (l : Queue) (items : List Tree) → Keeps w s a instead → IsGet a k
    → slice_get s.queues k ≡ Some l → l.items ≡ items → Keeps w s a (take_first instead k l items s)
take_first_keeps w s a instead k l [] h n e f = h
take_first_keeps w s a instead k l (p ∷ rest) h n e f =
    with_items_keeps w s a (answer.Item p) k l rest (λ q. rw (n.put q p, n.taken q p) (got_held s.queues k q l p rest e f)) refl (n.fits p)

get_keeps : (w : ℕ) (s : State) (a : Action) (instead : Reply) (k : ℕ) → Keeps w s a instead → IsGet a k → Keeps w s a (get_else instead k s)
get_keeps w s a instead k h n = if_given_keeps w s a (slice_get s.queues k) _ (λ l e. take_first_keeps w s a instead k l l.items h n e refl)

size_keeps : (w : ℕ) (s : State) (q : ℕ) → Keeps w s (Size q) (size q s)
size_keeps w s q =
    if_given_keeps w s (Size q) (slice_get s.queues q) _
    (λ l e. same w s (Size q) (answer.Count (length l.items)) (record { put = λ _. refl; taken = λ _. refl; fits = refl }) refl)

held_one_more : (qs : List Queue) (maxsize q : ℕ) → items_of (slice_get qs q) ≡ items_of (slice_get (qs ++ empty_queue maxsize ∷ []) q)
held_one_more [] maxsize zero = refl
held_one_more [] maxsize (suc q) = refl
held_one_more (l ∷ qs) maxsize zero = refl
held_one_more (l ∷ qs) maxsize (suc q) = held_one_more qs maxsize q

create_queue_keeps : (w : ℕ) (s : State) (maxsize : ℕ) → Keeps w s (CreateQueue maxsize) (create_queue maxsize s)
create_queue_keeps w s maxsize =
    if_keeps w s (CreateQueue maxsize) (nat_le max_queues (length s.queues)) _ _
    (λ _. same w s (CreateQueue maxsize) answer.Limit (record { put = λ _. refl; taken = λ _. refl; fits = refl }) refl)
    (λ e.
    let few = leb-false max_queues (length s.queues) e in
    let l = length-append s.queues (empty_queue maxsize ∷ []) in
    record {
      queues = no_item s.queues (s.queues ++ empty_queue maxsize ∷ []) (CreateQueue maxsize) (answer.QueueMade (length s.queues)) (record { put = λ _. refl; taken = λ _. refl; fits = refl }) (held_one_more s.queues maxsize);
      closed = λ i x. x;
      numbers = record { not_before = λ x. omega (arith, x); now = omega (arith, l) };
      more_interpreters = omega arith;
      more_queues = omega (arith, l);
      more_runs = omega arith;
      interpreters = λ x. x;
      few_queues = λ x. omega (arith, l, few);
      fits = refl;
    })

-- ---- interpreters

standing_one_more : (ms : List Interpreter) (i : ℕ) → standing_of (slice_get ms i) ≡ Some Closed → standing_of (slice_get (ms ++ idle_interpreter ∷ []) i) ≡ Some Closed
standing_one_more [] i h = cc
standing_one_more (m ∷ ms) zero h = h
standing_one_more (m ∷ ms) (suc i) h = standing_one_more ms i h

create_keeps : (w : ℕ) (s : State) → Keeps w s Create (create w s)
create_keeps w s =
    if_keeps w s Create (nat_le w (length s.interpreters)) _ _
    (λ _. same w s Create answer.Limit (record { put = λ _. refl; taken = λ _. refl; fits = refl }) refl)
    (λ e.
    let few = leb-false w (length s.interpreters) e in
    let l = length-append s.interpreters (idle_interpreter ∷ []) in
    record {
      queues = no_item s.queues s.queues Create (answer.Created (length s.interpreters)) (record { put = λ _. refl; taken = λ _. refl; fits = refl }) (λ q. refl);
      closed = standing_one_more s.interpreters;
      numbers = record { not_before = λ x. omega (arith, x); now = omega (arith, l) };
      more_interpreters = omega (arith, l);
      more_queues = omega arith;
      more_runs = omega arith;
      interpreters = λ x. omega (arith, l, few);
      few_queues = λ x. x;
      fits = refl;
    })

closed_set : (ms : List Interpreter) (j i : ℕ) (m : Interpreter) (standing : Standing) (inbox : List Job) → slice_get ms j ≡ Some m → (m.standing ≡ Closed → standing ≡ Closed)
    → standing_of (slice_get ms i) ≡ Some Closed → standing_of (slice_get (slice_set ms j (record { standing = standing; inbox = inbox })) i) ≡ Some Closed
closed_set [] j i m standing inbox e c h = cc
closed_set (n ∷ ms) zero zero m standing inbox e c h = let f : m.standing ≡ Closed = cc in ap (λ x. Some x) (c f)
closed_set (n ∷ ms) zero (suc i) m standing inbox e c h = h
closed_set (n ∷ ms) (suc j) zero m standing inbox e c h = h
closed_set (n ∷ ms) (suc j) (suc i) m standing inbox e c h = closed_set ms j i m standing inbox e c h

-- interpreter j, which is m, changes; runs are added or end
interpreter_keeps : (w : ℕ) (s : State) (a : Action) (r : Answer) (j : ℕ) (m : Interpreter) (standing : Standing) (inbox : List Job) (runs : List (Option Outcome))
    → slice_get s.interpreters j ≡ Some m → (m.standing ≡ Closed → standing ≡ Closed) → length s.runs ≤ length runs → IsNoItem a r
    → (let t : State = record (with_interpreter s j standing inbox) { runs = runs } in IsNewIfGiven s t (given r) → Did w s a r t)
interpreter_keeps w s a r j m standing inbox runs e c u n g =
    let l = length-set s.interpreters j (record { standing = standing; inbox = inbox }) in
    record {
      queues = no_item s.queues s.queues a r n (λ q. refl);
      closed = λ i h. closed_set s.interpreters j i m standing inbox e c h;
      numbers = g;
      more_interpreters = omega (arith, l);
      more_queues = omega arith;
      more_runs = u;
      interpreters = λ x. omega (arith, l, x);
      few_queues = λ x. x;
      fits = n.fits;
    }

prepare_at_keeps : (w : ℕ) (s : State) (standing : Standing) (j : ℕ) (m : Interpreter) (binds : List (Text × Tree)) → slice_get s.interpreters j ≡ Some m → m.standing ≡ standing
    → Keeps w s (Prepare j binds) (prepare_at standing j m.inbox binds s)
prepare_at_keeps w s Closed j m binds e f = same w s _ answer.NotFound (record { put = λ _. refl; taken = λ _. refl; fits = refl }) refl
prepare_at_keeps w s (Running r) j m binds e f = same w s _ answer.Running (record { put = λ _. refl; taken = λ _. refl; fits = refl }) refl
prepare_at_keeps w s Idle j m binds e f =
    interpreter_keeps w s _ answer.Done j m Idle _ s.runs e (λ c. cc) (omega arith) (record { put = λ _. refl; taken = λ _. refl; fits = refl }) tt

prepare_keeps : (w : ℕ) (s : State) (j : ℕ) (binds : List (Text × Tree)) → Keeps w s (Prepare j binds) (prepare j binds s)
prepare_keeps w s j binds = if_given_keeps w s (Prepare j binds) (slice_get s.interpreters j) _ (λ m e. prepare_at_keeps w s m.standing j m binds e refl)

start_at_keeps : (w : ℕ) (s : State) (standing : Standing) (j : ℕ) (m : Interpreter) (text : Text) → slice_get s.interpreters j ≡ Some m → m.standing ≡ standing
    → Keeps w s (Start j text) (start_at standing j m.inbox text s)
start_at_keeps w s Closed j m text e f = same w s _ answer.NotFound (record { put = λ _. refl; taken = λ _. refl; fits = refl }) refl
start_at_keeps w s (Running r) j m text e f = same w s _ answer.Running (record { put = λ _. refl; taken = λ _. refl; fits = refl }) refl
start_at_keeps w s Idle j m text e f =
    let l = length-append s.runs (None ∷ []) in
    interpreter_keeps w s _ (answer.Started (length s.runs)) j m (Running (length s.runs)) _ (s.runs ++ None ∷ []) e (λ c. cc) (omega (arith, l))
    (record { put = λ _. refl; taken = λ _. refl; fits = refl }) (record { not_before = λ x. omega (arith, x); now = omega (arith, l) })

start_keeps : (w : ℕ) (s : State) (j : ℕ) (text : Text) → Keeps w s (Start j text) (start j text s)
start_keeps w s j text = if_given_keeps w s (Start j text) (slice_get s.interpreters j) _ (λ m e. start_at_keeps w s m.standing j m text e refl)

await_keeps : (w : ℕ) (s : State) (r : ℕ) → Keeps w s (Await r) (await r s)
await_keeps w s r =
    if_given_keeps w s (Await r) (slice_get s.runs r) _
    (λ ended e. if_given_keeps w s (Await r) ended _ (λ o f. same w s _ (answer.Ended o) (record { put = λ _. refl; taken = λ _. refl; fits = refl }) refl))

running_keeps : (w : ℕ) (s : State) (j : ℕ) → Keeps w s (IsRunning j) (running j s)
running_keeps w s j =
    if_given_keeps w s (IsRunning j) (slice_get s.interpreters j) _
    (λ m e. if_keeps w s (IsRunning j) (is_closed m.standing) _ _
    (λ _. same w s _ answer.NotFound (record { put = λ _. refl; taken = λ _. refl; fits = refl }) refl)
    (λ _. same w s _ (answer.Truth (is_running m.standing)) (record { put = λ _. refl; taken = λ _. refl; fits = refl }) refl))

close_at_keeps : (w : ℕ) (s : State) (i j : ℕ) (m : Interpreter) → slice_get s.interpreters j ≡ Some m → Keeps w s (Close j) (close_at m.standing i j m.inbox s)
close_at_keeps w s i j m e =
    let no : (r : Answer) → IsNoItem (Close j) r → given r ≡ None → Did w s (Close j) r s = λ r n g. same w s (Close j) r n g in
    if_keeps w s (Close j) (is_closed m.standing) _ _ (λ _. no answer.NotFound (record { put = λ _. refl; taken = λ _. refl; fits = refl }) refl)
    (λ _. if_keeps w s (Close j) (i == j) _ _ (λ _. no answer.Current (record { put = λ _. refl; taken = λ _. refl; fits = refl }) refl)
    (λ _. if_keeps w s (Close j) (j == 0) _ _ (λ _. no answer.Main (record { put = λ _. refl; taken = λ _. refl; fits = refl }) refl)
    (λ _. if_keeps w s (Close j) (is_running m.standing) _ _ (λ _. no answer.Running (record { put = λ _. refl; taken = λ _. refl; fits = refl }) refl)
    (λ _. interpreter_keeps w s (Close j) answer.Done j m Closed _ s.runs e (λ _. refl) (omega arith) (record { put = λ _. refl; taken = λ _. refl; fits = refl }) tt))))

close_keeps : (w : ℕ) (s : State) (i j : ℕ) → Keeps w s (Close j) (close i j s)
close_keeps w s i j = if_given_keeps w s (Close j) (slice_get s.interpreters j) _ (λ m e. close_at_keeps w s i j m e)

take_job_keeps : (w : ℕ) (s : State) (i : ℕ) (m : Interpreter) (inbox : List Job) → slice_get s.interpreters i ≡ Some m → Keeps w s Take (take_job m.standing i inbox s)
take_job_keeps w s i m [] e = tt
take_job_keeps w s i m (j ∷ rest) e =
    interpreter_keeps w s Take (answer.Given j) i m m.standing rest s.runs e (λ c. c) (omega arith) (record { put = λ _. refl; taken = λ _. refl; fits = refl }) tt

take_keeps : (w : ℕ) (s : State) (i : ℕ) → Keeps w s Take (take i s)
take_keeps w s i = if_given_keeps w s Take (slice_get s.interpreters i) _ (λ m e. take_job_keeps w s i m m.inbox e)

-- an interpreter that has taken a run is not closed
runs_of : (standing : Standing) (inbox : List Job) (r : ℕ) → run_if_empty standing inbox ≡ Some r → standing ≢ Closed
runs_of Idle [] r e c = cc
runs_of (Running k) [] r e c = cc
runs_of Closed [] r e c = cc
runs_of standing (j ∷ js) r e c = cc

taker : (o : Option Interpreter) (r : ℕ) → taken_run o ≡ Some r → (m : Interpreter) × (o ≡ Some m) × (m.standing ≢ Closed)
taker None r e = cc
taker (Some m) r e = (m, refl, runs_of m.standing m.inbox r e)

end_keeps : (w : ℕ) (s : State) (i : ℕ) (o : Outcome) → Keeps w s (End o) (end i o s)
end_keeps w s i o =
    if_given_keeps w s (End o) (taken_run (slice_get s.interpreters i)) _
    (λ r e.
    let m = taker (slice_get s.interpreters i) r e in
    let l = length-set s.runs r (Some o) in
    interpreter_keeps w s (End o) answer.Done i m.0 Idle [] (slice_set s.runs r (Some o)) m.1 (λ c. absurd (m.2 c)) (omega (arith, l))
    (record { put = λ _. refl; taken = λ _. refl; fits = refl }) tt)

-- ---- the table

pub row_keeps : (w : ℕ) (s : State) (i : ℕ) (a : Action) → Keeps w s a (row w s i a)
row_keeps w s i Create = create_keeps w s
row_keeps w s i (CreateQueue maxsize) = create_queue_keeps w s maxsize
row_keeps w s i (Put q p) = put_keeps w s (Put q p) NotNow q p tt (record { put = λ _. refl; taken = λ _. refl; fits = refl })
row_keeps w s i (PutNow q p) =
    put_keeps w s (PutNow q p) (Replied answer.Full s) q p (same w s _ answer.Full (record { put = λ _. refl; taken = λ _. refl; fits = refl }) refl)
    (record { put = λ _. refl; taken = λ _. refl; fits = refl })
row_keeps w s i (Get q) = get_keeps w s (Get q) NotNow q tt (record { put = λ _ _. refl; taken = λ _ _. refl; fits = λ _. refl })
row_keeps w s i (GetNow q) =
    get_keeps w s (GetNow q) (Replied answer.Empty s) q (same w s _ answer.Empty (record { put = λ _. refl; taken = λ _. refl; fits = refl }) refl)
    (record { put = λ _ _. refl; taken = λ _ _. refl; fits = λ _. refl })
row_keeps w s i (Size q) = size_keeps w s q
row_keeps w s i (Prepare j binds) = prepare_keeps w s j binds
row_keeps w s i (Start j text) = start_keeps w s j text
row_keeps w s i (Await r) = await_keeps w s r
row_keeps w s i (IsRunning j) = running_keeps w s j
row_keeps w s i (Close j) = close_keeps w s i j
row_keeps w s i ListAll = same w s ListAll (answer.Ids (open_from 0 s.interpreters)) (record { put = λ _. refl; taken = λ _. refl; fits = refl }) refl
row_keeps w s i Take = take_keeps w s i
row_keeps w s i (End o) = end_keeps w s i o

pub reply_keeps : (w : ℕ) (s : State) (i : ℕ) (a : Action) → Keeps w s a (reply w s i a)
unfolding reply
reply_keeps w s i a = if_keeps w s a (may_act s i a) (row w s i a) NotNow (λ _. row_keeps w s i a) (λ _. tt)
