-- What an action on a queue does to that queue alone.
use Rattle.std.proofs.Common.{◌≡◌, ℕ, zero, suc, List, [], ◌∷◌, ◌++◌, length, Bool, true, false, Option, Some, None, refl, sym, ap, ◌∙◌, subst}
use Rattle.std.specs.Prelude.{slice_get, slice_set, if◌then◌else◌}
use Rattle.si_semantics.specs.Parcels.{Tree}
use Rattle.si_semantics.specs.Actions.{Action, Create, CreateQueue, Put, PutNow, Get, GetNow, Size, Prepare, Start, Await, IsRunning, Close, ListAll, Take, End, Answer}
use Rattle.si_semantics.specs.Actions as answer
use Rattle.si_semantics.specs.Shared.{State, Queue, Reply, NotNow, Replied, if_given, is_full, holding, with_items, put, put_now, take_first, get, get_now, size, row, may_act, reply}
use Rattle.si_exchange.specs.Independence.{queue_of}

-- ---- a queue by itself

-- what is answered, and the queue after it
pub record Step : Type 0 where
  pub answer : Answer
  pub after : Queue

abbrev pub step : Answer → Queue → Option Step
step r l = Some (record { answer = r; after = l })

abbrev first_step : Option Step → Queue → List Tree → Option Step
first_step instead l [] = instead
first_step instead l (p ∷ rest) = step (answer.Item p) (holding rest l)

abbrev pub queue_step : Action → Queue → Option Step
queue_step (Put q p) l = if is_full l then None else step answer.Done (holding (l.items ++ p ∷ []) l)
queue_step (PutNow q p) l = if is_full l then step answer.Full l else step answer.Done (holding (l.items ++ p ∷ []) l)
queue_step (Get q) l = first_step None l l.items
queue_step (GetNow q) l = first_step (step answer.Empty l) l l.items
queue_step (Size q) l = step (answer.Count (length l.items)) l
queue_step _ l = None

-- ---- the state of which it is a queue

abbrev pub with_queue : State → ℕ → Queue → State
with_queue s q l = record s { queues = slice_set s.queues q l }

abbrev of_step : State → ℕ → Option Step → Reply
of_step s q None = NotNow
of_step s q (Some x) = Replied x.answer (with_queue s q x.after)

abbrev of_queue : State → ℕ → Action → Option Queue → Reply
of_queue s q a None = NotNow
of_queue s q a (Some l) = of_step s q (queue_step a l)

set_same : (ls : List Queue) (q : ℕ) (l : Queue) → slice_get ls q ≡ Some l → slice_set ls q l ≡ ls
set_same [] q l e = refl
set_same (m ∷ ls) zero l e = let h : m ≡ l = cc in ap (λ x. x ∷ ls) (sym h)
set_same (m ∷ ls) (suc q) l e = ap (λ x. m ∷ x) (set_same ls q l e)

pub same_state : (s : State) (q : ℕ) (l : Queue) → slice_get s.queues q ≡ Some l → with_queue s q l ≡ s
same_state s q l e = ap (λ (x : List Queue). let t : State = record s { queues = x } in t) (set_same s.queues q l e)

-- ---- the rows

if_step : (s : State) (q : ℕ) (b : Bool) (x y : Option Step) (n m : Reply) → n ≡ of_step s q x → m ≡ of_step s q y → (if b then n else m) ≡ of_step s q (if b then x else y)
if_step s q true x y n m e f = e
if_step s q false x y n m e f = f

first_is : (s : State) (q : ℕ) (l : Queue) (x : Option Step) (n : Reply) (ps : List Tree) → n ≡ of_step s q x → take_first n q l ps s ≡ of_step s q (first_step x l ps)
first_is s q l x n [] e = e
first_is s q l x n (p ∷ ps) e = refl

-- where nothing changes, the queue is put where it is
stays : (s : State) (q : ℕ) (l : Queue) (r : Answer) → slice_get s.queues q ≡ Some l → Replied r s ≡ of_step s q (step r l)
stays s q l r e = ap (λ (t : State). Replied r t) (sym (same_state s q l e))

put_done : (s : State) (q : ℕ) (p : Tree) (l : Queue) → Replied answer.Done (with_items s q l (l.items ++ p ∷ [])) ≡ of_step s q (step answer.Done (holding (l.items ++ p ∷ []) l))
put_done s q p l = refl

put_row : (s : State) (q : ℕ) (p : Tree) (o : Option Queue)
    → if_given o (λ l. if is_full l then NotNow else Replied answer.Done (with_items s q l (l.items ++ p ∷ []))) ≡ of_queue s q (Put q p) o
put_row s q p None = refl
put_row s q p (Some l) = if_step s q (is_full l) None (step answer.Done (holding (l.items ++ p ∷ []) l)) NotNow _ refl (put_done s q p l)

put_now_row : (s : State) (q : ℕ) (p : Tree) (o : Option Queue) → slice_get s.queues q ≡ o
    → if_given o (λ l. if is_full l then Replied answer.Full s else Replied answer.Done (with_items s q l (l.items ++ p ∷ []))) ≡ of_queue s q (PutNow q p) o
put_now_row s q p None e = refl
put_now_row s q p (Some l) e = if_step s q (is_full l) (step answer.Full l) (step answer.Done (holding (l.items ++ p ∷ []) l)) (Replied answer.Full s) _ (stays s q l answer.Full e) (put_done s q p l)

get_row : (s : State) (q : ℕ) (o : Option Queue) → if_given o (λ l. take_first NotNow q l l.items s) ≡ of_queue s q (Get q) o
get_row s q None = refl
get_row s q (Some l) = first_is s q l None NotNow l.items refl

get_now_row : (s : State) (q : ℕ) (o : Option Queue) → slice_get s.queues q ≡ o → if_given o (λ l. take_first (Replied answer.Empty s) q l l.items s) ≡ of_queue s q (GetNow q) o
get_now_row s q None e = refl
get_now_row s q (Some l) e = first_is s q l (step answer.Empty l) (Replied answer.Empty s) l.items (stays s q l answer.Empty e)

size_row : (s : State) (q : ℕ) (o : Option Queue) → slice_get s.queues q ≡ o → if_given o (λ l. Replied (answer.Count (length l.items)) s) ≡ of_queue s q (Size q) o
size_row s q None e = refl
size_row s q (Some l) e = stays s q l (answer.Count (length l.items)) e

-- the row of an action on queue q, by that queue
row_on : (w : ℕ) (s : State) (i q : ℕ) (a : Action) → queue_of a ≡ Some q → row w s i a ≡ of_queue s q a (slice_get s.queues q)
row_on w s i q (Put k p) e = let h : k ≡ q = cc in subst (λ n. put k p s ≡ of_queue s n (Put k p) (slice_get s.queues n)) h (put_row s k p (slice_get s.queues k))
row_on w s i q (PutNow k p) e = let h : k ≡ q = cc in subst (λ n. put_now k p s ≡ of_queue s n (PutNow k p) (slice_get s.queues n)) h (put_now_row s k p (slice_get s.queues k) refl)
row_on w s i q (Get k) e = let h : k ≡ q = cc in subst (λ n. get k s ≡ of_queue s n (Get k) (slice_get s.queues n)) h (get_row s k (slice_get s.queues k))
row_on w s i q (GetNow k) e = let h : k ≡ q = cc in subst (λ n. get_now k s ≡ of_queue s n (GetNow k) (slice_get s.queues n)) h (get_now_row s k (slice_get s.queues k) refl)
row_on w s i q (Size k) e = let h : k ≡ q = cc in subst (λ n. size k s ≡ of_queue s n (Size k) (slice_get s.queues n)) h (size_row s k (slice_get s.queues k) refl)
row_on w s i q Create e = cc
row_on w s i q (CreateQueue m) e = cc
row_on w s i q (Prepare j binds) e = cc
row_on w s i q (Start j text) e = cc
row_on w s i q (Await r) e = cc
row_on w s i q (IsRunning j) e = cc
row_on w s i q (Close j) e = cc
row_on w s i q ListAll e = cc
row_on w s i q Take e = cc
row_on w s i q (End o) e = cc

-- ---- replies

-- interpreter i may act, and did a on queue q: it was answered r, and t is left
pub record OnQueue (s : State) (i q : ℕ) (a : Action) (r : Answer) (t : State) : Type 0 where
  pub may : may_act s i a ≡ true
  pub queue : Queue
  pub here : slice_get s.queues q ≡ Some queue
  pub after : Queue
  pub steps : queue_step a queue ≡ step r after
  pub left : t ≡ with_queue s q after

on_step : (s : State) (i q : ℕ) (a : Action) (r : Answer) (t : State) (l : Queue) (x : Option Step)
    → may_act s i a ≡ true → slice_get s.queues q ≡ Some l → queue_step a l ≡ x → of_step s q x ≡ Replied r t → OnQueue s i q a r t
on_step s i q a r t l None m h e f = cc
on_step s i q a r t l (Some x) m h e f =
    let told : x.answer ≡ r = cc f in
    let left : with_queue s q x.after ≡ t = cc f in
    record { may = m; queue = l; here = h; after = x.after; steps = e ∙ ap (λ (y : Answer). step y x.after) told; left = sym left }

on_case : (s : State) (i q : ℕ) (a : Action) (r : Answer) (t : State) (b : Bool) (o : Option Queue)
    → may_act s i a ≡ b → slice_get s.queues q ≡ o → (if b then of_queue s q a o else NotNow) ≡ Replied r t → OnQueue s i q a r t
on_case s i q a r t false o m h f = cc f
on_case s i q a r t true None m h f = cc f
on_case s i q a r t true (Some l) m h f = on_step s i q a r t l (queue_step a l) m h refl f

reply_on : (w : ℕ) (s : State) (i q : ℕ) (a : Action) → queue_of a ≡ Some q → reply w s i a ≡ (if may_act s i a then of_queue s q a (slice_get s.queues q) else NotNow)
unfolding reply
reply_on w s i q a e = ap (λ (x : Reply). if may_act s i a then x else NotNow) (row_on w s i q a e)

pub on_queue : (w : ℕ) (s : State) (i q : ℕ) (a : Action) (r : Answer) (t : State) → queue_of a ≡ Some q → reply w s i a ≡ Replied r t → OnQueue s i q a r t
on_queue w s i q a r t e f = on_case s i q a r t (may_act s i a) (slice_get s.queues q) refl refl (sym (reply_on w s i q a e) ∙ f)

pub by_queue : (w : ℕ) (s : State) (i q : ℕ) (a : Action) (r : Answer) (t : State) → queue_of a ≡ Some q → OnQueue s i q a r t → reply w s i a ≡ Replied r t
by_queue w s i q a r t e h =
    reply_on w s i q a e
    ∙ ap (λ (b : Bool). if b then of_queue s q a (slice_get s.queues q) else NotNow) h.may
    ∙ ap (λ (o : Option Queue). of_queue s q a o) h.here
    ∙ ap (λ (x : Option Step). of_step s q x) h.steps
    ∙ ap (λ (x : State). Replied r x) (sym h.left)
