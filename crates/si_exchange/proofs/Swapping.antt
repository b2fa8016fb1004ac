-- Two actions that are apart, in the other order.
use Rattle.std.proofs.Common.{◌≡◌, ◌≢◌, ℕ, zero, suc, List, [], ◌∷◌, Option, Some, None, refl, sym, ap, ◌∙◌, subst, inl, inr}
use Rattle.std.specs.Prelude.{slice_get, slice_set}
use Rattle.si_semantics.specs.Actions.{Action, Create, CreateQueue, Put, PutNow, Get, GetNow, Size, Prepare, Start, Await, IsRunning, Close, ListAll, Take, End, Answer}
use Rattle.si_semantics.specs.Shared.{State, Queue, Replied, may_act, reply}
use Rattle.si_exchange.specs.Independence.{queue_of, IsSize, AreTwo, AreApart}
use Rattle.si_exchange.proofs.Rows.{Step, with_queue, same_state, OnQueue, on_queue, by_queue}

-- ---- places of a list

set_swap : (ls : List Queue) (q p : ℕ) (l m : Queue) → q ≢ p → slice_set (slice_set ls q l) p m ≡ slice_set (slice_set ls p m) q l
set_swap [] q p l m n = refl
set_swap (x ∷ ls) zero zero l m n = absurd (n refl)
set_swap (x ∷ ls) zero (suc p) l m n = refl
set_swap (x ∷ ls) (suc q) zero l m n = refl
set_swap (x ∷ ls) (suc q) (suc p) l m n = ap (λ y. x ∷ y) (set_swap ls q p l m (λ e. n (ap (λ k. suc k) e)))

set_elsewhere : (ls : List Queue) (q p : ℕ) (l : Queue) → q ≢ p → slice_get (slice_set ls q l) p ≡ slice_get ls p
set_elsewhere [] q p l n = refl
set_elsewhere (x ∷ ls) zero zero l n = absurd (n refl)
set_elsewhere (x ∷ ls) zero (suc p) l n = refl
set_elsewhere (x ∷ ls) (suc q) zero l n = refl
set_elsewhere (x ∷ ls) (suc q) (suc p) l n = set_elsewhere ls q p l (λ e. n (ap (λ k. suc k) e))

-- ---- two replies

-- interpreter j first does b, and then i does a: the answers are the same, and v is left
pub record Swapped (w : ℕ) (s : State) (i j : ℕ) (a b : Action) (r u : Answer) (v : State) : Type 0 where
  pub between : State
  pub first : reply w s j b ≡ Replied u between
  pub second : reply w between i a ≡ Replied r v

-- on two queues
on_two : (w : ℕ) (s : State) (i j q p : ℕ) (a b : Action) (r u : Answer) (t v : State) → queue_of a ≡ Some q → queue_of b ≡ Some p → q ≢ p
    → OnQueue s i q a r t → OnQueue t j p b u v → Swapped w s i j a b r u v
on_two w s i j q p a b r u t v e f n h k =
    let between = with_queue s p k.after in
    let one : OnQueue s j p b u between = record {
      may = ap (λ (x : State). may_act x j b) (sym h.left) ∙ k.may;
      queue = k.queue;
      here = sym (set_elsewhere s.queues q p h.after n) ∙ ap (λ (x : State). slice_get x.queues p) (sym h.left) ∙ k.here;
      after = k.after;
      steps = k.steps;
      left = refl;
    } in
    let two : OnQueue between i q a r v = record {
      may = h.may;
      queue = h.queue;
      here = set_elsewhere s.queues p q k.after (λ x. n (sym x)) ∙ h.here;
      after = h.after;
      steps = h.steps;
      left = k.left ∙ ap (λ (x : State). with_queue x p k.after) h.left ∙ ap (λ (x : List Queue). let y : State = record s { queues = x } in y) (set_swap s.queues q p h.after k.after n);
    } in
    record { between = between; first = by_queue w s j p b u between f one; second = by_queue w between i q a r v e two }

-- the queue after a step, or as it is
after_of : Queue → Option Step → Queue
after_of l None = l
after_of l (Some x) = x.after

size_left : (s : State) (i k : ℕ) (r : Answer) (t : State) → OnQueue s i k (Size k) r t → t ≡ s
unfolding after_of
size_left s i k r t h =
    let e : h.queue ≡ h.after = ap (λ (x : Option Step). after_of h.queue x) h.steps in
    h.left ∙ ap (λ (x : Queue). with_queue s k x) (sym e) ∙ same_state s k h.queue h.here

-- a question for a size changes nothing
size_stays : (w : ℕ) (s : State) (i : ℕ) (a : Action) (r : Answer) (t : State) → IsSize a → reply w s i a ≡ Replied r t → t ≡ s
size_stays w s i (Size k) r t z h = size_left s i k r t (on_queue w s i k (Size k) r t refl h)
size_stays w s i Create r t z h = absurd z
size_stays w s i (CreateQueue m) r t z h = absurd z
size_stays w s i (Put k p) r t z h = absurd z
size_stays w s i (PutNow k p) r t z h = absurd z
size_stays w s i (Get k) r t z h = absurd z
size_stays w s i (GetNow k) r t z h = absurd z
size_stays w s i (Prepare j binds) r t z h = absurd z
size_stays w s i (Start j text) r t z h = absurd z
size_stays w s i (Await n) r t z h = absurd z
size_stays w s i (IsRunning j) r t z h = absurd z
size_stays w s i (Close j) r t z h = absurd z
size_stays w s i ListAll r t z h = absurd z
size_stays w s i Take r t z h = absurd z
size_stays w s i (End o) r t z h = absurd z

-- both ask for a size
of_sizes : (w : ℕ) (s : State) (i j : ℕ) (a b : Action) (r u : Answer) (t v : State) → IsSize a → IsSize b
    → reply w s i a ≡ Replied r t → reply w t j b ≡ Replied u v → Swapped w s i j a b r u v
of_sizes w s i j a b r u t v y z h k =
    let first : t ≡ s = size_stays w s i a r t y h in
    let second : v ≡ t = size_stays w t j b u v z k in
    record {
      between = v;
      first = subst (λ (x : State). reply w x j b ≡ Replied u v) first k;
      second = subst (λ (x : State). reply w x i a ≡ Replied r v) (sym (second ∙ first)) (h ∙ ap (λ (x : State). Replied r x) (sym second));
    }

two_queues : (w : ℕ) (s : State) (i j : ℕ) (a b : Action) (r u : Answer) (t v : State) (x y : Option ℕ) → queue_of a ≡ x → queue_of b ≡ y → AreTwo x y
    → reply w s i a ≡ Replied r t → reply w t j b ≡ Replied u v → Swapped w s i j a b r u v
two_queues w s i j a b r u t v None y e f n h k = absurd n
two_queues w s i j a b r u t v (Some q) None e f n h k = absurd n
two_queues w s i j a b r u t v (Some q) (Some p) e f n h k = on_two w s i j q p a b r u t v e f n (on_queue w s i q a r t e h) (on_queue w t j p b u v f k)

pub swap : (w : ℕ) (s : State) (i j : ℕ) (a b : Action) (r u : Answer) (t v : State) → AreApart a b
    → reply w s i a ≡ Replied r t → reply w t j b ≡ Replied u v → Swapped w s i j a b r u v
swap w s i j a b r u t v (inl n) h k = two_queues w s i j a b r u t v (queue_of a) (queue_of b) refl refl n h k
swap w s i j a b r u t v (inr z) h k = of_sizes w s i j a b r u t v z.0 z.1 h k
