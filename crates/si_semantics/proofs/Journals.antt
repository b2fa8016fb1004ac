-- Laws of the shared state.
use Rattle.std.proofs.Common.{◌≡◌, ◌≢◌, ℕ, ◌≤◌, List, [], ◌∷◌, ◌++◌, length, true, Some, refl, sym, ap, ◌∙◌, subst, arith, append_assoc}
use Rattle.std.proofs.lemmas.List.{append-nil}
use Rattle.si_semantics.specs.Actions.{Action, Answer, fits}
use Rattle.si_semantics.specs.Shared.{State, Closed, Reply, NotNow, Replied, reply, is_enabled, first_state, max_queues}
use Rattle.si_semantics.specs.History.{Call, next_state, answer_in, state_then, state_after, Told}
use Rattle.si_semantics.specs.SharedLaws.{put_by, taken_by, put_into, taken_from, held_by, FirstInFirstOut, Number, OfInterpreter, OfQueue, OfRun, given, GivenOnce, WithinLimits, standing_in, ClosedStays, call, asked_in, OneAnswer}
use Rattle.si_semantics.proofs.Rows.{IsThere, IsNew, IsNewIfGiven, Did, Keeps, reply_keeps}

did : (w : ℕ) (s : State) (i : ℕ) (a : Action) (r : Answer) (t : State) → reply w s i a ≡ Replied r t → Did w s a r t
did w s i a r t e = subst (λ x. Keeps w s a x) e (reply_keeps w s i a)

after_append : (w : ℕ) (s : State) (xs ys : List Call) → state_after w s (xs ++ ys) ≡ state_after w (state_after w s xs) ys
unfolding state_after
after_append w s [] ys = refl
after_append w s (x ∷ xs) ys = after_append w (state_then w s x.by x.action) xs ys

told_after : (w : ℕ) (s : State) (xs ys : List Call) → Told w s (xs ++ ys) → Told w (state_after w s xs) ys
unfolding Told state_after
told_after w s [] ys t = t
told_after w s (x ∷ xs) ys t = told_after w (state_then w s x.by x.action) xs ys t.1

-- ---- queues

in_order : (w : ℕ) (s : State) (calls : List Call) (q : ℕ) → Told w s calls → held_by q s ++ put_into q calls ≡ taken_from q calls ++ held_by q (state_after w s calls)
unfolding Told state_after
in_order w s [] q t = append-nil (held_by q s)
in_order w s (c ∷ calls) q t =
    let u = state_then w s c.by c.action in
    let now = (did w s c.by c.action c.answer u t.0).queues q in
    let later = in_order w u calls q t.1 in
    let put = put_by q c.action c.answer in
    let taken = taken_by q c.action c.answer in
    sym (append_assoc (held_by q s) put (put_into q calls))
    ∙ ap (λ x. x ++ put_into q calls) now
    ∙ append_assoc taken (held_by q u) (put_into q calls)
    ∙ ap (λ x. taken ++ x) later
    ∙ sym (append_assoc taken (taken_from q calls) (held_by q (state_after w u calls)))

pub first_in_first_out : FirstInFirstOut
first_in_first_out w script calls q t = in_order w (first_state script) calls q t

-- ---- numbers

-- what is there stays
there_then : (w : ℕ) (s : State) (a : Action) (x : Reply) (n : Number) → Keeps w s a x → IsThere s n → IsThere (next_state x s) n
there_then w s a NotNow n k h = h
there_then w s a (Replied r t) (OfInterpreter i) k h = omega (arith, h, k.more_interpreters)
there_then w s a (Replied r t) (OfQueue q) k h = omega (arith, h, k.more_queues)
there_then w s a (Replied r t) (OfRun q) k h = omega (arith, h, k.more_runs)

there_after : (w : ℕ) (s : State) (calls : List Call) (n : Number) → IsThere s n → IsThere (state_after w s calls) n
unfolding state_after
there_after w s [] n h = h
there_after w s (c ∷ calls) n h = there_after w (state_then w s c.by c.action) calls n (there_then w s c.action (reply w s c.by c.action) n (reply_keeps w s c.by c.action) h)

-- what a call gives is new
new_by : (w : ℕ) (s : State) (before after : List Call) (c : Call) (x : Number) → Told w s (before ++ c ∷ after) → given c.answer ≡ Some x
    → (let u = state_after w s before in IsNew u (state_then w u c.by c.action) x)
unfolding Told
new_by w s before after c x t g =
    let u = state_after w s before in
    let h = (told_after w s before (c ∷ after) t).0 in
    subst (λ o. IsNewIfGiven u (state_then w u c.by c.action) o) g (did w u c.by c.action c.answer _ h).numbers

never_twice : (w : ℕ) (s : State) (before between after : List Call) (c d : Call) (x : Number)
    → Told w s (before ++ c ∷ (between ++ d ∷ after)) → given c.answer ≡ Some x → given d.answer ≢ Some x
unfolding Told state_after
never_twice w s before between after c d x t g e =
    let u = state_after w s before in
    let v = state_then w u c.by c.action in
    let there = there_after w v between x (new_by w s before (between ++ d ∷ after) c x t g).now in
    let later = (told_after w s before (c ∷ between ++ d ∷ after) t).1 in
    (new_by w v between after d x later e).not_before there

pub given_once : GivenOnce
given_once = record {
  never_twice = λ w script before between after c d x t g. never_twice w (first_state script) before between after c d x t g;
  no_first_interpreter = λ w script before after c t g.
      (new_by w (first_state script) before after c (OfInterpreter 0) t g).not_before (there_after w (first_state script) before (OfInterpreter 0) (omega arith));
  no_first_run = λ w script before after c t g.
      (new_by w (first_state script) before after c (OfRun 0) t g).not_before (there_after w (first_state script) before (OfRun 0) (omega arith));
}

-- ---- limits

few_then : (w : ℕ) (s : State) (a : Action) (x : Reply) → Keeps w s a x → length s.interpreters ≤ w → length (next_state x s).interpreters ≤ w
few_then w s a NotNow k h = h
few_then w s a (Replied r t) k h = k.interpreters h

few_after : (w : ℕ) (s : State) (calls : List Call) → length s.interpreters ≤ w → length (state_after w s calls).interpreters ≤ w
unfolding state_after
few_after w s [] h = h
few_after w s (c ∷ calls) h = few_after w (state_then w s c.by c.action) calls (few_then w s c.action (reply w s c.by c.action) (reply_keeps w s c.by c.action) h)

few_queues_then : (w : ℕ) (s : State) (a : Action) (x : Reply) → Keeps w s a x → length s.queues ≤ max_queues → length (next_state x s).queues ≤ max_queues
few_queues_then w s a NotNow k h = h
few_queues_then w s a (Replied r t) k h = k.few_queues h

few_queues_after : (w : ℕ) (s : State) (calls : List Call) → length s.queues ≤ max_queues → length (state_after w s calls).queues ≤ max_queues
unfolding state_after
few_queues_after w s [] h = h
few_queues_after w s (c ∷ calls) h =
    few_queues_after w (state_then w s c.by c.action) calls (few_queues_then w s c.action (reply w s c.by c.action) (reply_keeps w s c.by c.action) h)

pub within_limits : WithinLimits
within_limits = record {
  interpreters = λ w script calls h. few_after w (first_state script) calls h;
  queues = λ w script calls. few_queues_after w (first_state script) calls (omega arith);
}

-- ---- interpreters

closed_then : (w : ℕ) (s : State) (a : Action) (x : Reply) (i : ℕ) → Keeps w s a x → standing_in s i ≡ Some Closed → standing_in (next_state x s) i ≡ Some Closed
closed_then w s a NotNow i k h = h
closed_then w s a (Replied r t) i k h = k.closed i h

closed_after : (w : ℕ) (s : State) (calls : List Call) (i : ℕ) → standing_in s i ≡ Some Closed → standing_in (state_after w s calls) i ≡ Some Closed
unfolding state_after
closed_after w s [] i h = h
closed_after w s (c ∷ calls) i h =
    closed_after w (state_then w s c.by c.action) calls i (closed_then w s c.action (reply w s c.by c.action) i (reply_keeps w s c.by c.action) h)

pub closed_stays : ClosedStays
closed_stays w script before after i h =
    let s = first_state script in
    ap (λ x. standing_in x i) (after_append w s before after) ∙ closed_after w (state_after w s before) after i h

-- ---- answers

told_more : (w : ℕ) (s : State) (calls : List Call) (c : Call) → Told w s calls
    → reply w (state_after w s calls) c.by c.action ≡ Replied c.answer (state_then w (state_after w s calls) c.by c.action) → Told w s (calls ++ c ∷ [])
unfolding state_after Told
told_more w s [] c t e = (e, tt)
told_more w s (d ∷ calls) c t e = (t.0, told_more w (state_then w s d.by d.action) calls c t.1 e)

replies : (x : Reply) (s : State) → is_enabled x ≡ true → (r : Answer) × (x ≡ Replied r (next_state x s))
replies NotNow s h = cc
replies (Replied r t) s h = (r, refl)

answered : (w : ℕ) (s : State) (calls : List Call) (i : ℕ) (a : Action) → Told w s calls → is_enabled (reply w (state_after w s calls) i a) ≡ true
    → (r : Answer) × Told w s (calls ++ call i a r ∷ [])
answered w s calls i a t h =
    let u = state_after w s calls in
    let e = replies (reply w u i a) u h in
    (e.0, told_more w s calls (call i a e.0) t e.1)

only_enabled : (w : ℕ) (s : State) (calls : List Call) (i : ℕ) (a : Action) (r : Answer) → Told w s (calls ++ call i a r ∷ []) → is_enabled (reply w (state_after w s calls) i a) ≡ true
unfolding Told
only_enabled w s calls i a r t = ap is_enabled (told_after w s calls (call i a r ∷ []) t).0

alike_by : (i j : ℕ) (a b : Action) (r t : Answer) → i ≡ j → a ≡ b → r ≡ t → call i a r ≡ call j b t
alike_by i j a b r t e f g = rw (e, f, g) refl

-- two calls that ask the same in one state are answered the same
same_call : (w : ℕ) (s : State) (c d : Call) (x y : State) → reply w s c.by c.action ≡ Replied c.answer x → reply w s d.by d.action ≡ Replied d.answer y
    → c.by ≡ d.by → c.action ≡ d.action → c ≡ d
same_call w s c d x y e f b a =
    let alike : reply w s c.by c.action ≡ reply w s d.by d.action = rw (b, a) refl in
    let r : Some c.answer ≡ Some d.answer = sym (ap answer_in e) ∙ ap answer_in alike ∙ ap answer_in f in
    let told : c.answer ≡ d.answer = cc in
    alike_by c.by d.by c.action d.action c.answer d.answer b a told

-- lists with a first item that are the same
parts : {A : Type 0} (x y : A) (xs ys : List A) → x ∷ xs ≡ y ∷ ys → (x ≡ y) × (xs ≡ ys)
parts x y xs ys e = (cc, cc)

no_other : (w : ℕ) (s : State) (calls others : List Call) → Told w s calls → Told w s others → asked_in calls ≡ asked_in others → calls ≡ others
unfolding Told
no_other w s [] [] t u h = refl
no_other w s [] (d ∷ others) t u h = cc
no_other w s (c ∷ calls) [] t u h = cc
no_other w s (c ∷ calls) (d ∷ others) t u h =
    let p = parts (c.by, c.action) (d.by, d.action) (asked_in calls) (asked_in others) h in
    let e = same_call w s c d _ _ t.0 u.0 (ap (λ x. x.0) p.0) (ap (λ x. x.1) p.0) in
    let later = subst (λ x. Told w (state_then w s x.by x.action) others) (sym e) u.1 in
    ap (λ x. x ∷ calls) e ∙ ap (λ xs. d ∷ xs) (no_other w (state_then w s c.by c.action) calls others t.1 later p.1)

fitting : (w : ℕ) (s : State) (before after : List Call) (c : Call) → Told w s (before ++ c ∷ after) → fits c.answer c.action ≡ true
unfolding Told
fitting w s before after c t = (did w _ c.by c.action c.answer _ (told_after w s before (c ∷ after) t).0).fits

pub one_answer : OneAnswer
one_answer = record {
  answered = λ w script calls i a t h. answered w (first_state script) calls i a t h;
  only_enabled = λ w script calls i a r t. only_enabled w (first_state script) calls i a r t;
  no_other = λ w script calls others t u h. no_other w (first_state script) calls others t u h;
  fits = λ w script before after c t. fitting w (first_state script) before after c t;
}
