-- In a history, who is answered was created, and interpreters are never fewer than they were.
use Rattle.std.proofs.Common.{◌≡◌, ℕ, ◌<◌, ◌≤◌, List, [], ◌∷◌, ◌++◌, length, refl, ap, sym, ◌∙◌, subst, arith, append_assoc, append-nil, Option, None, Some, slice_get}
use Rattle.std.proofs.lemmas.Option.{slice_get_within}
use Rattle.si_semantics.specs.Actions.{Action, Create, CreateQueue, Put, PutNow, Get, GetNow, Size, Prepare, Start, Await, IsRunning, Close, ListAll, Take, End, Answer}
use Rattle.si_semantics.specs.Shared.{State, Interpreter, NotNow, Replied, reply, first_state}
use Rattle.si_semantics.specs.History.{Call, state_after, state_then, Told}
use Rattle.si_hub.specs.HubCode.{Past}
use Rattle.si_hub.specs.Hubs.{IsTold, Acts}
use Rattle.si_hub.proofs.Histories.{state_after-more}
use Rattle.si_world.specs.Worlds.{created}
use Rattle.si_world.proofs.Counting.{grows_more}

-- the same script and limits, with other calls
abbrev pub past_at : Past → List Call → Past
past_at p done = record { script = p.script; limits = p.limits; journal = done }

none_said : (w : ℕ) (s : State) (i : ℕ) (a : Action) → slice_get s.interpreters i ≡ None → reply w s i a ≡ NotNow
unfolding reply
none_said w s i Create e = rw e refl
none_said w s i (CreateQueue m) e = rw e refl
none_said w s i (Put q p) e = rw e refl
none_said w s i (PutNow q p) e = rw e refl
none_said w s i (Get q) e = rw e refl
none_said w s i (GetNow q) e = rw e refl
none_said w s i (Size q) e = rw e refl
none_said w s i (Prepare j bs) e = rw e refl
none_said w s i (Start j t) e = rw e refl
none_said w s i (Await r) e = rw e refl
none_said w s i (IsRunning j) e = rw e refl
none_said w s i (Close j) e = rw e refl
none_said w s i ListAll e = rw e refl
none_said w s i Take e = rw e refl
none_said w s i (End o) e = rw e refl

created_at : (w : ℕ) (s : State) (i : ℕ) (a : Action) (r : Answer) (t : State) (o : Option Interpreter) → slice_get s.interpreters i ≡ o → reply w s i a ≡ Replied r t → i < length s.interpreters
created_at w s i a r t None e h = let b : NotNow ≡ Replied r t = sym (none_said w s i a e) ∙ h in absurd (cc b)
created_at w s i a r t (Some m) e h = slice_get_within s.interpreters i m e

-- who is answered was created
pub created_if : (w : ℕ) (s : State) (i : ℕ) (a : Action) (r : Answer) (t : State) → reply w s i a ≡ Replied r t → i < length s.interpreters
created_if w s i a r t h = created_at w s i a r t (slice_get s.interpreters i) refl h

-- a told history is told at each of its calls
pub told_at : (w : ℕ) (s : State) (done : List Call) (c : Call) (cs : List Call) → Told w s (done ++ c ∷ cs)
    → reply w (state_after w s done) c.by c.action ≡ Replied c.answer (state_then w (state_after w s done) c.by c.action)
unfolding Told state_after
told_at w s [] c cs t = t.0
told_at w s (d ∷ done) c cs t = told_at w (state_then w s d.by d.action) done c cs t.1

pub acts_at : (p : Past) (done : List Call) (c : Call) (cs : List Call) → IsTold (past_at p (done ++ c ∷ cs)) → Acts (past_at p done) c.by c.action c.answer (past_at p (done ++ c ∷ []))
acts_at p done c cs t =
    let w = p.limits.interpreters in
    let f = first_state p.script in
    record {
      replied = told_at w f done c cs t ∙ ap (λ (x : State). Replied c.answer x) (sym (state_after-more w f done c));
      journal = refl;
    }

pub after_grows : (p : Past) (done cs : List Call) → IsTold (past_at p (done ++ cs)) → created (past_at p done) ≤ created (past_at p (done ++ cs))
after_grows p done [] t = let e = ap (λ (x : List Call). created (past_at p x)) (append-nil done) in omega arith
after_grows p done (c ∷ cs) t =
    let a = grows_more (past_at p done) (past_at p (done ++ c ∷ [])) c.by c.action c.answer (acts_at p done c cs t) in
    let e : (done ++ c ∷ []) ++ cs ≡ done ++ c ∷ cs = append_assoc done (c ∷ []) cs in
    let b = after_grows p (done ++ c ∷ []) cs (subst (λ (x : List Call). IsTold (past_at p x)) (sym e) t) in
    let d = ap (λ (x : List Call). created (past_at p x)) e in
    omega arith

-- and is among those created in the end
pub caller_created : (p : Past) (done : List Call) (c : Call) (cs : List Call) → IsTold (past_at p (done ++ c ∷ cs)) → c.by < created (past_at p (done ++ c ∷ cs))
caller_created p done c cs t =
    let w = p.limits.interpreters in
    let f = first_state p.script in
    let here : c.by < created (past_at p done) = created_if w (state_after w f done) c.by c.action c.answer _ (told_at w f done c cs t) in
    let more = after_grows p done (c ∷ cs) t in
    omega arith
