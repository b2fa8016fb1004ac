-- Cores whose calls were made by the same interpreters, in the same order, have the same calls.
use Rattle.std.proofs.Common.{◌≡◌, ℕ, suc, ◌<◌, ◌≤◌, List, [], ◌∷◌, ◌++◌, length, refl, ap, sym, ◌∙◌, subst, arith, append_assoc, append-nil, inl, inr, true, false, slice_index}
use Rattle.std.proofs.lemmas.Bool.Decides.{leb_tells}
use Rattle.si_plain.specs.Ranges.{Numbers}
use Rattle.si_semantics.specs.Value.{Text}
use Rattle.si_semantics.specs.Actions.{Action, Answer}
use Rattle.si_semantics.specs.Shared.{State, Replied, reply, is_enabled, first_state}
use Rattle.si_semantics.specs.History.{Call, Told, state_after, state_then}
use Rattle.si_hub.specs.Hubs.{IsTold, state_of, reply_at, can_act, call}
use Rattle.si_interp.specs.Meaning.{Ready, At, Gone, course_stand, StoodAt}
use Rattle.si_world.specs.Legal.{answers_to}
use Rattle.si_world.specs.Worlds.{created}
use Rattle.si_world.specs.Core.{Core}
use Rattle.si_replay.specs.declared.fault.ReplayFault.{ReplayFault}
use Rattle.si_replay.specs.declared.fault.ReplayFault.TheVariants as faults
use Rattle.si_replay.specs.Replays.{core_after, callers, CoreCanMove, CoreAtRest, Reached, StopsAt, IsDisabled, IsNobody, IsSpent, IsEnabled, IsUnfinished, IsFault, Completes, IsWantOfMemory}
use Rattle.si_replay.specs.inner.Steps.{past_with}
use Rattle.si_replay.proofs.Histories.{created_if, told_at}
use Rattle.si_replay.proofs.Cores.{CalledAt, Called, cored, IsCore, reached_is}

-- under the same answers there is one place at which it stands
pub same_lines : (i : ℕ) (rs : List Answer) (a b : Action) (l m : ℕ) → StoodAt i rs a l → StoodAt i rs b m → l ≡ m
same_lines i rs a b l m h k = elim (leb_tells l m) [
  | inl w ↦ elim (leb_tells m l) [
    | inl v ↦ (let x = w.1 in let y = v.1 in omega arith)
    | inr v ↦ (let x = h.here in let y = k.ready l v.1 in let e : At a ≡ Ready = sym x ∙ y in absurd (cc e))
  ]
  | inr w ↦ (let x = k.here in let y = h.ready m w.1 in let e : At b ≡ Ready = sym x ∙ y in absurd (cc e))
]

pub same_action : (i : ℕ) (rs : List Answer) (a b : Action) (l m : ℕ) → StoodAt i rs a l → StoodAt i rs b m → a ≡ b
same_action i rs a b l m h k =
    let n = same_lines i rs a b l m h k in
    let e : At a ≡ At b = sym h.here ∙ ap (course_stand i rs) n ∙ k.here in
    cc e

-- two calls after the same calls, by one caller, are one call
head_same : (w t : ℕ) (s x y : State) (done : List Call) (c d : Call) → reply w s c.by c.action ≡ Replied c.answer x → reply w s d.by d.action ≡ Replied d.answer y → CalledAt t done c → CalledAt t done d
    → c.by ≡ d.by → c ≡ d
head_same w t s x y done c d p q h k e =
    let stood : StoodAt d.by (answers_to d.by done) c.action h.lines = subst (λ (i : ℕ). StoodAt i (answers_to i done) c.action h.lines) e h.stood in
    let act : c.action ≡ d.action = same_action d.by (answers_to d.by done) c.action d.action h.lines k.lines stood k.stood in
    let said : Replied c.answer x ≡ Replied d.answer y = sym p ∙ ap (λ (i : ℕ). reply w s i c.action) e ∙ ap (λ (a : Action). reply w s d.by a) act ∙ q in
    let ans : c.answer ≡ d.answer = cc said in
    ap (λ (i : ℕ). call i c.action c.answer) e ∙ ap (λ (a : Action). call d.by a c.answer) act ∙ ap (λ (r : Answer). call d.by d.action r) ans

-- calls that begin with the same callers begin with the same calls
pub record Begins (cs ds : List Call) (rest : List ℕ) : Type 0 where
  pub post : List Call
  pub split : ds ≡ cs ++ post
  pub by : callers post ≡ rest

pub same_calls : (w t : ℕ) (s : State) (done cs ds : List Call) (rest : List ℕ) → Told w s cs → Told w s ds → Called t done cs → Called t done ds → callers ds ≡ callers cs ++ rest → Begins cs ds rest
unfolding Told
same_calls w t s done [] ds rest p q h k e = record { post = ds; split = refl; by = e }
same_calls w t s done (c ∷ cs) [] rest p q h k e = cc
same_calls w t s done (c ∷ cs) (d ∷ ds) rest p q h k e =
    let by : c.by ≡ d.by = cc in
    let more : callers ds ≡ callers cs ++ rest = cc in
    let one : c ≡ d = head_same w t s (state_then w s c.by c.action) (state_then w s d.by d.action) done c d p.0 q.0 h.0 k.0 by in
    let q' : Told w (state_then w s c.by c.action) ds = subst (λ (x : Call). Told w (state_then w s x.by x.action) ds) (sym one) q.1 in
    let k' : Called t (done ++ c ∷ []) ds = subst (λ (x : Call). Called t (done ++ x ∷ []) ds) (sym one) k.1 in
    let r = same_calls w t (state_then w s c.by c.action) (done ++ c ∷ []) cs ds rest p.1 q' h.1 k' more in
    record { post = r.post; split = ap (λ (x : Call). x ∷ ds) (sym one) ∙ ap (λ (xs : List Call). c ∷ xs) r.split; by = r.by }

called_at : (t : ℕ) (done cs : List Call) (c : Call) (ds : List Call) → Called t done (cs ++ c ∷ ds) → CalledAt t (done ++ cs) c
called_at t done [] c ds h = rw append-nil h.0
called_at t done (d ∷ cs) c ds h = rw (← append_assoc {A = Call} done (d ∷ []) cs) (called_at t (done ++ d ∷ []) cs c ds h.1)

-- what is known of the next call of a longer core
pub record NextCall (s : Text) (l : Numbers) (j : List Call) (i : ℕ) : Type 0 where
  pub action : Action
  pub answer : Answer
  pub left : State
  pub lines : ℕ
  pub within : lines ≤ l.turns
  pub stood : StoodAt i (answers_to i j) action lines
  pub replied : reply_at (past_with s l j) i action ≡ Replied answer left

next_of : (s : Text) (l : Numbers) (j : List Call) (i : ℕ) (rest : List ℕ) (post : List Call) → IsTold (past_with s l (j ++ post)) → Called l.turns [] (j ++ post) → callers post ≡ i ∷ rest → NextCall s l j i
next_of s l j i rest [] t h e = cc
next_of s l j i rest (c ∷ cs) t h e =
    let by : c.by ≡ i = cc in
    let k = called_at l.turns [] j c cs h in
    record {
      action = c.action;
      answer = c.answer;
      left = state_then l.interpreters (state_after l.interpreters (first_state s) j) c.by c.action;
      lines = k.lines;
      within = k.within;
      stood = subst (λ (n : ℕ). StoodAt n (answers_to n j) c.action k.lines) by k.stood;
      replied = subst (λ (n : ℕ). reply_at (past_with s l j) n c.action ≡ Replied c.answer (state_then l.interpreters (state_after l.interpreters (first_state s) j) c.by c.action)) by
          (told_at l.interpreters (first_state s) j c cs t);
    }

pub next_call : (s : Text) (l : Numbers) (j d : List Call) (ls ms : List ℕ) (i : ℕ) (rest : List ℕ) → IsCore s l j ls → IsCore s l d ms → callers d ≡ callers j ++ i ∷ rest → NextCall s l j i
next_call s l j d ls ms i rest h k e =
    let b = same_calls l.interpreters l.turns (first_state s) [] j d (i ∷ rest) h.told k.told h.called k.called e in
    next_of s l j i rest b.post (subst (λ (x : List Call). IsTold (past_with s l x)) b.split k.told) (subst (Called l.turns []) b.split k.called) b.by

-- the next call's caller stands nowhere but before its action or at it
not_gone : (s : Text) (l : Numbers) (j : List Call) (ls : List ℕ) (i : ℕ) → IsCore s l j ls → NextCall s l j i → course_stand i (answers_to i j) (slice_index ls i) ≡ Gone → ⊥
not_gone s l j ls i h n e = elim (leb_tells n.lines (slice_index ls i)) [
  | inl w ↦ elim (leb_tells (slice_index ls i) n.lines) [
    | inl v ↦ (
        let same : n.lines ≡ slice_index ls i = (let x = w.1 in let y = v.1 in omega arith) in
        let c : At n.action ≡ Gone = sym n.stood.here ∙ ap (course_stand i (answers_to i j)) same ∙ e in
        absurd (cc c))
    | inr v ↦ (let c : At n.action ≡ Ready = sym n.stood.here ∙ h.ready i n.lines v.1 in absurd (cc c))
  ]
  | inr w ↦ (let c : Gone ≡ Ready = sym e ∙ n.stood.ready (slice_index ls i) w.1 in absurd (cc c))
]

not_spent : (s : Text) (l : Numbers) (j : List Call) (ls : List ℕ) (i : ℕ) → IsCore s l j ls → NextCall s l j i → course_stand i (answers_to i j) (slice_index ls i) ≡ Ready → l.turns ≤ slice_index ls i → ⊥
not_spent s l j ls i h n e t = elim (leb_tells (slice_index ls i) n.lines) [
  | inl w ↦ (
      let same : n.lines ≡ slice_index ls i = (let x = w.1 in let y = n.within in omega arith) in
      let c : At n.action ≡ Ready = sym n.stood.here ∙ ap (course_stand i (answers_to i j)) same ∙ e in
      absurd (cc c))
  | inr w ↦ (let c : At n.action ≡ Ready = sym n.stood.here ∙ h.ready i n.lines w.1 in absurd (cc c))
]

not_disabled : (s : Text) (l : Numbers) (j : List Call) (ls : List ℕ) (i : ℕ) (a : Action) → IsCore s l j ls → NextCall s l j i → course_stand i (answers_to i j) (slice_index ls i) ≡ At a
    → can_act (past_with s l j) i a ≡ false → ⊥
not_disabled s l j ls i a h n e d =
    let same : a ≡ n.action = same_action i (answers_to i j) a n.action (slice_index ls i) n.lines (record { here = e; ready = h.ready i }) n.stood in
    let refuted : is_enabled (Replied n.answer n.left) ≡ false = sym (ap is_enabled n.replied) ∙ ap (can_act (past_with s l j) i) (sym same) ∙ d in
    absurd (cc refuted)

not_missing : (s : Text) (l : Numbers) (j : List Call) (i : ℕ) → NextCall s l j i → created (past_with s l j) ≤ i → ⊥
not_missing s l j i n e =
    let c = created_if l.interpreters (state_of (past_with s l j)) i n.action n.answer n.left n.replied in
    absurd (omega arith)

-- two cores at rest after the same calls have the same lines
lines_below : (s : Text) (l : Numbers) (j : List Call) (ls ms : List ℕ) (i : ℕ) → IsCore s l j ls → IsCore s l j ms → i < created (past_with s l j)
    → (CoreCanMove (cored s l j ls) i → ⊥) → slice_index ls i < slice_index ms i → ⊥
lines_below s l j ls ms i h k c r lt =
    let ready : course_stand i (answers_to i j) (slice_index ls i) ≡ Ready = k.ready i (slice_index ls i) lt in
    let most = k.within i in
    r (inl (ready, (let x : slice_index ls i < l.turns = omega arith in x)))

same_line : (s : Text) (l : Numbers) (j : List Call) (ls ms : List ℕ) (i : ℕ) → IsCore s l j ls → IsCore s l j ms → CoreAtRest (cored s l j ls) → CoreAtRest (cored s l j ms)
    → slice_index ls i ≡ slice_index ms i
same_line s l j ls ms i h k r q = elim (leb_tells (created (past_with s l j)) i) [
  | inl o ↦ h.idle i o.1 ∙ sym (k.idle i o.1)
  | inr o ↦ elim (leb_tells (slice_index ls i) (slice_index ms i)) [
    | inl w ↦ elim (leb_tells (slice_index ms i) (slice_index ls i)) [
      | inl v ↦ (let x = w.1 in let y = v.1 in omega arith)
      | inr v ↦ absurd (lines_below s l j ls ms i h k o.1 (r i o.1) v.1)
    ]
    | inr w ↦ absurd (lines_below s l j ms ls i k h o.1 (q i o.1) w.1)
  ]
]

same_list : (ls ms : List ℕ) → length ls ≡ length ms → ((i : ℕ) → slice_index ls i ≡ slice_index ms i) → ls ≡ ms
same_list [] [] e h = refl
same_list [] (m ∷ ms) e h = cc
same_list (l ∷ ls) [] e h = cc
same_list (l ∷ ls) (m ∷ ms) e h =
    let n : length ls ≡ length ms = (let k : suc (length ls) ≡ suc (length ms) = e in omega arith) in
    ap (λ (x : ℕ). x ∷ ls) (h 0) ∙ ap (λ (xs : List ℕ). m ∷ xs) (same_list ls ms n (λ i. h (suc i)))

no_post : (cs : List Call) → (let none : List ℕ = [] in callers cs ≡ none) → cs ≡ []
no_post [] e = refl
no_post (c ∷ cs) e = cc

-- two cores at rest with the same callers are one
pub same_core : (s : Text) (l : Numbers) (j d : List Call) (ls ms : List ℕ) → IsCore s l j ls → IsCore s l d ms → callers d ≡ callers j → CoreAtRest (cored s l j ls) → CoreAtRest (cored s l d ms)
    → cored s l j ls ≡ cored s l d ms
same_core s l j d ls ms h k e r q =
    let b = same_calls l.interpreters l.turns (first_state s) [] j d [] h.told k.told h.called k.called (e ∙ sym (append-nil (callers j))) in
    let refuted : b.post ≡ [] = no_post b.post b.by in
    let one : d ≡ j = b.split ∙ ap (λ (x : List Call). j ++ x) refuted ∙ append-nil j in
    let k' : IsCore s l j ms = subst (λ (x : List Call). IsCore s l x ms) one k in
    let q' : CoreAtRest (cored s l j ms) = subst (λ (x : List Call). CoreAtRest (cored s l x ms)) one q in
    let n : length ls ≡ length ms = h.count ∙ sym k.count in
    ap (cored s l j) (same_list ls ms n (λ i. same_line s l j ls ms i h k' r q')) ∙ ap (λ (x : List Call). cored s l x ms) (sym one)

-- what holds of a core that some turns reached
record HasIs (s : Text) (l : Numbers) (by : List ℕ) (c : Core) : Type 0 where
  journal : List Call
  lines : List ℕ
  same : c ≡ cored s l journal lines
  is : IsCore s l journal lines
  calls : callers journal ≡ by

has_is : (s : Text) (l : Numbers) (by : List ℕ) (c : Core) → Reached s l by c → HasIs s l by c
has_is s l by c r =
    let h = reached_is s l r.turns in
    let e : c ≡ cored s l h.journal h.lines = sym r.leads ∙ h.same in
    record { journal = h.journal; lines = h.lines; same = e; is = h.is; calls = ap (λ (x : Core). callers x.past.journal) (sym e) ∙ r.calls }

-- where some turns complete the entries, a replay stops at none of them
no_stop : (s : Text) (l : Numbers) (entries turns : List ℕ) (k : ℕ) (why : Core → ℕ → Type 0) → Completes s l entries turns → StopsAt s l entries k why
    → ((j : List Call) (ls : List ℕ) (i : ℕ) → IsCore s l j ls → NextCall s l j i → why (cored s l j ls) i → ⊥) → ⊥
no_stop s l entries turns k why t f refuted =
    let d = has_is s l entries (core_after s l turns) (record { turns = turns; leads = refl; calls = t.calls }) in
    let c = has_is s l f.before f.core f.reached in
    let e : callers d.journal ≡ callers c.journal ++ f.caller ∷ f.entry.rest = d.calls ∙ f.entry.split ∙ ap (λ (xs : List ℕ). xs ++ f.caller ∷ f.entry.rest) (sym c.calls) in
    let n = next_call s l c.journal d.journal c.lines d.lines f.caller f.entry.rest c.is d.is e in
    refuted c.journal c.lines f.caller c.is n (subst (λ (x : Core). why x f.caller) c.same f.because)

-- a core at rest, and another after the same calls in which an action is enabled
no_action : (s : Text) (l : Numbers) (j : List Call) (ls ms : List ℕ) (i : ℕ) (a : Action) → IsCore s l j ls → IsCore s l j ms → CoreAtRest (cored s l j ms) → i < created (past_with s l j)
    → course_stand i (answers_to i j) (slice_index ls i) ≡ At a → can_act (past_with s l j) i a ≡ true → ⊥
no_action s l j ls ms i a h k r c e t = elim (leb_tells (slice_index ls i) (slice_index ms i)) [
  | inl w ↦ elim (leb_tells (slice_index ms i) (slice_index ls i)) [
    | inl v ↦ (
        let same : slice_index ms i ≡ slice_index ls i = (let x = w.1 in let y = v.1 in omega arith) in
        r i c (inr (a, ap (course_stand i (answers_to i j)) same ∙ e, t)))
    | inr v ↦ (let x : At a ≡ Ready = sym e ∙ k.ready i (slice_index ls i) v.1 in absurd (cc x))
  ]
  | inr w ↦ lines_below s l j ms ls i k h c (r i c) w.1
]

no_unfinished : (s : Text) (l : Numbers) (entries turns : List ℕ) → Completes s l entries turns → IsUnfinished s l entries → ⊥
no_unfinished s l entries turns t f =
    let d = has_is s l entries (core_after s l turns) (record { turns = turns; leads = refl; calls = t.calls }) in
    let c = has_is s l entries f.core f.reached in
    let e : callers d.journal ≡ callers c.journal = d.calls ∙ sym c.calls in
    let b = same_calls l.interpreters l.turns (first_state s) [] c.journal d.journal [] c.is.told d.is.told c.is.called d.is.called (e ∙ sym (append-nil (callers c.journal))) in
    let one : d.journal ≡ c.journal = b.split ∙ ap (λ (x : List Call). c.journal ++ x) (no_post b.post b.by) ∙ append-nil c.journal in
    let k : IsCore s l c.journal d.lines = subst (λ (x : List Call). IsCore s l x d.lines) one d.is in
    let r : CoreAtRest (cored s l c.journal d.lines) = subst (λ (x : List Call). CoreAtRest (cored s l x d.lines)) one (subst CoreAtRest d.same t.rest) in
    let n : IsEnabled (cored s l c.journal c.lines) f.caller = subst (λ (x : Core). IsEnabled x f.caller) c.same f.enabled in
    no_action s l c.journal c.lines d.lines f.caller n.1.0 c.is k r n.0 n.1.1 n.1.2

-- so only memory keeps a replay from what some turns complete
pub only_memory : (s : Text) (l : Numbers) (entries turns : List ℕ) (f : ReplayFault) → Completes s l entries turns → IsFault s l entries f → IsWantOfMemory f
only_memory s l entries turns (faults.NotEnabled k) t h = absurd (no_stop s l entries turns k IsDisabled t h (λ j ls i c n why. not_disabled s l j ls i why.1.0 c n why.1.1 why.1.2))
only_memory s l entries turns (faults.Nobody k) t h = absurd (no_stop s l entries turns k IsNobody t h (λ j ls i c n why. elim why [ inl w ↦ not_missing s l j i n w | inr w ↦ not_gone s l j ls i c n w ]))
only_memory s l entries turns (faults.Spent k) t h = absurd (no_stop s l entries turns k IsSpent t h (λ j ls i c n why. not_spent s l j ls i c n why.1 why.2))
only_memory s l entries turns faults.Starved t h = tt
only_memory s l entries turns faults.Unfinished t h = absurd (no_unfinished s l entries turns t h)
only_memory s l entries turns faults.NoMemory t h = tt
