-- One call more in a history.
use Rattle.std.proofs.Common.{◌≡◌, ℕ, Bool, true, false, List, [], ◌∷◌, ◌++◌, refl, ap, sym, ◌∙◌, Some, if◌then◌else◌}
use Rattle.std.proofs.lemmas.Bool.{false≢true}
use Rattle.si_semantics.specs.Actions.{Action, Answer}
use Rattle.si_semantics.specs.Shared.{State, Reply, NotNow, Replied, reply, row, may_act, is_enabled, first_state}
use Rattle.si_semantics.specs.History.{Call, next_state, answer_in, state_then, state_after, Told}
use Rattle.si_hub.specs.HubCode.{Past}
use Rattle.si_hub.specs.Hubs.{state_of, IsReplay, reply_at, can_act, call, with_call, Acts}

pub state_after-more : (w : ℕ) (s : State) (cs : List Call) (c : Call) → state_after w s (cs ++ c ∷ []) ≡ state_then w (state_after w s cs) c.by c.action
unfolding state_after
state_after-more w s [] c = refl
state_after-more w s (d ∷ cs) c = state_after-more w (state_then w s d.by d.action) cs c

pub Told-more : (w : ℕ) (s : State) (cs : List Call) (c : Call) → Told w s cs
    → reply w (state_after w s cs) c.by c.action ≡ Replied c.answer (state_then w (state_after w s cs) c.by c.action) → Told w s (cs ++ c ∷ [])
unfolding state_after Told
Told-more w s [] c t e = (e, tt)
Told-more w s (d ∷ cs) c t e = (t.0, Told-more w (state_then w s d.by d.action) cs c t.1 e)

-- what is said in the state is what is said after the past
said : (s t : State) (p : Past) (i : ℕ) (a : Action) (r : Answer) → IsReplay s p → reply p.limits.interpreters s i a ≡ Replied r t → reply_at p i a ≡ Replied r t
said s t p i a r h e = ap (λ (x : State). reply p.limits.interpreters x i a) (sym h.now) ∙ e

-- the state that a reply leaves is that of the longer past
pub replay_more : (s t : State) (p : Past) (i : ℕ) (a : Action) (r : Answer) → IsReplay s p → reply p.limits.interpreters s i a ≡ Replied r t
    → IsReplay t (with_call (call i a r) p)
replay_more s t p i a r h e =
    let w = p.limits.interpreters in
    let f = first_state p.script in
    let is : reply_at p i a ≡ Replied r t = said s t p i a r h e in
    let next : state_then w (state_of p) i a ≡ t = ap (λ (x : Reply). next_state x (state_of p)) is in
    record {
      now = sym (state_after-more w f p.journal (call i a r) ∙ next);
      told = Told-more w f p.journal (call i a r) h.told (is ∙ ap (λ (x : State). Replied r x) (sym next));
    }

pub acts : (s t : State) (p : Past) (i : ℕ) (a : Action) (r : Answer) → IsReplay s p → reply p.limits.interpreters s i a ≡ Replied r t
    → Acts p i a r (with_call (call i a r) p)
acts s t p i a r h e = record {
  replied = said s t p i a r h e ∙ ap (λ (x : State). Replied r x) (replay_more s t p i a r h e).now;
  journal = refl;
}

-- the answer that was made for the journal is the one that was told
pub same_answer : (x : Reply) (r kept : Answer) (t : State) → x ≡ Replied r t → answer_in x ≡ Some kept → r ≡ kept
same_answer x r kept t e h = cc (sym (ap answer_in e) ∙ h)

pub replay_first : (s : State) (p : Past) (text : List ℕ) → p.journal ≡ [] → s ≡ first_state text → text ≡ p.script → IsReplay s p
unfolding state_after Told
replay_first s p text j e t = rw (j, e, t) (record { now = refl; told = tt })

-- an action was done in the state that the past left: what the journal gains is the call
pub record Done (s t : State) (old p : Past) (journal : List Call) (i most : ℕ) (a stock : Action) (told kept : Answer) : Type 0 where
  pub same : p ≡ old
  pub most_is : most ≡ p.limits.interpreters
  pub stock_is : stock ≡ a
  pub kept_is : answer_in (reply_at old i a) ≡ Some kept
  pub replied : reply most s i stock ≡ Replied told t
  pub push : journal ≡ p.journal ++ call i a kept ∷ []

said_told : (s t : State) (old p : Past) (journal : List Call) (i most : ℕ) (a stock : Action) (told kept : Answer) → Done s t old p journal i most a stock told kept
    → reply p.limits.interpreters s i a ≡ Replied told t
said_told s t old p journal i most a stock told kept d = rw (← d.most_is, ← d.stock_is) d.replied

told_kept : (s t : State) (old p : Past) (journal : List Call) (i most : ℕ) (a stock : Action) (told kept : Answer) → Done s t old p journal i most a stock told kept → IsReplay s p
    → told ≡ kept
told_kept s t old p journal i most a stock told kept d h =
    let is = said s t p i a told h (said_told s t old p journal i most a stock told kept d) in
    same_answer (reply_at p i a) told kept t is (rw (← d.same) at d.kept_is)

pub keeps : (s t : State) (old p : Past) (journal : List Call) (i most : ℕ) (a stock : Action) (told kept : Answer) → Done s t old p journal i most a stock told kept → IsReplay s p
    → IsReplay t (record { script = p.script; limits = p.limits; journal = journal })
keeps s t old p journal i most a stock told kept d h =
    let e = told_kept s t old p journal i most a stock told kept d h in
    rw (d.push, ← e) (replay_more s t p i a told h (said_told s t old p journal i most a stock told kept d))

pub acts_so : (s t : State) (old p : Past) (journal : List Call) (i most : ℕ) (a stock : Action) (told kept : Answer) → Done s t old p journal i most a stock told kept → IsReplay s p
    → Acts old i a told (record { script = p.script; limits = p.limits; journal = journal })
acts_so s t old p journal i most a stock told kept d h =
    let e = told_kept s t old p journal i most a stock told kept d h in
    rw (d.push, ← e, ← d.same) (acts s t p i a told h (said_told s t old p journal i most a stock told kept d))

-- ---- an action whose row is known

enabled_then : (b : Bool) (x : Reply) → is_enabled (if b then x else NotNow) ≡ true → (if b then x else NotNow) ≡ x
enabled_then true x h = refl
enabled_then false x h = absurd (false≢true h)

-- what is said to an action that is enabled is its row
reply_row : (w : ℕ) (s : State) (i : ℕ) (a : Action) → is_enabled (reply w s i a) ≡ true → reply w s i a ≡ row w s i a
unfolding reply
reply_row w s i a h = enabled_then (may_act s i a) (row w s i a) h

-- so it is in the state that the past left
pub row_now : (s : State) (old p : Past) (i : ℕ) (a : Action) → p ≡ old → IsReplay s p → can_act old i a ≡ true → reply p.limits.interpreters s i a ≡ row p.limits.interpreters s i a
row_now s old p i a e h c = reply_row _ _ _ _ (rw (h.now, e) c)

pub row_enabled : (s : State) (old p : Past) (i : ℕ) (a : Action) → p ≡ old → IsReplay s p → can_act old i a ≡ true → is_enabled (row p.limits.interpreters s i a) ≡ true
row_enabled s old p i a e h c = ap is_enabled (sym (row_now s old p i a e h c)) ∙ rw (h.now, e) c

-- an action was done by its row
pub done_so : (s t : State) (old p : Past) (journal : List Call) (i : ℕ) (a : Action) (told kept : Answer)
    → p ≡ old → IsReplay s p → can_act old i a ≡ true → row p.limits.interpreters s i a ≡ Replied told t → answer_in (row p.limits.interpreters s i a) ≡ Some kept
    → journal ≡ p.journal ++ call i a kept ∷ [] → Done s t old p journal i p.limits.interpreters a a told kept
done_so s t old p journal i a told kept e h c r k push =
    let now = row_now s old p i a e h c in
    record {
      same = e;
      most_is = refl;
      stock_is = refl;
      kept_is = rw (← e, ← h.now) (ap answer_in now ∙ k);
      replied = now ∙ r;
      push = push;
    }
