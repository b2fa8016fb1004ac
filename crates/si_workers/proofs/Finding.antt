-- Interpreters that were created, and their reports, one more.
use Rattle.std.proofs.Common.{◌≡◌, ◌≢◌, ℕ, ◌+◌, ◌<◌, ◌≤◌, ◌⊎◌, List, [], ◌∷◌, ◌++◌, take, drop, refl, ap, sym, ◌∙◌, subst, arith, inl, inr, slice_get, Some, if◌then◌else◌}
use Rattle.std.proofs.lemmas.Bool.Decides.{leb_tells, eqb_tells}
use Rattle.si_semantics.specs.History.{Call}
use Rattle.si_hub.specs.HubCode.{Past}
use Rattle.si_hub.specs.Hubs.{IsTold}
use Rattle.si_interp.specs.Meaning.{InterpView}
use Rattle.si_world.specs.Worlds.{created, IsMember}
use Rattle.si_world.specs.inner.Counting.{is_created}
use Rattle.si_world.proofs.Copying.{take_get}
use Rattle.si_world.proofs.Counting.{created_after}
use Rattle.si_world.proofs.Firsts.{created_first}
use Rattle.si_replay.proofs.Histories.{past_at, acts_at, after_grows}
use Rattle.si_world.specs.Legal.{calls_of, exchanges}
use Rattle.si_workers.specs.Gathers.{IsReport, IsUnfit}
use Rattle.si_workers.specs.inner.Members.{IsFit}
use Rattle.si_workers.proofs.Logs.{split_at, whole}

-- ---- how many were created

-- the calls of the first k are told
told_with : (p : Past) (k : ℕ) (c : Call) → IsTold p → slice_get p.journal k ≡ Some c → IsTold (past_at p (take k p.journal ++ c ∷ drop (k + 1) p.journal))
told_with p k c t at = subst (λ (js : List Call). IsTold (past_at p js)) (sym (split_at p.journal k c at)) t

pub created_none : (p : Past) → created (past_at p (take 0 p.journal)) ≡ 1
created_none p = created_first (past_at p []) refl

pub created_some : (p : Past) (k : ℕ) → IsTold p → created (past_at p (take k p.journal)) ≤ created p
created_some p k t =
    let w = whole p.journal k in
    let a = after_grows p (take k p.journal) (drop k p.journal) (subst (λ (js : List Call). IsTold (past_at p js)) (sym w) t) in
    let e = ap (λ (js : List Call). created (past_at p js)) w in
    omega arith

-- one call more
pub created_more : (p : Past) (k : ℕ) (c : Call) (n m : ℕ) → IsTold p → slice_get p.journal k ≡ Some c → n ≡ created (past_at p (take k p.journal))
    → m ≡ (if is_created c.answer then n + 1 else n) → m ≡ created (past_at p (take (k + 1) p.journal))
created_more p k c n m t at e f =
    let a = acts_at p (take k p.journal) c (drop (k + 1) p.journal) (told_with p k c t at) in
    let g = created_after (past_at p (take k p.journal)) (past_at p (take k p.journal ++ c ∷ [])) c.by c.action c.answer a in
    f ∙ ap (λ (x : ℕ). if is_created c.answer then x + 1 else x) e ∙ sym g ∙ ap (λ (js : List Call). created (past_at p js)) (sym (take_get p.journal k c at))

-- ---- reports

-- what is read at a report's place is the report
pub report_read : (worked : List InterpView) (i k : ℕ) (v x : InterpView) → IsReport worked i k v → slice_get worked k ≡ Some x → IsReport worked i k x
report_read worked i k v x r at =
    let one : Some v ≡ Some x = sym r.at ∙ at in
    let b : v ≡ x = cc one in
    subst (IsReport worked i k) b r

pub is_unfit : (p : Past) (worked : List InterpView) (i k : ℕ) (x : InterpView) → IsReport worked i k x → (calls_of i p.journal ≢ exchanges x.log) ⊎ (p.limits.turns < x.locals) → IsUnfit p worked i
is_unfit p worked i k x r (inl h) = inr (inr (inl (record { place = k; seen = x; report = r; differs = h })))
is_unfit p worked i k x r (inr h) = inr (inr (inr (record { place = k; seen = x; report = r; more = h })))

-- where no report of interpreter i stands before this one, nor after it, there is no other
pub only_at : (worked : List InterpView) (i k : ℕ) → ((j : ℕ) (v : InterpView) → 0 ≤ j → j < k → IsReport worked i j v → ⊥) → ((j : ℕ) (v : InterpView) → k + 1 ≤ j → IsReport worked i j v → ⊥)
    → (j : ℕ) (v : InterpView) → IsReport worked i j v → j ≡ k
only_at worked i k before after j v r =
    elim (leb_tells k j) [
      | inl a ↦ elim (eqb_tells j k) [
        | inl e ↦ e.1
        | inr ne ↦ (let le = a.1 in let apart = ne.1 in let lt : k + 1 ≤ j = omega arith in absurd (after j v lt r))
      ]
      | inr a ↦ (let least : 0 ≤ j = omega arith in absurd (before j v least a.1 r))
    ]

-- and all is fit, where it is
pub fit_at : (p : Past) (worked : List InterpView) (i k : ℕ) (x : InterpView) → IsReport worked i k x → ((j : ℕ) (v : InterpView) → IsReport worked i j v → j ≡ k) → IsMember p i x → IsFit p worked i
fit_at p worked i k x r only m = record {
  some = record { place = k; seen = x; report = r };
  each = λ j v s.
      let one : Some x ≡ Some v = sym r.at ∙ ap (λ (n : ℕ). slice_get worked n) (sym (only j v s)) ∙ s.at in
      let same : x ≡ v = cc one in
      subst (IsMember p i) same m;
}
