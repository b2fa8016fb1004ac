-- The callers of a world make a schedule.
use Rattle.std.proofs.Common.{◌≡◌, ℕ, ◌<◌, ◌≤◌, ◌^◌, List, [], ◌∷◌, ◌++◌, length, refl, ap, sym, ◌∙◌, subst, arith, append_assoc, inl, inr}
use Rattle.std.specs.List.{AllByRecursion}
use Rattle.std.proofs.lemmas.Bool.Decides.{leb_tells}
use Rattle.si_semantics.specs.History.{Call}
use Rattle.si_schedule.specs.Schedules.{IsSchedule}
use Rattle.si_world.specs.Legal.{exchange, calls_of}
use Rattle.si_world.specs.Worlds.{WorldView, IsWorld}
use Rattle.si_world.specs.Reports.{IsRecorded}
use Rattle.si_replay.specs.Replays.{callers}
use Rattle.si_replay.proofs.Ordering.{calls-split, no_calls}

-- who made a call is one of the interpreters that the limits allow
caller_below : (w : WorldView) → IsWorld w → (done : List Call) (c : Call) (cs : List Call) → done ++ c ∷ cs ≡ w.past.journal → c.by < w.past.limits.interpreters
caller_below w h done c cs e = elim (leb_tells w.past.limits.interpreters c.by) [
  | inl a ↦ (
      let none = h.others c.by (let x = a.1 in let n = h.count in omega arith) in
      absurd (no_calls (calls_of c.by done) (calls_of c.by cs) (exchange c.action c.answer) (sym (calls-split done c cs) ∙ ap (calls_of c.by) e ∙ none)))
  | inr a ↦ a.1
]

callers_below : (w : WorldView) → IsWorld w → (done cs : List Call) → done ++ cs ≡ w.past.journal → AllByRecursion (λ i. i < w.past.limits.interpreters) (callers cs)
callers_below w h done [] e = tt
callers_below w h done (c ∷ cs) e = (caller_below w h done c cs e, callers_below w h (done ++ c ∷ []) cs (append_assoc done (c ∷ []) cs ∙ e))

pub callers_schedule : (w : WorldView) (n : ℕ) (by : List ℕ) → IsWorld w → n ≡ w.past.limits.interpreters → by ≡ callers w.past.journal → 1 ≤ n → n ≤ 64 → length by < 2 ^ 64
    → IsSchedule (record { interpreters = n; callers = by })
callers_schedule w n by h en eb least most count = record {
  least = least;
  most = most;
  each = subst (λ (m : ℕ). AllByRecursion (λ i. i < m) by) (sym en) (subst (λ (xs : List ℕ). AllByRecursion (λ i. i < w.past.limits.interpreters) xs) (sym eb) (callers_below w h [] w.past.journal refl));
  count = count;
}

-- those of a recording too
pub recorded_schedule : (r : WorldView) (n : ℕ) (by : List ℕ) → IsRecorded r → n ≡ r.past.limits.interpreters → by ≡ callers r.past.journal → 1 ≤ n → n ≤ 64 → length by < 2 ^ 64
    → IsSchedule (record { interpreters = n; callers = by })
recorded_schedule r n by h en eb least most count =
    callers_schedule h.left n by h.is (en ∙ ap (λ (w : WorldView). w.past.limits.interpreters) h.seen) (eb ∙ ap (λ (w : WorldView). callers w.past.journal) h.seen) least most count
