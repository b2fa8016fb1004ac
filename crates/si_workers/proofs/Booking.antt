-- What a book keeps true.
use Rattle.std.proofs.Common.{◌≡◌, ◌≢◌, ℕ, zero, suc, ◌+◌, List, [], ◌∷◌, length, set, replicate, refl, ap, sym, ◌∙◌, subst, arith, inl, inr, true, false, slice_get, Some, if◌then◌else◌, Bool}
use Rattle.std.proofs.lemmas.List.{length-replicate, length-set}
use Rattle.std.proofs.lemmas.Bool.Decides.{eqb_tells}
use Rattle.si_semantics.specs.Actions.{Action}
use Rattle.si_hub.specs.HubCode.{Past}
use Rattle.si_hub.specs.Hubs.{IsTold, can_act}
use Rattle.si_workers.specs.Books.{Page, Busy, Woken, Waiting, Rest, book, roused, roused_from, IsBook}
use Rattle.si_workers.specs.inner.Pages.{is_waiting}

busy_at : (n i : ℕ) (s : Page) → slice_get (replicate n Busy) i ≡ Some s → s ≡ Busy
busy_at zero i s e = cc
busy_at (suc n) zero s e = let h : Busy ≡ s = cc in sym h
busy_at (suc n) (suc i) s e = busy_at n i s e

pub book_first : (p : Past) (ss : List Page) → IsTold p → ss ≡ replicate p.limits.interpreters Busy → IsBook (book p ss)
book_first p ss t e = record {
  told = t;
  count = ap (λ (xs : List Page). length xs) e ∙ length-replicate p.limits.interpreters Busy;
  waits = λ i a at. let k : Waiting a ≡ Busy = busy_at p.limits.interpreters i (Waiting a) (ap (λ (xs : List Page). slice_get xs i) (sym e) ∙ at) in absurd (cc k);
}

roused_count : (p : Past) (i : ℕ) (ss : List Page) → length (roused_from p i ss) ≡ length ss
roused_count p i [] = refl
roused_count p i (s ∷ ss) = ap suc (roused_count p (i + 1) ss)

by_enabled : (b : Bool) (a c : Action) → (if b then Woken a else Waiting a) ≡ Waiting c → (b ≡ false) × (a ≡ c)
by_enabled true a c e = cc
by_enabled false a c e = let h : a ≡ c = cc in (refl, h)

-- a page that waits after it was roused waits with an action that is not enabled
roused_waits : (p : Past) (i : ℕ) (s : Page) (a : Action) → roused p i s ≡ Waiting a → can_act p i a ≡ false
roused_waits p i Busy a e = cc
roused_waits p i (Woken b) a e = cc
roused_waits p i (Waiting b) a e = let h = by_enabled (can_act p i b) b a e in ap (can_act p i) (sym h.1) ∙ h.0
roused_waits p i Rest a e = cc

waits_from : (p : Past) (n : ℕ) (ss : List Page) (i : ℕ) (a : Action) → slice_get (roused_from p n ss) i ≡ Some (Waiting a) → can_act p (n + i) a ≡ false
waits_from p n [] i a e = cc
waits_from p n (s ∷ ss) zero a e =
    let h : roused p n s ≡ Waiting a = cc in
    let k : n + 0 ≡ n = omega arith in
    ap (λ (j : ℕ). can_act p j a) k ∙ roused_waits p n s a h
waits_from p n (s ∷ ss) (suc i) a e =
    let k : n + suc i ≡ (n + 1) + i = omega arith in
    ap (λ (j : ℕ). can_act p j a) k ∙ waits_from p (n + 1) ss i a e

-- after a call was answered
pub book_roused : (p q : Past) (ss ts : List Page) → IsBook (book p ss) → q.limits ≡ p.limits → IsTold q → ts ≡ roused_from q 0 ss → IsBook (book q ts)
book_roused p q ss ts h l t e = record {
  told = t;
  count = ap (λ (xs : List Page). length xs) e ∙ roused_count q 0 ss ∙ h.count ∙ ap (λ (x : _). x.interpreters) (sym l);
  waits = λ i a at.
      let k : 0 + i ≡ i = omega arith in
      ap (λ (j : ℕ). can_act q j a) (sym k) ∙ waits_from q 0 ss i a (ap (λ (xs : List Page). slice_get xs i) (sym e) ∙ at);
}

get-set_same : (xs : List Page) (i : ℕ) (s t : Page) → slice_get (set xs i t) i ≡ Some s → t ≡ s
get-set_same [] i s t e = cc
get-set_same (z ∷ xs) zero s t e = cc
get-set_same (z ∷ xs) (suc i) s t e = get-set_same xs i s t e

get-set_other : (xs : List Page) (i j : ℕ) (y : Page) → j ≢ i → slice_get (set xs i y) j ≡ slice_get xs j
get-set_other [] i j y ne = refl
get-set_other (z ∷ xs) zero zero y ne = absurd (ne refl)
get-set_other (z ∷ xs) zero (suc j) y ne = refl
get-set_other (z ∷ xs) (suc i) zero y ne = refl
get-set_other (z ∷ xs) (suc i) (suc j) y ne = get-set_other xs i j y (λ e. ne (ap suc e))

-- with another page, which waits with no action that is enabled
pub book_set : (p : Past) (ss ts : List Page) (i : ℕ) (s : Page) → IsBook (book p ss) → ts ≡ set ss i s → ((a : Action) → s ≡ Waiting a → can_act p i a ≡ false) → IsBook (book p ts)
book_set p ss ts i s h e n = record {
  told = h.told;
  count = ap (λ (xs : List Page). length xs) e ∙ length-set ss i s ∙ h.count;
  waits = λ j a at.
      let there : slice_get (set ss i s) j ≡ Some (Waiting a) = ap (λ (xs : List Page). slice_get xs j) (sym e) ∙ at in
      elim (eqb_tells j i) [
        | inl y ↦ ap (λ (k : ℕ). can_act p k a) y.1 ∙ n a (get-set_same ss i (Waiting a) s (ap (slice_get (set ss i s)) (sym y.1) ∙ there))
        | inr y ↦ h.waits j a (sym (get-set_other ss i j s y.1) ∙ there)
      ];
}

-- a page more that waits
pub book_waits : (p q : Past) (ss ts : List Page) (i : ℕ) (a : Action) → IsBook (book p ss) → q ≡ p → can_act p i a ≡ false → ts ≡ set ss i (Waiting a) → IsBook (book q ts)
book_waits p q ss ts i a h e n s =
    subst (λ (x : Past). IsBook (book x ts)) (sym e)
    (book_set p ss ts i (Waiting a) h s (λ b w. let k : a ≡ b = cc in ap (can_act p i) (sym k) ∙ n))

-- a page that doesn't wait
pub book_moves : (p : Past) (ss ts : List Page) (i : ℕ) (s : Page) → IsBook (book p ss) → is_waiting s ≡ false → ts ≡ set ss i s → IsBook (book p ts)
book_moves p ss ts i s h w e = book_set p ss ts i s h e (λ a k. let t : is_waiting (Waiting a) ≡ false = ap is_waiting (sym k) ∙ w in absurd (cc t))
