-- Independent neighbours of a history, in the other order.
use Rattle.std.proofs.Common.{◌≡◌, ◌≢◌, ℕ, List, [], ◌∷◌, ◌++◌, Bool, true, false, refl, ap, sym, ◌∙◌, subst}
use Rattle.std.specs.Prelude.{◌==◌, if◌then◌else◌}
use Rattle.std.proofs.lemmas.Bool.{eqb-true}
use Rattle.si_semantics.specs.Shared.{State, Reply, Replied, reply}
use Rattle.si_semantics.specs.History.{Call, next_state, state_then, state_after, Told}
use Rattle.si_exchange.specs.Independence.{AreApart, calls_of, MayExchange}
use Rattle.si_exchange.proofs.Swapping.{swap}

-- ---- the calls of each interpreter

-- of two calls of which at most one is chosen, the order doesn't matter
chosen_swap : (b e : Bool) (c d : Call) (calls : List Call) → (b ≡ true → e ≡ true → ⊥)
    → (if e then d ∷ (if b then c ∷ calls else calls) else (if b then c ∷ calls else calls)) ≡ (if b then c ∷ (if e then d ∷ calls else calls) else (if e then d ∷ calls else calls))
chosen_swap true true c d calls n = absurd (n refl refl)
chosen_swap true false c d calls n = refl
chosen_swap false true c d calls n = refl
chosen_swap false false c d calls n = refl

calls_swap : (i : ℕ) (before : List Call) (c d : Call) (after : List Call) → c.by ≢ d.by → calls_of i (before ++ d ∷ (c ∷ after)) ≡ calls_of i (before ++ c ∷ (d ∷ after))
calls_swap i [] c d after n = chosen_swap (c.by == i) (d.by == i) c d (calls_of i after) (λ e f. n (eqb-true c.by i e ∙ sym (eqb-true d.by i f)))
calls_swap i (x ∷ before) c d after n = ap (λ (calls : List Call). if x.by == i then x ∷ calls else calls) (calls_swap i before c d after n)

-- ---- the table

pub record Turned (w : ℕ) (s : State) (calls others : List Call) : Type 0 where
  pub told : Told w s others
  pub left : state_after w s others ≡ state_after w s calls

first_swap : (w : ℕ) (s : State) (c d : Call) (after : List Call) → AreApart c.action d.action → Told w s (c ∷ (d ∷ after)) → Turned w s (c ∷ (d ∷ after)) (d ∷ (c ∷ after))
unfolding Told state_after
first_swap w s c d after apart t =
    let x = state_then w s c.by c.action in
    let v = state_then w x d.by d.action in
    let k = swap w s c.by d.by c.action d.action c.answer d.answer x v apart t.0 t.1.0 in
    let m : state_then w s d.by d.action ≡ k.between = ap (λ (y : Reply). next_state y s) k.first in
    let n : state_then w (state_then w s d.by d.action) c.by c.action ≡ v =
    ap (λ (y : State). state_then w y c.by c.action) m ∙ ap (λ (y : Reply). next_state y k.between) k.second in
    let one : reply w s d.by d.action ≡ Replied d.answer (state_then w s d.by d.action) = k.first ∙ ap (λ (y : State). Replied d.answer y) (sym m) in
    let two : reply w (state_then w s d.by d.action) c.by c.action ≡ Replied c.answer (state_then w (state_then w s d.by d.action) c.by c.action) =
    ap (λ (y : State). reply w y c.by c.action) m ∙ k.second ∙ ap (λ (y : State). Replied c.answer y) (sym n) in
    record {
      told = (one, (two, subst (λ (y : State). Told w y after) (sym n) t.1.1));
      left = ap (λ (y : State). state_after w y after) n;
    }

later_swap : (w : ℕ) (s : State) (before after : List Call) (c d : Call) → AreApart c.action d.action → Told w s (before ++ c ∷ (d ∷ after))
    → Turned w s (before ++ c ∷ (d ∷ after)) (before ++ d ∷ (c ∷ after))
unfolding Told state_after
later_swap w s [] after c d apart t = first_swap w s c d after apart t
later_swap w s (x ∷ before) after c d apart t =
    let k = later_swap w (state_then w s x.by x.action) before after c d apart t.1 in
    record { told = (t.0, k.told); left = k.left }

-- ---- the law

pub may_exchange : MayExchange
may_exchange w s before after c d h t =
    let k = later_swap w s before after c d h.actions t in
    record { told = k.told; state = k.left; calls_of_each = λ i. calls_swap i before c d after h.callers }
