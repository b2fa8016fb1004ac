-- Lists by their places, and the calls of one interpreter.
use Rattle.std.proofs.Common.{◌≡◌, ◌≢◌, ℕ, zero, suc, List, [], ◌∷◌, ◌++◌, set, append-nil, refl, ap, ◌∙◌, inl, inr, Some, Bool, true, false, slice_get}
use Rattle.std.specs.Prelude.{◌==◌}
use Rattle.std.proofs.lemmas.Bool.{eq-eqb}
use Rattle.std.proofs.lemmas.Bool.Decides.{eqb_tells}
use Rattle.si_semantics.specs.History.{Call}
use Rattle.si_world.specs.Legal.{Exchange, exchange, chosen, calls_of}

pub get-set_same : {X : Type 0} (xs : List X) (i : ℕ) (x y : X) → slice_get xs i ≡ Some x → slice_get (set xs i y) i ≡ Some y
get-set_same [] i x y e = cc
get-set_same (z ∷ xs) zero x y e = refl
get-set_same (z ∷ xs) (suc i) x y e = get-set_same xs i x y e

pub get-set_other : {X : Type 0} (xs : List X) (i j : ℕ) (y : X) → j ≢ i → slice_get (set xs i y) j ≡ slice_get xs j
get-set_other [] i j y ne = refl
get-set_other (z ∷ xs) zero zero y ne = absurd (ne refl)
get-set_other (z ∷ xs) zero (suc j) y ne = refl
get-set_other (z ∷ xs) (suc i) zero y ne = refl
get-set_other (z ∷ xs) (suc i) (suc j) y ne = get-set_other xs i j y (λ e. ne (ap suc e))

chosen-append : (b : Bool) (x : Exchange) (xs ys : List Exchange) → chosen b x (xs ++ ys) ≡ chosen b x xs ++ ys
chosen-append true x xs ys = refl
chosen-append false x xs ys = refl

-- one call more
pub calls-more : (i : ℕ) (cs : List Call) (c : Call) → calls_of i (cs ++ c ∷ []) ≡ calls_of i cs ++ chosen (c.by == i) (exchange c.action c.answer) []
calls-more i [] c = refl
calls-more i (d ∷ ds) c = ap (λ (xs : List Exchange). chosen (d.by == i) (exchange d.action d.answer) xs) (calls-more i ds c) ∙ chosen-append (d.by == i) (exchange d.action d.answer) (calls_of i ds) _

pub calls-own : (i : ℕ) (cs : List Call) (c : Call) → c.by ≡ i → calls_of i (cs ++ c ∷ []) ≡ calls_of i cs ++ exchange c.action c.answer ∷ []
calls-own i cs c e = calls-more i cs c ∙ ap (λ (b : Bool). calls_of i cs ++ chosen b (exchange c.action c.answer) []) (eq-eqb c.by i e)

not_equal : (a b : ℕ) → a ≢ b → (a == b) ≡ false
not_equal a b ne = let t = eqb_tells a b in elim t [ inl w ↦ absurd (ne w.1) | inr w ↦ w.0 ]

pub calls-other : (i : ℕ) (cs : List Call) (c : Call) → c.by ≢ i → calls_of i (cs ++ c ∷ []) ≡ calls_of i cs
calls-other i cs c ne = calls-more i cs c ∙ ap (λ (b : Bool). calls_of i cs ++ chosen b (exchange c.action c.answer) []) (not_equal c.by i ne) ∙ append-nil (calls_of i cs)
