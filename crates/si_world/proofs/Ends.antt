-- How a world ends, one interpreter more.
use Rattle.std.proofs.Common.{◌≡◌, ◌≢◌, ℕ, zero, suc, ◌+◌, ◌<◌, List, [], ◌∷◌, ◌++◌, length, refl, ap, sym, ◌∙◌, subst, arith, inl, inr, slice_get, Some, take}
use Rattle.std.proofs.lemmas.Bool.{lt-ltb}
use Rattle.si_hub.specs.HubCode.{Past}
use Rattle.si_interp.specs.Meaning.{InterpView}
use Rattle.si_world.specs.declared.ending.End.{End}
use Rattle.si_world.specs.declared.ending.End.TheVariants as end
use Rattle.si_world.specs.Worlds.{WorldView, created}
use Rattle.si_world.specs.Marks.{CanMove, AtRest}
use Rattle.si_world.proofs.Copying.{take_get}
use Rattle.si_world.specs.Reports.{end_by, first_of_ends, end_from, end_of, members}

pub end_more : (p : Past) (i : ℕ) (e : End) (vs : List InterpView) (v : InterpView) → end_from p i e (vs ++ v ∷ []) ≡ first_of_ends (end_from p i e vs) (end_by p (i + length vs) v.locals v.stand)
end_more p i e [] v = let n : i ≡ i + 0 = omega arith in ap (λ (k : ℕ). first_of_ends e (end_by p k v.locals v.stand)) n
end_more p i e (x ∷ vs) v =
    let n : (i + 1) + length vs ≡ i + suc (length vs) = omega arith in
    let f = first_of_ends e (end_by p i x.locals x.stand) in
    end_more p (i + 1) f vs v ∙ ap (λ (k : ℕ). first_of_ends (end_from p (i + 1) f vs) (end_by p k v.locals v.stand)) n

length_front : {X : Type 0} (xs : List X) (i : ℕ) (x : X) → slice_get xs i ≡ Some x → length (take i xs) ≡ i
length_front [] i x e = cc
length_front (y ∷ xs) zero x e = refl
length_front (y ∷ xs) (suc i) x e = ap suc (length_front xs i x e)

-- the end of one interpreter more
pub end_next : (p : Past) (vs : List InterpView) (i : ℕ) (v : InterpView) (e f : End) → slice_get vs i ≡ Some v → e ≡ end_of p (take i vs) → f ≡ first_of_ends e (end_by p i v.locals v.stand) → f ≡ end_of p (take (i + 1) vs)
end_next p vs i v e f at h g =
    let l : length (take i vs) ≡ i = length_front vs i v at in
    let n : i ≡ 0 + length (take i vs) = omega arith in
    g ∙ ap (λ (x : End). first_of_ends x (end_by p i v.locals v.stand)) h
    ∙ ap (λ (k : ℕ). first_of_ends (end_of p (take i vs)) (end_by p k v.locals v.stand)) n
    ∙ sym (end_more p 0 end.Finished (take i vs) v)
    ∙ ap (λ (xs : List InterpView). end_of p xs) (sym (take_get vs i v at))

open_first : (e : End) → first_of_ends end.Open e ≡ end.Open
open_first end.Open = refl
open_first end.Starved = refl
open_first end.Spent = refl
open_first end.Stuck = refl
open_first end.Finished = refl

open_second : (e : End) → first_of_ends e end.Open ≡ end.Open
open_second end.Open = refl
open_second end.Starved = refl
open_second end.Spent = refl
open_second end.Stuck = refl
open_second end.Finished = refl

stays_open : (p : Past) (i : ℕ) (vs : List InterpView) → end_from p i end.Open vs ≡ end.Open
stays_open p i [] = refl
stays_open p i (v ∷ vs) = ap (λ (e : End). end_from p (i + 1) e vs) (open_first (end_by p i v.locals v.stand)) ∙ stays_open p (i + 1) vs

moving_open : (p : Past) (i : ℕ) (v : InterpView) → CanMove p i v → end_by p i v.locals v.stand ≡ end.Open
moving_open p i v (inl h) = rw (h.0, lt-ltb v.locals p.limits.turns h.1) refl
moving_open p i v (inr h) = rw (h.1, h.2) refl

open_at : (p : Past) (i : ℕ) (e : End) (vs : List InterpView) (k : ℕ) (v : InterpView) → slice_get vs k ≡ Some v → CanMove p (i + k) v → end_from p i e vs ≡ end.Open
open_at p i e [] k v at m = cc
open_at p i e (x ∷ vs) zero v at m =
    let s : x ≡ v = cc in
    let n : i + 0 ≡ i = omega arith in
    let c : CanMove p i x = subst (λ (u : InterpView). CanMove p i u) (sym s) (subst (λ (j : ℕ). CanMove p j v) n m) in
    ap (λ (f : End). end_from p (i + 1) (first_of_ends e f) vs) (moving_open p i x c) ∙ ap (λ (f : End). end_from p (i + 1) f vs) (open_second e) ∙ stays_open p (i + 1) vs
open_at p i e (x ∷ vs) (suc k) v at m =
    let n : i + suc k ≡ (i + 1) + k = omega arith in
    open_at p (i + 1) (first_of_ends e (end_by p i x.locals x.stand)) vs k v at (subst (λ (j : ℕ). CanMove p j v) n m)

get_take : {X : Type 0} (xs : List X) (n k : ℕ) (x : X) → k < n → slice_get xs k ≡ Some x → slice_get (take n xs) k ≡ Some x
get_take [] n k x lt e = cc
get_take (y ∷ xs) zero k x lt e = absurd (omega arith)
get_take (y ∷ xs) (suc n) zero x lt e = e
get_take (y ∷ xs) (suc n) (suc k) x lt e = get_take xs n k x (omega arith) e

-- a world whose end is not open is at rest
pub rests_so : (w : WorldView) → end_of w.past (members w) ≢ end.Open → AtRest w
rests_so w ne = λ i v lt at m.
    let n : i ≡ 0 + i = omega arith in
    ne (open_at w.past 0 end.Finished (members w) i v (get_take w.interps (created w.past) i v lt at) (subst (λ (j : ℕ). CanMove w.past j v) n m))
