-- The beginnings of lists.
use Rattle.std.proofs.Common.{◌≡◌, ℕ, zero, suc, ◌+◌, ◌≤◌, List, [], ◌∷◌, ◌++◌, length, map, take, refl, ap, sym, ◌∙◌, arith, add-one, slice_get, Some, None, false}
use Rattle.std.proofs.lemmas.List.{map-append, length-take}
use Rattle.si_plain.specs.Ranges.{Numbers}
use Rattle.si_semantics.specs.Value.{Text}
use Rattle.si_semantics.specs.Shared.{Queue}
use Rattle.si_semantics.specs.History.{Call}
use Rattle.si_hub.specs.HubCode.{Past}
use Rattle.si_interp.specs.Meaning.{InterpView}
use Rattle.si_interp.specs.View.{taken_view}
use Rattle.si_world.specs.Worlds.{WorldView, world, created, IsWorld}
use Rattle.si_world.specs.Reports.{IsRecorded}
use Rattle.si_world.specs.inner.Copies.{AllFree}

take_suc : {X : Type 0} (xs : List X) (i : ℕ) (x : X) → slice_get xs i ≡ Some x → take (suc i) xs ≡ take i xs ++ x ∷ []
take_suc [] i x e = cc
take_suc (y ∷ xs) zero x e = let h : y ≡ x = cc in ap (λ (z : _). z ∷ []) h
take_suc (y ∷ xs) (suc i) x e = ap (λ (ys : List _). y ∷ ys) (take_suc xs i x e)

-- one more
pub take_get : {X : Type 0} (xs : List X) (i : ℕ) (x : X) → slice_get xs i ≡ Some x → take (i + 1) xs ≡ take i xs ++ x ∷ []
take_get xs i x e = ap (λ (n : ℕ). take n xs) (add-one i) ∙ take_suc xs i x e

pub take_all : {X : Type 0} (xs : List X) (n : ℕ) → length xs ≤ n → take n xs ≡ xs
take_all [] zero h = refl
take_all [] (suc n) h = refl
take_all (x ∷ xs) zero h = absurd (omega arith)
take_all (x ∷ xs) (suc n) h = ap (λ (ys : List _). x ∷ ys) (take_all xs n (omega arith))

pub take_none : {X : Type 0} (xs : List X) (i : ℕ) → slice_get xs i ≡ None → take i xs ≡ xs
take_none [] zero e = refl
take_none [] (suc i) e = refl
take_none (x ∷ xs) zero e = cc
take_none (x ∷ xs) (suc i) e = ap (λ (ys : List _). x ∷ ys) (take_none xs i e)

-- what stands in a beginning stands there in the whole
pub taken_get : {X : Type 0} (xs : List X) (n i : ℕ) (x : X) → slice_get (take n xs) i ≡ Some x → slice_get xs i ≡ Some x
taken_get [] zero i x e = cc
taken_get [] (suc n) i x e = cc
taken_get (y ∷ xs) zero i x e = cc
taken_get (y ∷ xs) (suc n) zero x e = e
taken_get (y ∷ xs) (suc n) (suc i) x e = taken_get xs n i x e

-- one that has not handed out its action is seen as it is
pub free_view : (v : InterpView) → v.taken ≡ false → taken_view v false ≡ v
free_view v e = ap (taken_view v) (sym e)

-- what queues hold
pub items_more : (qs : List Queue) (i : ℕ) (q : Queue) → slice_get qs i ≡ Some q → map (λ (x : Queue). x.items) (take (i + 1) qs) ≡ map (λ (x : Queue). x.items) (take i qs) ++ q.items ∷ []
items_more qs i q e = ap (λ (xs : List Queue). map (λ (x : Queue). x.items) xs) (take_get qs i q e) ∙ map-append (λ (x : Queue). x.items) (take i qs) (q ∷ [])

pub items_none : (qs : List Queue) (i : ℕ) → slice_get qs i ≡ None → map (λ (x : Queue). x.items) (take i qs) ≡ map (λ (x : Queue). x.items) qs
items_none qs i e = ap (λ (xs : List Queue). map (λ (x : Queue). x.items) xs) (take_none qs i e)

pub items_all : (qs : List Queue) (n : ℕ) → length qs ≤ n → map (λ (x : Queue). x.items) (take n qs) ≡ map (λ (x : Queue). x.items) qs
items_all qs n h = ap (λ (xs : List Queue). map (λ (x : Queue). x.items) xs) (take_all qs n h)

-- no interpreter of a world has handed out its action
pub free_all : (w : WorldView) → IsWorld w → AllFree w.interps
free_all w h = λ i v at. (h.each i v at).taken

-- a past, by its parts
pub past_is : (p : Past) (s : Text) (l : Numbers) (j : List Call) → s ≡ p.script → l ≡ p.limits → j ≡ p.journal → (let q : Past = record { script = s; limits = l; journal = j } in q) ≡ p
past_is p s l j a b c =
    ap (λ (x : Text). (let q : Past = record { script = x; limits = l; journal = j } in q)) a
    ∙ ap (λ (x : Numbers). (let q : Past = record { script = p.script; limits = x; journal = j } in q)) b
    ∙ ap (λ (x : List Call). (let q : Past = record { script = p.script; limits = p.limits; journal = x } in q)) c

-- what is recorded of a world
pub recorded_is : (p : Past) (vs rs : List InterpView) → rs ≡ take (created p) vs → IsWorld (world p vs) → IsRecorded (world p rs)
recorded_is p vs rs e h = record { left = world p vs; is = h; seen = ap (world p) e }

-- there are no more reports than the limits allow interpreters
pub few_recorded : (r : WorldView) → IsRecorded r → length r.interps ≤ r.past.limits.interpreters
few_recorded r h =
    let a = h.is.few in
    let b = length-take (created h.left.past) h.left.interps in
    let c = ap (λ (w : WorldView). length w.interps) h.seen in
    let d = ap (λ (w : WorldView). w.past.limits.interpreters) h.seen in
    let e = h.is.count in
    omega arith
