-- A log beside the calls of a journal, one call more.
use Rattle.std.proofs.Common.{◌≡◌, ◌≢◌, ℕ, zero, suc, ◌+◌, ◌<◌, ◌≤◌, List, [], ◌∷◌, ◌++◌, length, take, drop, refl, ap, sym, ◌∙◌, subst, arith, append_assoc, append-nil, add-one, inl, inr, true, false, slice_get, Some}
use Rattle.std.specs.Prelude.{nat_eq}
use Rattle.std.proofs.lemmas.Bool.Decides.{eqb_tells}
use Rattle.si_semantics.specs.History.{Call}
use Rattle.si_interp.specs.Meaning.{Logged}
use Rattle.si_world.specs.Legal.{Exchange, exchange, calls_of, exchanges}
use Rattle.si_world.proofs.Lists.{calls-own, calls-other}
use Rattle.si_replay.proofs.Ordering.{calls-split}

cancel : (xs ys zs : List Exchange) → xs ++ ys ≡ xs ++ zs → ys ≡ zs
cancel [] ys zs e = e
cancel (x ∷ xs) ys zs e = let h : xs ++ ys ≡ xs ++ zs = cc in cancel xs ys zs h

drop_suc : {X : Type 0} (xs : List X) (n : ℕ) (x : X) → slice_get xs n ≡ Some x → drop n xs ≡ x ∷ drop (suc n) xs
drop_suc [] n x e = cc
drop_suc (y ∷ xs) zero x e = let h : y ≡ x = cc in ap (λ (z : _). z ∷ xs) h
drop_suc (y ∷ xs) (suc n) x e = drop_suc xs n x e

drop_at : {X : Type 0} (xs : List X) (n : ℕ) (x : X) → slice_get xs n ≡ Some x → drop n xs ≡ x ∷ drop (n + 1) xs
drop_at xs n x e = drop_suc xs n x e ∙ ap (λ (m : ℕ). x ∷ drop m xs) (sym (add-one n))

pub drop_past : {X : Type 0} (xs : List X) (n : ℕ) → length xs ≤ n → drop n xs ≡ []
drop_past [] zero h = refl
drop_past [] (suc n) h = refl
drop_past (x ∷ xs) zero h = absurd (omega arith)
drop_past (x ∷ xs) (suc n) h = drop_past xs n (omega arith)

drop_some : {X : Type 0} (xs : List X) (n : ℕ) → n < length xs → drop n xs ≢ []
drop_some [] n h = absurd (omega arith)
drop_some (x ∷ xs) zero h = λ e. cc
drop_some (x ∷ xs) (suc n) h = drop_some xs n (omega arith)

pub whole : {X : Type 0} (xs : List X) (n : ℕ) → take n xs ++ drop n xs ≡ xs
whole [] zero = refl
whole [] (suc n) = refl
whole (x ∷ xs) zero = refl
whole (x ∷ xs) (suc n) = ap (λ (ys : List _). x ∷ ys) (whole xs n)

-- a list is what stands before a place, what stands there, and what stands after it
pub split_at : {X : Type 0} (xs : List X) (n : ℕ) (x : X) → slice_get xs n ≡ Some x → take n xs ++ x ∷ drop (n + 1) xs ≡ xs
split_at xs n x e = ap (λ (ys : List _). take n xs ++ ys) (sym (drop_at xs n x e)) ∙ whole xs n

-- a call of another
pub other_more : (i : ℕ) (log : List Logged) (next : ℕ) (c : Call) → c.by ≢ i → (done : List Call) → exchanges log ≡ calls_of i done ++ exchanges (drop next log)
    → exchanges log ≡ calls_of i (done ++ c ∷ []) ++ exchanges (drop next log)
other_more i log next c ne done h = h ∙ ap (λ (es : List Exchange). es ++ exchanges (drop next log)) (sym (calls-other i done c ne))

-- a call that agrees
pub own_more : (i : ℕ) (log : List Logged) (next : ℕ) (l : Logged) (c : Call) → slice_get log next ≡ Some l → c.by ≡ i → exchange l.action l.answer ≡ exchange c.action c.answer
    → (done : List Call) → exchanges log ≡ calls_of i done ++ exchanges (drop next log) → exchanges log ≡ calls_of i (done ++ c ∷ []) ++ exchanges (drop (next + 1) log)
own_more i log next l c at by same done h =
    let rest = exchanges (drop (next + 1) log) in
    let d : exchanges (drop next log) ≡ exchange l.action l.answer ∷ rest = ap exchanges (drop_at log next l at) in
    h ∙ ap (λ (es : List Exchange). calls_of i done ++ es) (d ∙ ap (λ (x : Exchange). x ∷ rest) same)
    ∙ sym (append_assoc (calls_of i done) (exchange c.action c.answer ∷ []) rest)
    ∙ ap (λ (es : List Exchange). es ++ rest) (sym (calls-own i done c by))

-- with a call of it in the journal
with_call : (i : ℕ) (done more : List Call) (c : Call) → c.by ≡ i → calls_of i (done ++ c ∷ more) ≡ calls_of i done ++ exchange c.action c.answer ∷ calls_of i more
with_call i done more c by = subst (λ (j : ℕ). calls_of j (done ++ c ∷ more) ≡ calls_of j done ++ exchange c.action c.answer ∷ calls_of j more) by (calls-split done c more)

-- the log has no more entries
pub log_short : (i : ℕ) (log : List Logged) (next : ℕ) (c : Call) → length log ≤ next → c.by ≡ i → (done more : List Call) → exchanges log ≡ calls_of i done ++ exchanges (drop next log)
    → calls_of i (done ++ c ∷ more) ≢ exchanges log
log_short i log next c le by done more h = λ e.
    let d : exchanges (drop next log) ≡ [] = ap exchanges (drop_past log next le) in
    let k = cancel (calls_of i done) (exchange c.action c.answer ∷ calls_of i more) (exchanges (drop next log)) (sym (with_call i done more c by) ∙ e ∙ h) ∙ d in
    absurd (cc k)

-- its entry is another
pub log_differs : (i : ℕ) (log : List Logged) (next : ℕ) (l : Logged) (c : Call) → slice_get log next ≡ Some l → c.by ≡ i → exchange l.action l.answer ≢ exchange c.action c.answer
    → (done more : List Call) → exchanges log ≡ calls_of i done ++ exchanges (drop next log) → calls_of i (done ++ c ∷ more) ≢ exchanges log
log_differs i log next l c at by ne done more h = λ e.
    let d : exchanges (drop next log) ≡ exchange l.action l.answer ∷ exchanges (drop (next + 1) log) = ap exchanges (drop_at log next l at) in
    let k = cancel (calls_of i done) (exchange c.action c.answer ∷ calls_of i more) (exchanges (drop next log)) (sym (with_call i done more c by) ∙ e ∙ h) ∙ d in
    let s : exchange c.action c.answer ≡ exchange l.action l.answer = cc k in
    ne (sym s)

-- all entries have agreed
pub log_whole : (i : ℕ) (js : List Call) (log : List Logged) (next : ℕ) → length log ≤ next → exchanges log ≡ calls_of i js ++ exchanges (drop next log) → calls_of i js ≡ exchanges log
log_whole i js log next le h =
    let d : exchanges (drop next log) ≡ [] = ap exchanges (drop_past log next le) in
    sym (h ∙ ap (λ (es : List Exchange). calls_of i js ++ es) d ∙ append-nil (calls_of i js))

none_exchanged : (ls : List Logged) → exchanges ls ≡ [] → ls ≡ []
none_exchanged [] e = refl
none_exchanged (l ∷ ls) e = cc

-- some are left
pub log_long : (i : ℕ) (js : List Call) (log : List Logged) (next : ℕ) → next < length log → exchanges log ≡ calls_of i js ++ exchanges (drop next log) → calls_of i js ≢ exchanges log
log_long i js log next lt h = λ e.
    let k : exchanges (drop next log) ≡ [] = cancel (calls_of i js) (exchanges (drop next log)) [] (sym h ∙ sym e ∙ sym (append-nil (calls_of i js))) in
    drop_some log next lt (none_exchanged (drop next log) k)

none_by : (log : List Logged) → length log ≡ 0 → exchanges log ≡ []
none_by [] e = refl
none_by (l ∷ ls) e = absurd (omega arith)

some_by : (log : List Logged) → length log ≢ 0 → exchanges log ≢ []
some_by [] ne = absurd (ne refl)
some_by (l ∷ ls) ne = λ h. cc

-- by its length, a log has no exchange, or some
pub none_in_it : (log : List Logged) → nat_eq (length log) 0 ≡ true → exchanges log ≡ []
none_in_it log e =
    elim (eqb_tells (length log) 0) [
      | inl w ↦ none_by log w.1
      | inr w ↦ (let b : false ≡ true = sym w.0 ∙ e in absurd (cc b))
    ]

pub some_in_it : (log : List Logged) → nat_eq (length log) 0 ≡ false → exchanges log ≢ []
some_in_it log e =
    elim (eqb_tells (length log) 0) [
      | inl w ↦ (let b : true ≡ false = sym w.0 ∙ e in absurd (cc b))
      | inr w ↦ some_by log w.1
    ]

pub long_or : (k n : ℕ) → k ≤ n → nat_eq k n ≡ false → k < n
long_or k n le f =
    elim (eqb_tells k n) [
      | inl w ↦ (let b : true ≡ false = sym w.0 ∙ f in absurd (cc b))
      | inr w ↦ (let ne = w.1 in omega arith)
    ]
