-- A run is that of the core, where no memory is refused.
use Rattle.std.proofs.Common.{◌≡◌, ◌≢◌, ℕ, zero, suc, ◌+◌, ◌<◌, ◌≤◌, List, [], ◌∷◌, ◌++◌, map, set, refl, ap, sym, ◌∙◌, subst, arith, inl, inr, true, false, slice_get, slice_index, Some}
use Rattle.std.specs.Prelude.{nat_le}
use Rattle.std.proofs.lemmas.List.{map-set}
use Rattle.std.proofs.lemmas.Bool.Decides.{leb_tells, eqb_tells}
use Rattle.si_semantics.specs.Actions.{Answer}
use Rattle.si_semantics.specs.Shared.{Reply, NotNow, Replied, is_enabled}
use Rattle.si_hub.specs.HubCode.{Past}
use Rattle.si_interp.specs.Meaning.{Logged, InterpView, Starved, answers_of, course_stand, course_text}
use Rattle.si_world.specs.declared.mark.Mark.{Mark}
use Rattle.si_world.specs.declared.mark.Mark.TheVariants as marks
use Rattle.si_world.specs.Legal.{Exchange, answers_to, exchanges}
use Rattle.si_world.specs.Worlds.{WorldView, world, created, IsMember, IsWorld}
use Rattle.si_world.specs.Marks.{Moves, MovesOne, Turned, Ran}
use Rattle.si_world.specs.Core.{Core, core_stand, core_text, core_moves, core_turn, core_run, core_of, NoneStarved, IsOfCore}
use Rattle.si_world.proofs.Lists.{get-set_same, get-set_other}

-- a list of turns and one more
pub Ran-more : (old : WorldView) (is : List ℕ) (ms : List Mark) (mid : WorldView) (i : ℕ) (m : Mark) (new : WorldView) → Ran old is ms mid → Turned mid i m new → Ran old (is ++ i ∷ []) (ms ++ m ∷ []) new
Ran-more old [] [] mid i m new r t = (new, subst (λ (w : WorldView). Turned w i m new) r t, refl)
Ran-more old (j ∷ is) (k ∷ ms) mid i m new r t = (r.0, r.1, Ran-more r.0 is ms mid i m new r.2 t)
Ran-more old [] (k ∷ ms) mid i m new r t = absurd r
Ran-more old (j ∷ is) [] mid i m new r t = absurd r

-- the same of the core
pub core_run-more : (c : Core) (is : List ℕ) (i : ℕ) → core_run c (is ++ i ∷ []) ≡ ((core_run c is).0 ++ (core_turn (core_run c is).1 i).0 ∷ [], (core_turn (core_run c is).1 i).1)
core_run-more c [] i = refl
core_run-more c (j ∷ is) i = ap (λ (p : List Mark × Core). let q : List Mark × Core = ((core_turn c j).0 ∷ p.0, p.1) in q) (core_run-more (core_turn c j).1 is i)

pub answers-exchanges : (log : List Logged) → map (λ (e : Exchange). e.answer) (exchanges log) ≡ answers_of log
answers-exchanges [] = refl
answers-exchanges (l ∷ ls) = ap (λ (rs : List Answer). l.answer ∷ rs) (answers-exchanges ls)

pub index-map : (vs : List InterpView) (i : ℕ) (v : InterpView) → slice_get vs i ≡ Some v → slice_index (map (λ (x : InterpView). x.locals) vs) i ≡ v.locals
index-map [] i v e = cc
index-map (x ∷ vs) zero v e = let h : x ≡ v = cc in ap (λ (y : InterpView). y.locals) h
index-map (x ∷ vs) (suc i) v e = index-map vs i v e

-- where it is not starved, an interpreter stands as the core says
pub stands_so : (w : WorldView) (i : ℕ) (v : InterpView) → IsMember w.past i v → slice_get w.interps i ≡ Some v → v.stand ≢ Starved → core_stand (core_of w) i ≡ v.stand
stands_so w i v m at fed =
    let f = (m.shows.follows fed).stand in
    let a : answers_to i w.past.journal ≡ answers_of v.log = ap (λ (es : List Exchange). map (λ (e : Exchange). e.answer) es) m.log ∙ answers-exchanges v.log in
    ap (λ (rs : List Answer). course_stand i rs (slice_index (map (λ (x : InterpView). x.locals) w.interps) i)) a
    ∙ ap (λ (l : ℕ). course_stand i (answers_of v.log) l) (index-map w.interps i v at)
    ∙ ap (λ (j : ℕ). course_stand j (answers_of v.log) v.locals) (sym m.id) ∙ sym f

-- and has printed what it says
pub prints_so : (w : WorldView) (i : ℕ) (v : InterpView) → IsMember w.past i v → slice_get w.interps i ≡ Some v → v.stand ≢ Starved → core_text (core_of w) i ≡ v.printed
prints_so w i v m at fed =
    let f = (m.shows.follows fed).text in
    let a : answers_to i w.past.journal ≡ answers_of v.log = ap (λ (es : List Exchange). map (λ (e : Exchange). e.answer) es) m.log ∙ answers-exchanges v.log in
    ap (λ (rs : List Answer). course_text i rs (slice_index (map (λ (x : InterpView). x.locals) w.interps) i)) a
    ∙ ap (λ (l : ℕ). course_text i (answers_of v.log) l) (index-map w.interps i v at)
    ∙ ap (λ (j : ℕ). course_text j (answers_of v.log) v.locals) (sym m.id) ∙ sym f

pub of_core : (w : WorldView) → IsWorld w → NoneStarved w → IsOfCore w
of_core w h n = λ i v at. (sym (prints_so w i v (h.each i v at) at (n i v at)), sym (stands_so w i v (h.each i v at) at (n i v at)))

pub not_le : (a b : ℕ) → b < a → nat_le a b ≡ false
not_le a b h = let t = leb_tells a b in elim t [ inl w ↦ (let k = w.1 in absurd (omega arith)) | inr w ↦ w.0 ]

pub le_true : (a b : ℕ) → a ≤ b → nat_le a b ≡ true
le_true a b h = let t = leb_tells a b in elim t [ inl w ↦ w.0 | inr w ↦ (let k = w.1 in absurd (omega arith)) ]

pub set-same : (vs : List InterpView) (i : ℕ) (v : InterpView) → slice_get vs i ≡ Some v → set vs i v ≡ vs
set-same [] i v e = refl
set-same (x ∷ vs) zero v e = let h : x ≡ v = cc in ap (λ (y : InterpView). y ∷ vs) (sym h)
set-same (x ∷ vs) (suc i) v e = ap (λ (ys : List InterpView). x ∷ ys) (set-same vs i v e)

same_core : (p q : Past) (vs : List InterpView) (i : ℕ) (v w : InterpView) → slice_get vs i ≡ Some v → q ≡ p → w ≡ v → core_of (world q (set vs i w)) ≡ core_of (world p vs)
same_core p q vs i v w at e f = rw (e, f, set-same vs i v at) refl

pub enabled_not : (x : Reply) → is_enabled x ≡ false → x ≡ NotNow
enabled_not NotNow e = refl
enabled_not (Replied r s) e = cc

locals-set : (vs : List InterpView) (i : ℕ) (v w : InterpView) → slice_get vs i ≡ Some v → w.locals ≡ v.locals → map (λ (x : InterpView). x.locals) (set vs i w) ≡ map (λ (x : InterpView). x.locals) vs
locals-set [] i v w at e = refl
locals-set (x ∷ vs) zero v w at e = let h : x ≡ v = cc in ap (λ (l : ℕ). l ∷ map (λ (y : InterpView). y.locals) vs) (e ∙ ap (λ (y : InterpView). y.locals) (sym h))
locals-set (x ∷ vs) (suc i) v w at e = ap (λ (ls : List ℕ). x.locals ∷ ls) (locals-set vs i v w at e)

-- a move, by the core
moves_so : (p q : Past) (vs : List InterpView) (i : ℕ) (v w : InterpView) (m : Mark) → slice_get vs i ≡ Some v → Moves p i v m q w → v.stand ≢ Starved → w.stand ≢ Starved
    → core_moves (core_of (world p vs)) i v.stand ≡ (m, core_of (world q (set vs i w)))
moves_so p q vs i v w marks.Local at h fv fw =
    let l = index-map vs i v at in
    let below : nat_le p.limits.turns (slice_index (map (λ (x : InterpView). x.locals) vs) i) ≡ false = not_le _ _ (let k = h.1 in omega arith) in
    let new : map (λ (x : InterpView). x.locals) (set vs i w) ≡ set (map (λ (x : InterpView). x.locals) vs) i (slice_index (map (λ (x : InterpView). x.locals) vs) i + 1)
    = map-set (λ (x : InterpView). x.locals) vs i w ∙ ap (λ (n : ℕ). set (map (λ (x : InterpView). x.locals) vs) i n) (h.3.locals ∙ ap (λ (n : ℕ). n + 1) (sym l)) in
    rw (h.0, below, h.2, new) refl
moves_so p q vs i v w marks.Acted at h fv fw =
    rw (h.2, h.3.replied, h.3.journal, locals-set vs i v w at h.4.locals) refl
moves_so p q vs i v w marks.Waited at h fv fw = rw (h.1, enabled_not _ h.2, same_core p q vs i v w at h.3 h.4) refl
moves_so p q vs i v w marks.Spent at h fv fw =
    let l = index-map vs i v at in
    let over : nat_le p.limits.turns (slice_index (map (λ (x : InterpView). x.locals) vs) i) ≡ true = le_true _ _ (let k = h.1 in omega arith) in
    rw (h.0, over, same_core p q vs i v w at h.2 h.3) refl
moves_so p q vs i v w marks.Nobody at h fv fw = elim h.0 [
  | inl g ↦ rw (g, same_core p q vs i v w at h.1 h.2) refl
  | inr g ↦ absurd (fv g)
]
moves_so p q vs i v w marks.Starved at h fv fw = absurd (fw (ap (λ (x : InterpView). x.stand) h.2))

-- what was starved is starved
stays_starved : (p q : Past) (i : ℕ) (v w : InterpView) (m : Mark) → Moves p i v m q w → v.stand ≡ Starved → w.stand ≡ Starved
stays_starved p q i v w marks.Local h e = let k = h.0 in cc
stays_starved p q i v w marks.Acted h e = let k = h.2 in cc
stays_starved p q i v w marks.Waited h e = let k = h.1 in cc
stays_starved p q i v w marks.Spent h e = let k = h.0 in cc
stays_starved p q i v w marks.Nobody h e = ap (λ (x : InterpView). x.stand) h.2 ∙ e
stays_starved p q i v w marks.Starved h e = ap (λ (x : InterpView). x.stand) h.2

-- one turn of a world in which nothing starves is the core's
pub core_turned : (old new : WorldView) (i : ℕ) (m : Mark) → IsWorld old → Turned old i m new → NoneStarved new → core_turn (core_of old) i ≡ (m, core_of new)
unfolding core_turn
core_turned old new i m h t n =
    let two = leb_tells (created old.past) i in
    elim two [
      | inl w ↦ (let k = t.nobody w.1 in rw (w.0, k.0, k.1) refl)
      | inr w ↦ (
          let o = t.made w.1 in
          let at : slice_get new.interps i ≡ Some o.after = ap (λ (us : List InterpView). slice_get us i) o.others ∙ get-set_same old.interps i o.before o.after o.stood in
          let fw : o.after.stand ≢ Starved = n i o.after at in
          let fv : o.before.stand ≢ Starved = λ e. fw (stays_starved old.past new.past i o.before o.after m o.moves e) in
          let s = stands_so old i o.before (h.each i o.before o.stood) o.stood fv in
          rw (w.0, s, moves_so old.past new.past old.interps i o.before o.after m o.stood o.moves fv fw, o.others) refl)
    ]

none_one : (old new : WorldView) (i : ℕ) (m : Mark) → MovesOne old i m new → NoneStarved new → NoneStarved old
none_one old new i m o n = λ k v at e.
    let two = eqb_tells k i in
    elim two [
      | inl y ↦ (
          let one : Some o.before ≡ Some v = sym o.stood ∙ ap (slice_get old.interps) (sym y.1) ∙ at in
          let b : o.before ≡ v = cc in
          n i o.after (ap (λ (us : List InterpView). slice_get us i) o.others ∙ get-set_same old.interps i o.before o.after o.stood)
          (stays_starved old.past new.past i o.before o.after m o.moves (ap (λ (x : InterpView). x.stand) b ∙ e)))
      | inr y ↦ n k v (ap (λ (us : List InterpView). slice_get us k) o.others ∙ get-set_other old.interps i k o.after y.1 ∙ at) e
    ]

pub none_before : (old new : WorldView) (i : ℕ) (m : Mark) → Turned old i m new → NoneStarved new → NoneStarved old
none_before old new i m t n =
    let two = leb_tells (created old.past) i in
    elim two [
      | inl w ↦ subst NoneStarved (t.nobody w.1).1 n
      | inr w ↦ none_one old new i m (t.made w.1) n
    ]

-- the run so far is the core's, and so is one turn more
pub core_more : (first old new : WorldView) (is : List ℕ) (ms : List Mark) (i : ℕ) (m : Mark) → IsWorld old → Turned old i m new
    → (NoneStarved old → core_run (core_of first) is ≡ (ms, core_of old)) → NoneStarved new → core_run (core_of first) (is ++ i ∷ []) ≡ (ms ++ m ∷ [], core_of new)
core_more first old new is ms i m h t so n =
    let one = core_turned old new i m h t n in
    core_run-more (core_of first) is i ∙ ap (λ (p : List Mark × Core). let q : List Mark × Core = (p.0 ++ (core_turn p.1 i).0 ∷ [], (core_turn p.1 i).1) in q) (so (none_before old new i m t n))
    ∙ ap (λ (p : Mark × Core). let q : List Mark × Core = (ms ++ p.0 ∷ [], p.1) in q) one
