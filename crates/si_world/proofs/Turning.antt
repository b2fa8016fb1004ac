-- What a turn keeps.
use Rattle.std.proofs.Common.{◌≡◌, ◌≢◌, ℕ, zero, suc, ◌<◌, ◌≤◌, ◌⊎◌, List, [], ◌∷◌, ◌++◌, length, set, refl, ap, sym, ◌∙◌, subst, arith, inl, inr, true, false, slice_get, Some, None, Option}
use Rattle.std.proofs.lemmas.List.{map-append, length-set}
use Rattle.std.proofs.lemmas.Bool.Decides.{eqb_tells}
use Rattle.std.proofs.lemmas.Option.{slice_get_within}
use Rattle.si_plain.specs.Ranges.{Numbers}
use Rattle.si_semantics.specs.Actions.{Action, Answer}
use Rattle.si_hub.specs.HubCode.{Past}
use Rattle.si_hub.specs.Hubs.{IsTold, with_call, call}
use Rattle.si_interp.specs.Meaning.{Logged, InterpView, Shows}
use Rattle.si_interp.specs.View.{Answers, starved_view, taken_view}
use Rattle.si_world.specs.declared.mark.Mark.{Mark}
use Rattle.si_world.specs.declared.mark.Mark.TheVariants as marks
use Rattle.si_world.specs.Legal.{Exchange, exchange, calls_of, Legal, exchanges}
use Rattle.si_world.specs.Worlds.{WorldView, world, created, IsMember, IsWorld}
use Rattle.si_world.specs.Marks.{Moves, Turned}
use Rattle.si_world.proofs.Counting.{grows_more}
use Rattle.si_world.proofs.Lists.{get-set_same, get-set_other, calls-own, calls-other}
use Rattle.si_world.proofs.Legality.{AskedAlone, alone_of_log, asked_in}

pub from_taken : (v u w : InterpView) (r : Answer) → u ≡ taken_view v true → Answers u r w → Answers v r w
from_taken v u w r e h =
    let k : Answers (taken_view v true) r w = subst (λ (x : InterpView). Answers x r w) e h in
    record { log = k.log; id = k.id; printed = k.printed; locals = k.locals; taken = k.taken }

-- what a move does to the past: nothing, or one call of i more
pub Extends : Past → ℕ → Past → Type 0
Extends p i q = (q ≡ p) ⊎ ((a : Action) × (r : Answer) × (q ≡ with_call (call i a r) p))

extends : (p q : Past) (i : ℕ) (v w : InterpView) (m : Mark) → Moves p i v m q w → Extends p i q
unfolding Extends
extends p q i v w marks.Local h = inl h.2
extends p q i v w marks.Acted h = inr (h.0, h.1, h.3.journal)
extends p q i v w marks.Waited h = inl h.3
extends p q i v w marks.Spent h = inl h.2
extends p q i v w marks.Nobody h = inl h.1
extends p q i v w marks.Starved h = inl h.1

-- the calls of the others stay
calls_stay : (p q : Past) (i k : ℕ) → k ≢ i → Extends p i q → calls_of k q.journal ≡ calls_of k p.journal
unfolding Extends
calls_stay p q i k ne (inl e) = ap (λ (x : Past). calls_of k x.journal) e
calls_stay p q i k ne (inr w) = ap (λ (x : Past). calls_of k x.journal) w.2 ∙ calls-other k p.journal (call i w.0 w.1) (λ e. ne (sym e))

limits_stay : (p q : Past) (i : ℕ) → Extends p i q → q.limits ≡ p.limits
unfolding Extends
limits_stay p q i (inl e) = ap (λ (x : Past). x.limits) e
limits_stay p q i (inr w) = ap (λ (x : Past). x.limits) w.2

member_other : (p q : Past) (i k : ℕ) (v : InterpView) → k ≢ i → Extends p i q → IsMember p k v → IsMember q k v
member_other p q i k v ne x h = record {
  id = h.id;
  shows = h.shows;
  log = calls_stay p q i k ne x ∙ h.log;
  taken = h.taken;
  locals = let e = ap (λ (l : Numbers). l.turns) (limits_stay p q i x) in let k = h.locals in omega arith;
}

member_same : (p q : Past) (i : ℕ) (v w : InterpView) → q ≡ p → w ≡ v → IsMember p i v → IsMember q i w
member_same p q i v w e f h = rw (e, f) h

starved_taken : (v w : InterpView) → w ≡ starved_view v → w.taken ≡ false
starved_taken v w e = ap (λ (x : InterpView). x.taken) e

-- interpreter i after its move
member_moved : (p q : Past) (i : ℕ) (v w : InterpView) (m : Mark) → IsMember p i v → Moves p i v m q w → Shows w → IsMember q i w
member_moved p q i v w marks.Local h x s = record {
  id = x.3.id ∙ h.id;
  shows = s;
  log = ap (λ (y : Past). calls_of i y.journal) x.2 ∙ h.log ∙ ap exchanges (sym x.3.log);
  taken = x.3.taken;
  locals = let e = ap (λ (y : Past). y.limits.turns) x.2 in let f = x.3.locals in let g = x.1 in omega arith;
}
member_moved p q i v w marks.Acted h x s = record {
  id = x.4.id ∙ h.id;
  shows = s;
  log = ap (λ (y : Past). calls_of i y.journal) x.3.journal ∙ calls-own i p.journal (call i x.0 x.1) refl
      ∙ ap (λ (es : List Exchange). es ++ exchange x.0 x.1 ∷ []) h.log
      ∙ sym (ap exchanges (x.4.log x.0 x.2) ∙ map-append (λ (l : Logged). exchange l.action l.answer) v.log _);
  taken = x.4.taken;
  locals = let e = ap (λ (y : Past). y.limits.turns) x.3.journal in let f = x.4.locals in let g = h.locals in omega arith;
}
member_moved p q i v w marks.Waited h x s = member_same p q i v w x.3 x.4 h
member_moved p q i v w marks.Spent h x s = member_same p q i v w x.2 x.3 h
member_moved p q i v w marks.Nobody h x s = member_same p q i v w x.1 x.2 h
member_moved p q i v w marks.Starved h x s = record {
  id = ap (λ (y : InterpView). y.id) x.2 ∙ h.id;
  shows = s;
  log = ap (λ (y : Past). calls_of i y.journal) x.1 ∙ h.log ∙ ap (λ (y : InterpView). exchanges y.log) (sym x.2);
  taken = starved_taken v w x.2;
  locals = let e = ap (λ (y : Past). y.limits.turns) x.1 in let f = ap (λ (y : InterpView). y.locals) x.2 in let g = h.locals in omega arith;
}

-- interpreters are never fewer than they were
pub never_fewer : (p q : Past) (i : ℕ) (v w : InterpView) (m : Mark) → Moves p i v m q w → created p ≤ created q
never_fewer p q i v w marks.Local h = let e = ap created h.2 in omega arith
never_fewer p q i v w marks.Acted h = grows_more p q i h.0 h.1 h.3
never_fewer p q i v w marks.Waited h = let e = ap created h.3 in omega arith
never_fewer p q i v w marks.Spent h = let e = ap created h.2 in omega arith
never_fewer p q i v w marks.Nobody h = let e = ap created h.1 in omega arith
never_fewer p q i v w marks.Starved h = let e = ap created h.1 in omega arith

-- what is known of interpreter i after its move
pub record IsMoved (p q : Past) (i : ℕ) (v w : InterpView) (m : Mark) : Type 0 where
  pub moves : Moves p i v m q w
  pub shows : Shows w
  pub told : IsTold q
  pub few : created q ≤ q.limits.interpreters

-- the world after a move is one
pub world_moved : (p q : Past) (vs ws : List InterpView) (i : ℕ) (v w : InterpView) (m : Mark) → IsWorld (world p vs) → slice_get vs i ≡ Some v → IsMoved p q i v w m
    → ws ≡ set vs i w → IsWorld (world q ws)
world_moved p q vs ws i v w m h at x e =
    let ext = extends p q i v w m x.moves in
    let same : IsMember q i w = member_moved p q i v w m (h.each i v at) x.moves x.shows in
    let limits = limits_stay p q i ext in
    let len : length ws ≡ length vs = ap (λ (us : List InterpView). length us) e ∙ length-set vs i w in
    record {
      told = x.told;
      count = len ∙ h.count ∙ ap (λ (l : Numbers). l.interpreters) (sym limits);
      some = let a = h.some in let b = never_fewer p q i v w m x.moves in omega arith;
      few = x.few;
      each = λ k u g.
          let g' : slice_get (set vs i w) k ≡ Some u = ap (λ (us : List InterpView). slice_get us k) (sym e) ∙ g in
          let two = eqb_tells k i in
          elim two [
            | inl y ↦ (let a : Some w ≡ Some u = sym (get-set_same vs i v w at) ∙ ap (slice_get (set vs i w)) (sym y.1) ∙ g' in
                let b : w ≡ u = cc in subst (λ (n : ℕ). IsMember q n u) (sym y.1) (subst (λ (z : InterpView). IsMember q i z) b same))
            | inr y ↦ member_other p q i k u y.1 ext (h.each k u (sym (get-set_other vs i k w y.1) ∙ g'))
          ];
      others = λ k past.
          let within = slice_get_within vs i v at in
          let ne : k ≢ i = omega arith in
          calls_stay p q i k ne ext ∙ h.others k (omega arith);
    }

pub beyond : (vs : List InterpView) (i : ℕ) → slice_get vs i ≡ None → length vs ≤ i
beyond [] i e = omega arith
beyond (v ∷ vs) zero e = cc
beyond (v ∷ vs) (suc i) e = let h = beyond vs i e in omega arith

-- the history of a world is legal
alone : (w : WorldView) → IsWorld w → (i : ℕ) (o : Option InterpView) → slice_get w.interps i ≡ o → AskedAlone i [] (calls_of i w.past.journal)
alone w h i None e = subst (λ (es : List Exchange). AskedAlone i [] es) (sym (h.others i (beyond w.interps i e))) tt
alone w h i (Some v) e =
    let m = h.each i v e in
    let a : AskedAlone v.id [] (exchanges v.log) = alone_of_log v.id [] v.log v.printed m.shows.asked in
    subst (λ (es : List Exchange). AskedAlone i [] es) (sym m.log) (subst (λ (n : ℕ). AskedAlone n [] (exchanges v.log)) m.id a)

pub legal : (w : WorldView) → IsWorld w → Legal w.past
legal w h = record { asked = asked_in [] w.past.journal (λ i. alone w h i (slice_get w.interps i) refl); told = h.told }

-- a move of interpreter i is its turn
pub turned_by : (p q : Past) (vs : List InterpView) (i : ℕ) (v w : InterpView) (m : Mark) (old : WorldView) → world p vs ≡ old → slice_get vs i ≡ Some v → Moves p i v m q w
    → i < created p → Turned old i m (world q (set vs i w))
turned_by p q vs i v w m old e at x lt = subst (λ (o : WorldView). Turned o i m (world q (set vs i w))) e (record {
  made = λ _. record { before = v; after = w; stood = at; moves = x; others = refl };
  nobody = λ h. absurd (omega arith);
})
