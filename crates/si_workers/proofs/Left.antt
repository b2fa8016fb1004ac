-- What is put together is of a world at rest, which one order of turns leaves.
use Rattle.std.proofs.Common.{◌≡◌, ◌≢◌, ℕ, zero, suc, ◌+◌, ◌<◌, ◌≤◌, ◌⊎◌, List, [], ◌∷◌, ◌++◌, length, take, refl, ap, sym, ◌∙◌, subst, arith, append_assoc, inl, inr, Bool, true, false, slice_get, Some, if◌then◌else◌}
use Rattle.std.specs.Prelude.{nat_le, nat_lt}
use Rattle.std.proofs.lemmas.List.{length-take}
use Rattle.std.proofs.lemmas.Bool.{ltb-true}
use Rattle.std.proofs.lemmas.Bool.Decides.{eqb_tells}
use Rattle.std.proofs.lemmas.Option.{slice_get_within}
use Rattle.si_semantics.specs.Actions.{Action}
use Rattle.si_semantics.specs.Shared.{is_take}
use Rattle.si_semantics.specs.History.{Call}
use Rattle.si_hub.specs.HubCode.{Past}
use Rattle.si_hub.specs.Hubs.{IsTold, can_act}
use Rattle.si_interp.specs.Meaning.{InterpView, Stand, Ready, At, Gone, Starved}
use Rattle.si_world.specs.declared.ending.End.{End}
use Rattle.si_world.specs.declared.ending.End.TheVariants as end
use Rattle.si_world.specs.Legal.{exchange, chosen, calls_of}
use Rattle.si_world.specs.Worlds.{WorldView, world, created, IsWorld}
use Rattle.si_world.specs.Marks.{CanMove, AtRest}
use Rattle.si_world.specs.Core.{Core, core_of}
use Rattle.si_world.specs.Reports.{end_by, first_of_ends, end_from, end_of, rank, members, recorded}
use Rattle.si_world.proofs.Turning.{legal}
use Rattle.si_world.proofs.Firsts.{created_first}
use Rattle.si_world.proofs.Coring.{stands_so, prints_so, index-map}
use Rattle.si_world.proofs.Ends.{rests_so}
use Rattle.si_replay.specs.Replays.{callers, CoreAtRest, IsInCore, IsOfTurns}
use Rattle.si_replay.specs.Order.{order_of}
use Rattle.si_replay.proofs.Histories.{past_at, after_grows, caller_created}
use Rattle.si_replay.proofs.Worlds.{order_is}
use Rattle.si_workers.specs.Gathers.{LeavesAgain, IsGathered, IsOpen, IsOfReports}
use Rattle.si_workers.specs.inner.Members.{AreMembers}

-- ---- a world of all reports

pub some_created : (p : Past) → IsTold p → 1 ≤ created p
some_created p t =
    let a = created_first (past_at p []) refl in
    let b = after_grows p [] p.journal t in
    omega arith

none_by : (i : ℕ) (c : Call) (cs : List Call) → c.by ≢ i → calls_of i cs ≡ [] → calls_of i (c ∷ cs) ≡ []
none_by i c cs ne e =
    elim (eqb_tells c.by i) [
      | inl y ↦ absurd (ne y.1)
      | inr y ↦ ap (λ (b : Bool). chosen b (exchange c.action c.answer) (calls_of i cs)) y.0 ∙ e
    ]

-- one that was not created made no calls
no_calls_by : (p : Past) (done cs : List Call) (i : ℕ) → IsTold (past_at p (done ++ cs)) → created (past_at p (done ++ cs)) ≤ i → calls_of i cs ≡ []
no_calls_by p done [] i t le = refl
no_calls_by p done (c ∷ cs) i t le =
    let by = caller_created p done c cs t in
    let ne : c.by ≢ i = omega arith in
    let e : (done ++ c ∷ []) ++ cs ≡ done ++ c ∷ cs = append_assoc done (c ∷ []) cs in
    let le' : created (past_at p ((done ++ c ∷ []) ++ cs)) ≤ i = subst (λ (x : List Call). created (past_at p x) ≤ i) (sym e) le in
    none_by i c cs ne (no_calls_by p (done ++ c ∷ []) cs i (subst (λ (x : List Call). IsTold (past_at p x)) (sym e) t) le')

pub no_calls : (p : Past) (i : ℕ) → IsTold p → created p ≤ i → calls_of i p.journal ≡ []
no_calls p i t le = no_calls_by p [] p.journal i t le

pub world_of : (p : Past) (worked vs : List InterpView) → IsTold p → created p ≤ p.limits.interpreters → AreMembers p worked p.limits.interpreters vs → IsWorld (world p vs)
world_of p worked vs t few m = record {
  told = t;
  count = m.count;
  some = some_created p t;
  few = few;
  each = λ i v at. (m.each i v at).0;
  others = λ i le. no_calls p i t (let n = m.count in omega arith);
}

-- ---- who was starved

is_low : End → Bool
is_low end.Open = true
is_low end.Starved = true
is_low end.Spent = false
is_low end.Stuck = false
is_low end.Finished = false

low_is : (e : End) → is_low e ≡ true → (e ≡ end.Open) ⊎ (e ≡ end.Starved)
unfolding is_low
low_is end.Open h = inl refl
low_is end.Starved h = inr refl
low_is end.Spent h = cc
low_is end.Stuck h = cc
low_is end.Finished h = cc

low_first : (e f : End) → is_low e ≡ true → is_low (first_of_ends e f) ≡ true
unfolding is_low
low_first end.Open end.Open h = refl
low_first end.Open end.Starved h = refl
low_first end.Open end.Spent h = refl
low_first end.Open end.Stuck h = refl
low_first end.Open end.Finished h = refl
low_first end.Starved end.Open h = refl
low_first end.Starved end.Starved h = refl
low_first end.Starved end.Spent h = refl
low_first end.Starved end.Stuck h = refl
low_first end.Starved end.Finished h = refl
low_first end.Spent f h = cc
low_first end.Stuck f h = cc
low_first end.Finished f h = cc

low_second : (e : End) → is_low (first_of_ends e end.Starved) ≡ true
unfolding is_low
low_second end.Open = refl
low_second end.Starved = refl
low_second end.Spent = refl
low_second end.Stuck = refl
low_second end.Finished = refl

low_from : (p : Past) (i : ℕ) (e : End) (vs : List InterpView) → is_low e ≡ true → is_low (end_from p i e vs) ≡ true
low_from p i e [] h = h
low_from p i e (v ∷ vs) h = low_from p (i + 1) (first_of_ends e (end_by p i v.locals v.stand)) vs (low_first e (end_by p i v.locals v.stand) h)

low_at : (p : Past) (i : ℕ) (e : End) (vs : List InterpView) (k : ℕ) (v : InterpView) → slice_get vs k ≡ Some v → v.stand ≡ Starved → is_low (end_from p i e vs) ≡ true
low_at p i e [] k v at s = cc
low_at p i e (x ∷ vs) zero v at s =
    let h : x ≡ v = cc in
    let t : end_by p i x.locals x.stand ≡ end.Starved = ap (λ (d : Stand). end_by p i x.locals d) (ap (λ (y : InterpView). y.stand) h ∙ s) in
    low_from p (i + 1) (first_of_ends e (end_by p i x.locals x.stand)) vs (ap (λ (f : End). is_low (first_of_ends e f)) t ∙ low_second e)
low_at p i e (x ∷ vs) (suc k) v at s = low_at p (i + 1) (first_of_ends e (end_by p i x.locals x.stand)) vs k v at s

-- where the end is neither, none was
fed_so : (p : Past) (vs : List InterpView) → end_of p vs ≢ end.Open → end_of p vs ≢ end.Starved → (i : ℕ) (v : InterpView) → slice_get vs i ≡ Some v → v.stand ≢ Starved
fed_so p vs closed ns i v at = λ s.
    elim (low_is (end_of p vs) (low_at p 0 end.Finished vs i v at s)) [
      | inl e ↦ closed e
      | inr e ↦ ns e
    ]

-- ---- who can move

either_open : (b : Bool) (e f : End) → (if b then e else f) ≡ end.Open → (e ≡ end.Open) ⊎ (f ≡ end.Open)
either_open true e f h = inl h
either_open false e f h = inr h

ready_moves : (b : Bool) (p : Past) (i : ℕ) (v : InterpView) → v.stand ≡ Ready → nat_lt v.locals p.limits.turns ≡ b → (if b then end.Open else end.Spent) ≡ end.Open → CanMove p i v
ready_moves true p i v s e h = inl (s, ltb-true v.locals p.limits.turns e)
ready_moves false p i v s e h = absurd (cc h)

not_open : (b : Bool) → (if b then end.Finished else end.Stuck) ≡ end.Open → ⊥
not_open true h = absurd (cc h)
not_open false h = absurd (cc h)

at_moves : (b : Bool) (p : Past) (i : ℕ) (v : InterpView) (a : Action) → v.stand ≡ At a → can_act p i a ≡ b → (if b then end.Open else if is_take a then end.Finished else end.Stuck) ≡ end.Open → CanMove p i v
at_moves true p i v a s e h = inr (a, s, e)
at_moves false p i v a s e h = absurd (not_open (is_take a) h)

open_moves : (p : Past) (i : ℕ) (v : InterpView) (s : Stand) → v.stand ≡ s → end_by p i v.locals s ≡ end.Open → CanMove p i v
open_moves p i v Ready e h = ready_moves (nat_lt v.locals p.limits.turns) p i v e refl h
open_moves p i v (At a) e h = at_moves (can_act p i a) p i v a e refl h
open_moves p i v Gone e h = absurd (cc h)
open_moves p i v Starved e h = absurd (cc h)

-- one of these interpreters, numbered from i on, can move
record Moving (p : Past) (i : ℕ) (vs : List InterpView) : Type 0 where
  place : ℕ
  who : InterpView
  at : slice_get vs place ≡ Some who
  moves : CanMove p (i + place) who

open_or : (e : End) → (e ≡ end.Open) ⊎ (e ≢ end.Open)
open_or end.Open = inl refl
open_or end.Starved = inr (λ h. absurd (cc h))
open_or end.Spent = inr (λ h. absurd (cc h))
open_or end.Stuck = inr (λ h. absurd (cc h))
open_or end.Finished = inr (λ h. absurd (cc h))

open_here : (p : Past) (i : ℕ) (v : InterpView) (vs : List InterpView) → CanMove p i v → Moving p i (v ∷ vs)
open_here p i v vs m = let n : i ≡ i + 0 = omega arith in record { place = 0; who = v; at = refl; moves = subst (λ (j : ℕ). CanMove p j v) n m }

open_later : (p : Past) (i : ℕ) (v : InterpView) (vs : List InterpView) → Moving p (i + 1) vs → Moving p i (v ∷ vs)
open_later p i v vs h =
    let n : (i + 1) + h.place ≡ i + suc h.place = omega arith in
    record { place = suc h.place; who = h.who; at = h.at; moves = subst (λ (j : ℕ). CanMove p j h.who) n h.moves }

open_from : (p : Past) (i : ℕ) (e : End) (vs : List InterpView) → end_from p i e vs ≡ end.Open → e ≢ end.Open → Moving p i vs
open_from p i e [] h ne = absurd (ne h)
open_from p i e (v ∷ vs) h ne =
    let f = end_by p i v.locals v.stand in
    elim (open_or (first_of_ends e f)) [
      | inl o ↦ elim (either_open (nat_le (rank e) (rank f)) e f o) [
        | inl x ↦ absurd (ne x)
        | inr x ↦ open_here p i v vs (open_moves p i v v.stand refl x)
      ]
      | inr o ↦ open_later p i v vs (open_from p (i + 1) (first_of_ends e f) vs h o)
    ]

take_at : (n : ℕ) (xs : List InterpView) (k : ℕ) (v : InterpView) → slice_get (take n xs) k ≡ Some v → slice_get xs k ≡ Some v
take_at zero xs k v e = cc
take_at (suc n) [] k v e = cc
take_at (suc n) (x ∷ xs) zero v e = e
take_at (suc n) (x ∷ xs) (suc k) v e = take_at n xs k v e

-- where the end is open, some interpreter that was created can move
pub is_open : (p : Past) (worked vs rs : List InterpView) (r : WorldView) → AreMembers p worked p.limits.interpreters vs → rs ≡ take (created p) vs → r ≡ world p rs → end_of r.past r.interps ≡ end.Open → IsOpen p worked
is_open p worked vs rs r m e s h =
    let o = open_from p 0 end.Finished (take (created p) vs) (ap (λ (xs : List InterpView). end_of p xs) (sym e) ∙ ap (λ (x : WorldView). end_of x.past x.interps) (sym s) ∙ h) (λ k. absurd (cc k)) in
    let at = take_at (created p) vs o.place o.who o.at in
    let from = (m.each o.place o.who at).1 in
    let n : 0 + o.place ≡ o.place = omega arith in
    let lt : o.place < created p = (let a = slice_get_within (take (created p) vs) o.place o.who o.at in let b = length-take (created p) vs in omega arith) in
    record { who = o.place; place = from.0; seen = o.who; report = from.1; made = lt; moves = subst (λ (j : ℕ). CanMove p j o.who) n o.moves }

-- ---- one order of turns

found : (vs : List InterpView) (i : ℕ) → i < length vs → (v : InterpView) × (slice_get vs i ≡ Some v)
found [] i lt = absurd (omega arith)
found (x ∷ vs) zero lt = (x, refl)
found (x ∷ vs) (suc i) lt = found vs i (omega arith)

get_take : (xs : List InterpView) (n k : ℕ) (x : InterpView) → k < n → slice_get xs k ≡ Some x → slice_get (take n xs) k ≡ Some x
get_take [] n k x lt e = cc
get_take (y ∷ xs) zero k x lt e = absurd (omega arith)
get_take (y ∷ xs) (suc n) zero x lt e = e
get_take (y ∷ xs) (suc n) (suc k) x lt e = get_take xs n k x (omega arith) e

-- no interpreter that was created was starved
abbrev MembersFed : WorldView → Type 0
MembersFed w = (i : ℕ) (v : InterpView) → slice_get (members w) i ≡ Some v → v.stand ≢ Starved

rest_core : (w : WorldView) → IsWorld w → MembersFed w → AtRest w → CoreAtRest (core_of w)
rest_core w h n r = λ i made m.
    let few = h.few in
    let count = h.count in
    let f = found w.interps i (omega arith) in
    let v = f.0 in
    let s = stands_so w i v (h.each i v f.1) f.1 (n i v (get_take w.interps (created w.past) i v made f.1)) in
    let ln = index-map w.interps i v f.1 in
    r i v made f.1 (elim m [
      | inl x ↦ inl (sym s ∙ x.0, (let y = x.1 in let z : v.locals < w.past.limits.turns = omega arith in z))
      | inr x ↦ inr (x.0, sym s ∙ x.1, x.2)
    ])

in_core : (w : WorldView) → IsWorld w → (i : ℕ) (v : InterpView) → slice_get w.interps i ≡ Some v → v.stand ≢ Starved → IsInCore (core_of w) i v
in_core w h i v at fed =
    let m = h.each i v at in
    record { id = m.id; log = sym m.log; locals = sym (index-map w.interps i v at); printed = sym (prints_so w i v m at fed); stand = sym (stands_so w i v m at fed) }

of_turns : (w : WorldView) → IsWorld w → MembersFed w → IsOfTurns (core_of w) (recorded w)
of_turns w h n = record {
  past = refl;
  count = let a = length-take (created w.past) w.interps in let b = h.few in let c = h.count in omega arith;
  each = λ i v at. in_core w h i v (take_at (created w.past) w.interps i v at) (n i v at);
}

leaves_again : (w : WorldView) → IsWorld w → MembersFed w → AtRest w → LeavesAgain w.past.script w.past.limits (order_of w) (recorded w)
leaves_again w h n r =
    let e = order_is w h in
    record {
      same = subst (λ (c : Core). IsOfTurns c (recorded w)) (sym e) (of_turns w h n);
      completes = record { calls = ap (λ (c : Core). callers c.past.journal) e; rest = subst CoreAtRest (sym e) (rest_core w h n r) };
    }

-- ---- the whole

pub gathered : (p : Past) (worked vs rs : List InterpView) (r : WorldView) → IsTold p → created p ≤ p.limits.interpreters → AreMembers p worked p.limits.interpreters vs → rs ≡ take (created p) vs
    → r ≡ world p rs → end_of r.past r.interps ≢ end.Open → IsGathered p.script p.limits r
gathered p worked vs rs r t few m e s closed =
    let w = world p vs in
    let h = world_of p worked vs t few m in
    let seen : r ≡ recorded w = s ∙ ap (world p) e in
    let ends = ap (λ (x : WorldView). end_of x.past x.interps) seen in
    let rest = rests_so w (λ o. closed (ends ∙ o)) in
    record {
      left = w;
      seen = seen;
      script_is = refl;
      limits_are = refl;
      world = h;
      legal = legal w h;
      rest = rest;
      again = λ ns. subst (LeavesAgain p.script p.limits (order_of w)) (sym seen) (leaves_again w h (fed_so p (members w) (λ o. closed (ends ∙ o)) (λ o. ns (ends ∙ o))) rest);
    }

pub of_reports : (p : Past) (worked vs rs : List InterpView) (r : WorldView) → AreMembers p worked p.limits.interpreters vs → rs ≡ take (created p) vs → r ≡ world p rs → IsOfReports p worked r
of_reports p worked vs rs r m e s = record {
  past = ap (λ (x : WorldView). x.past) s;
  each = λ i v at.
      let here : slice_get (take (created p) vs) i ≡ Some v = ap (λ (xs : List InterpView). slice_get xs i) (sym e) ∙ ap (λ (x : WorldView). slice_get x.interps i) (sym s) ∙ at in
      (m.each i v (take_at (created p) vs i v here)).1;
}
