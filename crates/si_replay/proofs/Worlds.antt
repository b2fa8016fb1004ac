-- What the parts of a replay do to a world, and what the whole leaves.
use Rattle.std.proofs.Common.{◌≡◌, ◌≢◌, ℕ, zero, suc, ◌+◌, ◌<◌, ◌≤◌, List, [], ◌∷◌, ◌++◌, length, replicate, set, take, refl, ap, sym, ◌∙◌, subst, arith, inl, inr, true, false, slice_get, Some}
use Rattle.std.proofs.lemmas.List.{map-append, length-take}
use Rattle.std.proofs.lemmas.Bool.Decides.{leb_tells, eqb_tells}
use Rattle.si_plain.specs.Ranges.{Numbers}
use Rattle.si_semantics.specs.Value.{Text}
use Rattle.si_semantics.specs.Actions.{Action, Take}
use Rattle.si_semantics.specs.Shared.{is_enabled}
use Rattle.si_semantics.specs.History.{Call}
use Rattle.si_hub.specs.HubCode.{Past}
use Rattle.si_hub.specs.Hubs.{with_call, call, can_act}
use Rattle.si_interp.specs.Meaning.{InterpView, Ready, At, Gone, Starved}
use Rattle.si_world.specs.declared.mark.Mark.{Mark}
use Rattle.si_world.specs.declared.mark.Mark.TheVariants as marks
use Rattle.si_world.specs.Worlds.{WorldView, world, created, first_view, first_views, first_of, IsWorld}
use Rattle.si_world.specs.Marks.{CanMove, Moves, MovesOne, Turned, AtRest, Ran, RanLines, HasNoLine}
use Rattle.si_world.specs.Core.{Core, core_of, core_run, core_stand, NoneStarved}
use Rattle.si_world.specs.Reports.{recorded}
use Rattle.si_world.proofs.Lists.{get-set_same, get-set_other}
use Rattle.si_world.proofs.Coring.{stands_so, of_core, index-map, Ran-more, set-same}
use Rattle.si_replay.specs.declared.fault.ReplayFault.{ReplayFault}
use Rattle.si_replay.specs.declared.fault.ReplayFault.TheVariants as faults
use Rattle.si_replay.specs.Replays.{core_after, callers, CoreAtRest, Reached, StopsAt, IsDisabled, IsNobody, IsSpent, IsEnabled, IsUnfinished, IsFault, IsReplayed, IsInCore, IsOfTurns, Completes}
use Rattle.si_replay.specs.Order.{order_of}
use Rattle.si_replay.specs.inner.Steps.{Leads, Steps, Stretched, Entered, Stops, IsEntryFault, Settled, Rested, IsTailFault, Walked, IsLeft}
use Rattle.si_replay.proofs.Ordering.{locals_for, core_at, order_leads}
use Rattle.si_replay.proofs.Cores.{cored, first_core, reached_is}
use Rattle.si_replay.proofs.Unique.{same_core}

-- ---- a world's core

locals_none : (i : ℕ) (vs : List InterpView) → locals_for i vs [] ≡ replicate (length vs) 0
locals_none i [] = refl
locals_none i (v ∷ vs) = ap (λ (ls : List ℕ). 0 ∷ ls) (locals_none (i + 1) vs)

-- a world is what its order of turns leads to
pub order_is : (w : WorldView) → IsWorld w → core_after w.past.script w.past.limits (order_of w) ≡ core_of w
order_is w h =
    let s = w.past.script in
    let l = w.past.limits in
    let n : locals_for 0 w.interps [] ≡ replicate l.interpreters 0 = locals_none 0 w.interps ∙ ap (λ (k : ℕ). replicate k 0) h.count in
    let e : core_of (first_of s l) ≡ core_at w [] = first_core s l ∙ ap (cored s l []) (sym n) in
    ap (λ (c : Core). (core_run c (order_of w)).1) e ∙ order_leads w h

pub world_reached : (w : WorldView) → IsWorld w → Reached w.past.script w.past.limits (callers w.past.journal) (core_of w)
world_reached w h = record { turns = order_of w; leads = order_is w h; calls = refl }

-- ---- lists of turns

pub Leads-none : (w : WorldView) → Leads w w
Leads-none w = record { turns = []; marks = []; ran = refl }

pub Leads-more : (old mid : WorldView) (i : ℕ) (m : Mark) (new : WorldView) → Leads old mid → Turned mid i m new → Leads old new
Leads-more old mid i m new h t = record { turns = h.turns ++ i ∷ []; marks = h.marks ++ m ∷ []; ran = Ran-more old h.turns h.marks mid i m new h.ran t }

Ran-append : (old : WorldView) (is : List ℕ) (ms : List Mark) (mid : WorldView) (js : List ℕ) (ns : List Mark) (new : WorldView) → Ran old is ms mid → Ran mid js ns new → Ran old (is ++ js) (ms ++ ns) new
Ran-append old [] [] mid js ns new r s = subst (λ (w : WorldView). Ran w js ns new) r s
Ran-append old (i ∷ is) (m ∷ ms) mid js ns new r s = (r.0, r.1, Ran-append r.0 is ms mid js ns new r.2 s)
Ran-append old [] (m ∷ ms) mid js ns new r s = absurd r
Ran-append old (i ∷ is) [] mid js ns new r s = absurd r

pub Leads-append : (old mid new : WorldView) → Leads old mid → Leads mid new → Leads old new
Leads-append old mid new h k = record { turns = h.turns ++ k.turns; marks = h.marks ++ k.marks; ran = Ran-append old h.turns h.marks mid k.turns k.marks new h.ran k.ran }

-- ---- one turn

-- one that is not Nobody is of an interpreter that was created
moved_if : (old : WorldView) (i : ℕ) (m : Mark) (new : WorldView) → Turned old i m new → m ≢ marks.Nobody → (i < created old.past) × MovesOne old i m new
moved_if old i m new t ne = elim (leb_tells (created old.past) i) [
  | inl w ↦ absurd (ne (t.nobody w.1).0)
  | inr w ↦ (w.1, t.made w.1)
]

now_at : (old : WorldView) (i : ℕ) (m : Mark) (new : WorldView) (o : MovesOne old i m new) → slice_get new.interps i ≡ Some o.after
now_at old i m new o = ap (λ (us : List InterpView). slice_get us i) o.others ∙ get-set_same old.interps i o.before o.after o.stood

others_at : (old : WorldView) (i : ℕ) (m : Mark) (new : WorldView) → MovesOne old i m new → (k : ℕ) → k ≢ i → slice_get new.interps k ≡ slice_get old.interps k
others_at old i m new o k ne = ap (λ (us : List InterpView). slice_get us k) o.others ∙ get-set_other old.interps i k o.after ne

fed_at : (old : WorldView) (i : ℕ) (m : Mark) (new : WorldView) (o : MovesOne old i m new) → NoneStarved old → o.after.stand ≢ Starved → NoneStarved new
fed_at old i m new o n f = λ k v at e.
    elim (eqb_tells k i) [
      | inl y ↦ (
          let one : Some o.after ≡ Some v = sym (now_at old i m new o) ∙ ap (slice_get new.interps) (sym y.1) ∙ at in
          let b : o.after ≡ v = cc one in
          f (ap (λ (x : InterpView). x.stand) b ∙ e))
      | inr y ↦ n k v (sym (others_at old i m new o k y.1) ∙ at) e
    ]

local_not_nobody : (let m : Mark = marks.Local in m ≢ marks.Nobody)
local_not_nobody = λ e. absurd (cc e)

-- ---- local turns of one interpreter

pub steps_none : (w : WorldView) (i : ℕ) → Steps w i w
steps_none w i = record { past = refl; fed = λ n. n; leads = Leads-none w; others = λ k ne. refl }

pub steps_more : (old mid : WorldView) (i : ℕ) (new : WorldView) → Steps old i mid → Turned mid i marks.Local new → Steps old i new
steps_more old mid i new s t =
    let o = (moved_if mid i marks.Local new t local_not_nobody).1 in
    record {
      past = o.moves.2 ∙ s.past;
      fed = λ n. fed_at mid i marks.Local new o (s.fed n) o.moves.3.fed;
      leads = Leads-more old mid i marks.Local new s.leads t;
      others = λ k ne. others_at mid i marks.Local new o k ne ∙ s.others k ne;
    }

-- so many
steps_many : (n : ℕ) (old mid : WorldView) (i : ℕ) (new : WorldView) → Steps old i mid → Ran mid (replicate n i) (replicate n marks.Local) new → Steps old i new
steps_many zero old mid i new s r = subst (λ (w : WorldView). Steps old i w) (sym r) s
steps_many (suc n) old mid i new s r = steps_many n old r.0 i new (steps_more old mid i r.0 s r.1) r.2

pub steps_ran : (old new : WorldView) (i n : ℕ) → RanLines old i n false new → Steps old i new
steps_ran old new i n l = steps_many n old old i new (steps_none old i) (subst (λ (ms : List Mark). Ran old (replicate n i) ms new) l.are l.ran)

-- so many, and one turn more
record SplitLast (old : WorldView) (i k : ℕ) (m : Mark) (new : WorldView) : Type 0 where
  before : WorldView
  ran : Ran old (replicate k i) (replicate k marks.Local) before
  last : Turned before i m new

-- the last of a list of turns of one interpreter
split_last : (k : ℕ) (old : WorldView) (i : ℕ) (m : Mark) (new : WorldView) → Ran old (replicate (suc k) i) (replicate k marks.Local ++ m ∷ []) new → SplitLast old i k m new
split_last zero old i m new r = record { before = old; ran = refl; last = subst (λ (w : WorldView). Turned old i m w) (sym r.2) r.1 }
split_last (suc k) old i m new r = let s = split_last k r.0 i m new r.2 in record { before = s.before; ran = (r.0, r.1, s.ran); last = s.last }

-- lines, for the last of which memory was refused
pub starved_ran : (old new : WorldView) (i n : ℕ) → RanLines old i n true new → Stretched old i marks.Starved new
starved_ran old new i n l =
    let k = l.are.0 in
    let count : n ≡ suc k = (let e = l.are.1 in omega arith) in
    let ran = subst (λ (ms : List Mark). Ran old (replicate n i) ms new) l.are.2 l.ran in
    let s = split_last k old i marks.Starved new (subst (λ (j : ℕ). Ran old (replicate j i) (replicate k marks.Local ++ marks.Starved ∷ []) new) count ran) in
    record {
      before = s.before;
      is = λ fed. absurd (fed refl);
      steps = steps_many k old old i s.before (steps_none old i) s.ran;
      last = s.last;
      other = λ e. absurd (cc e);
    }

-- a turn of an interpreter that has no line to run is not Local
pub not_local : (old : WorldView) (i : ℕ) (m : Mark) (new : WorldView) → HasNoLine old i → Turned old i m new → m ≢ marks.Local
not_local old i m new h t e =
    let k = moved_if old i marks.Local new (subst (λ (x : Mark). Turned old i x new) e t) local_not_nobody in
    let o = k.1 in
    let a = h o.before k.0 o.stood o.moves.0 in
    let b = o.moves.1 in
    omega arith

-- ---- what the last mark says

at_core : (w : WorldView) (i : ℕ) (v : InterpView) → IsWorld w → NoneStarved w → slice_get w.interps i ≡ Some v → core_stand (core_of w) i ≡ v.stand
at_core w i v h n at = stands_so w i v (h.each i v at) at (n i v at)

pub waits : (old : WorldView) (i : ℕ) (new : WorldView) → NoneStarved old → Stretched old i marks.Waited new → Stops old.past i IsDisabled
waits old i new n s =
    let k = moved_if s.before i marks.Waited new s.last (λ e. absurd (cc e)) in
    let o = k.1 in
    record {
      before = s.before;
      is = s.is (λ e. absurd (cc e));
      past = s.steps.past;
      because = (k.0, (o.moves.0, at_core s.before i o.before (s.is (λ e. absurd (cc e))) (s.steps.fed n) o.stood ∙ o.moves.1, o.moves.2));
    }

pub spends : (old : WorldView) (i : ℕ) (new : WorldView) → NoneStarved old → Stretched old i marks.Spent new → Stops old.past i IsSpent
spends old i new n s =
    let k = moved_if s.before i marks.Spent new s.last (λ e. absurd (cc e)) in
    let o = k.1 in
    record {
      before = s.before;
      is = s.is (λ e. absurd (cc e));
      past = s.steps.past;
      because = (k.0, at_core s.before i o.before (s.is (λ e. absurd (cc e))) (s.steps.fed n) o.stood ∙ o.moves.0, (let a = index-map s.before.interps i o.before o.stood in let b = o.moves.1 in omega arith));
    }

nobody_is : (w : WorldView) (i : ℕ) (new : WorldView) → IsWorld w → NoneStarved w → MovesOne w i marks.Nobody new → IsNobody (core_of w) i
nobody_is w i new h n o = elim o.moves.0 [
  | inl g ↦ inr (at_core w i o.before h n o.stood ∙ g)
  | inr g ↦ absurd (n i o.before o.stood g)
]

pub misses : (old : WorldView) (i : ℕ) (new : WorldView) → NoneStarved old → Stretched old i marks.Nobody new → Stops old.past i IsNobody
misses old i new n s = record {
  before = s.before;
  is = s.is (λ e. absurd (cc e));
  past = s.steps.past;
  because = elim (leb_tells (created s.before.past) i) [
    | inl a ↦ inl a.1
    | inr a ↦ nobody_is s.before i new (s.is (λ e. absurd (cc e))) (s.steps.fed n) (s.last.made a.1)
  ];
}

pub enters : (old : WorldView) (i : ℕ) (new : WorldView) → NoneStarved old → Stretched old i marks.Acted new → ((v : InterpView) → slice_get new.interps i ≡ Some v → v.stand ≢ Starved) → Entered old i new
enters old i new n s f =
    let o = (moved_if s.before i marks.Acted new s.last (λ e. absurd (cc e))).1 in
    record {
      action = o.moves.0;
      answer = o.moves.1;
      past = o.moves.3.journal ∙ ap (with_call (call i o.moves.0 o.moves.1)) s.steps.past;
      fed = fed_at s.before i marks.Acted new o (s.steps.fed n) (f o.after (now_at s.before i marks.Acted new o));
      leads = Leads-more old s.before i marks.Acted new s.steps.leads s.last;
    }

-- an action that was taken was enabled
pub one_more : (old : WorldView) (i : ℕ) (new : WorldView) → NoneStarved old → Stretched old i marks.Acted new → Stops old.past i IsEnabled
one_more old i new n s =
    let k = moved_if s.before i marks.Acted new s.last (λ e. absurd (cc e)) in
    let o = k.1 in
    record {
      before = s.before;
      is = s.is (λ e. absurd (cc e));
      past = s.steps.past;
      because = (k.0, (o.moves.0, at_core s.before i o.before (s.is (λ e. absurd (cc e))) (s.steps.fed n) o.stood ∙ o.moves.2, ap is_enabled o.moves.3.replied));
    }

-- ---- all other marks: nothing changed, and the interpreter can't move

waiting_stays : (p : Past) (i : ℕ) (v : InterpView) (a : Action) → v.stand ≡ At a → can_act p i a ≡ false → CanMove p i v → ⊥
waiting_stays p i v a e d (inl m) = let x : At a ≡ Ready = sym e ∙ m.0 in absurd (cc x)
waiting_stays p i v a e d (inr m) =
    let x : At a ≡ At m.0 = sym e ∙ m.1 in
    let y : a ≡ m.0 = cc x in
    let z : false ≡ true = sym d ∙ ap (can_act p i) y ∙ m.2 in
    absurd (cc z)

spent_stays : (p : Past) (i : ℕ) (v : InterpView) → v.stand ≡ Ready → p.limits.turns ≤ v.locals → CanMove p i v → ⊥
spent_stays p i v e d (inl m) = let x = m.1 in absurd (omega arith)
spent_stays p i v e d (inr m) = let x : Ready ≡ At m.0 = sym e ∙ m.1 in absurd (cc x)

gone_stays : (p : Past) (i : ℕ) (v : InterpView) → v.stand ≡ Gone → CanMove p i v → ⊥
gone_stays p i v e (inl m) = let x : Gone ≡ Ready = sym e ∙ m.0 in absurd (cc x)
gone_stays p i v e (inr m) = let x : Gone ≡ At m.0 = sym e ∙ m.1 in absurd (cc x)

record IsStill (p q : Past) (i : ℕ) (v w : InterpView) : Type 0 where
  past : q ≡ p
  same : w ≡ v
  still : v.stand ≢ Starved → CanMove p i v → ⊥

still_move : (p q : Past) (i : ℕ) (v w : InterpView) (m : Mark) → Moves p i v m q w → m ≢ marks.Local → m ≢ marks.Acted → m ≢ marks.Starved → IsStill p q i v w
still_move p q i v w marks.Local h a b c = absurd (a refl)
still_move p q i v w marks.Acted h a b c = absurd (b refl)
still_move p q i v w marks.Waited h a b c = record { past = h.3; same = h.4; still = λ n. waiting_stays p i v h.0 h.1 h.2 }
still_move p q i v w marks.Spent h a b c = record { past = h.2; same = h.3; still = λ n. spent_stays p i v h.0 h.1 }
still_move p q i v w marks.Nobody h a b c = record { past = h.1; same = h.2; still = λ n m. elim h.0 [ inl g ↦ gone_stays p i v g m | inr g ↦ absurd (n g) ] }
still_move p q i v w marks.Starved h a b c = absurd (c refl)

settled_one : (old w : WorldView) (i : ℕ) (m : Mark) (new : WorldView) → NoneStarved old → Steps old i w → (o : MovesOne w i m new) → IsStill w.past new.past i o.before o.after → Settled old i new
settled_one old w i m new n s o t =
    let same : new ≡ w = ap (λ (p : Past). world p new.interps) t.past ∙ ap (world w.past) (o.others ∙ ap (set w.interps i) t.same ∙ set-same w.interps i o.before o.stood) in
    record {
      steps = subst (λ (x : WorldView). Steps old i x) (sym same) s;
      still = λ lt v at c.
          let one : Some o.before ≡ Some v = sym o.stood ∙ ap (λ (x : WorldView). slice_get x.interps i) (sym same) ∙ at in
          let b : v ≡ o.before = cc one in
          t.still (s.fed n i o.before o.stood) (subst (λ (u : InterpView). CanMove w.past i u) b (subst (λ (p : Past). CanMove p i v) t.past c));
    }

pub settles : (old : WorldView) (i : ℕ) (m : Mark) (new : WorldView) → NoneStarved old → Stretched old i m new → m ≢ marks.Acted → m ≢ marks.Starved → Settled old i new
settles old i m new n s acted starved = elim (leb_tells (created s.before.past) i) [
  | inl a ↦ (
      let same : new ≡ s.before = (s.last.nobody a.1).1 in
      record {
        steps = subst (λ (x : WorldView). Steps old i x) (sym same) s.steps;
        still = λ lt v at c. let x = a.1 in let e = ap (λ (y : WorldView). created y.past) same in absurd (omega arith);
      })
  | inr a ↦ (
      let o = s.last.made a.1 in
      settled_one old s.before i m new n s.steps o (still_move s.before.past new.past i o.before o.after m o.moves s.other acted starved))
]

-- ---- each interpreter after the last entry

-- those below k can't move
abbrev pub RestBelow : ℕ → WorldView → Type 0
RestBelow k w = (i : ℕ) (v : InterpView) → i < k → i < created w.past → slice_get w.interps i ≡ Some v → CanMove w.past i v → ⊥

rest_more : (k : ℕ) (old new : WorldView) → RestBelow k old → Settled old k new → RestBelow (k + 1) new
rest_more k old new h s = λ i v lt made at m.
    elim (eqb_tells i k) [
      | inl y ↦ (
          let made' : k < created new.past = (let e = y.1 in omega arith) in
          s.still made' v (ap (slice_get new.interps) (sym y.1) ∙ at) (subst (λ (n : ℕ). CanMove new.past n v) y.1 m))
      | inr y ↦ (
          let lower : i < k = (let e = y.1 in omega arith) in
          let made' : i < created old.past = (let e = ap created s.steps.past in omega arith) in
          h i v lower made' (sym (s.steps.others i y.1) ∙ at) (subst (λ (p : Past). CanMove p i v) s.steps.past m))
    ]

-- those below k were brought to rest
pub record Finishing (first : WorldView) (k : ℕ) (w : WorldView) : Type 0 where
  pub past : w.past ≡ first.past
  pub fed : NoneStarved w
  pub leads : Leads first w
  pub rest : RestBelow k w

pub finish_none : (w : WorldView) → NoneStarved w → Finishing w 0 w
finish_none w n = record { past = refl; fed = n; leads = Leads-none w; rest = λ i v lt made at m. absurd (omega arith) }

pub finish_more : (first old new : WorldView) (k : ℕ) → Finishing first k old → Settled old k new → Finishing first (k + 1) new
finish_more first old new k h s = record {
  past = s.steps.past ∙ h.past;
  fed = s.steps.fed h.fed;
  leads = Leads-append first old new h.leads s.steps.leads;
  rest = rest_more k old new h.rest s;
}

pub finished : (first w : WorldView) (k : ℕ) → Finishing first k w → created first.past ≤ k → Rested first w
finished first w k h le = record {
  past = h.past;
  fed = h.fed;
  leads = h.leads;
  rest = λ i v made at m.
      let lower : i < k = (let e = ap created h.past in omega arith) in
      h.rest i v lower made at m;
}

-- ---- faults, of a list of entries

moved_reached : (s : Text) (l : Numbers) (by : List ℕ) (p : Past) (w : WorldView) → p.script ≡ s → p.limits ≡ l → callers p.journal ≡ by → IsWorld w → w.past ≡ p → Reached s l by (core_of w)
moved_reached s l by p w es el ed h e =
    let r = world_reached w h in
    record {
      turns = r.turns;
      leads = ap (λ (x : Text). core_after x l r.turns) (sym (ap (λ (q : Past). q.script) e ∙ es)) ∙ ap (λ (x : Numbers). core_after w.past.script x r.turns) (sym (ap (λ (q : Past). q.limits) e ∙ el)) ∙ r.leads;
      calls = ap (λ (q : Past). callers q.journal) e ∙ ed;
    }

entry_stop : (s : Text) (l : Numbers) (entries before rest : List ℕ) (k i : ℕ) (p : Past) (why : Core → ℕ → Type 0) → p.script ≡ s → p.limits ≡ l → callers p.journal ≡ before
    → entries ≡ before ++ i ∷ rest → k ≡ length before + 1 → Stops p i why → StopsAt s l entries k why
entry_stop s l entries before rest k i p why es el ed ee ek f = record {
  core = core_of f.before;
  caller = i;
  before = before;
  entry = record { rest = rest; split = ee; number = ek };
  reached = moved_reached s l before p f.before es el ed f.is f.past;
  because = f.because;
}

entry_fault : (s : Text) (l : Numbers) (entries before rest : List ℕ) (k i : ℕ) (p : Past) (f : ReplayFault) → p.script ≡ s → p.limits ≡ l → callers p.journal ≡ before
    → entries ≡ before ++ i ∷ rest → k ≡ length before + 1 → IsEntryFault p i k f → IsFault s l entries f
entry_fault s l entries before rest k i p (faults.NotEnabled n) es el ed ee ek f = entry_stop s l entries before rest n i p IsDisabled es el ed ee (f.0 ∙ ek) f.1
entry_fault s l entries before rest k i p (faults.Nobody n) es el ed ee ek f = entry_stop s l entries before rest n i p IsNobody es el ed ee (f.0 ∙ ek) f.1
entry_fault s l entries before rest k i p (faults.Spent n) es el ed ee ek f = entry_stop s l entries before rest n i p IsSpent es el ed ee (f.0 ∙ ek) f.1
entry_fault s l entries before rest k i p faults.Starved es el ed ee ek f = tt
entry_fault s l entries before rest k i p faults.Unfinished es el ed ee ek f = absurd f
entry_fault s l entries before rest k i p faults.NoMemory es el ed ee ek f = absurd f

tail_stop : (s : Text) (l : Numbers) (entries : List ℕ) (p : Past) (i : ℕ) → p.script ≡ s → p.limits ≡ l → callers p.journal ≡ entries → Stops p i IsEnabled → IsUnfinished s l entries
tail_stop s l entries p i es el ee f = record {
  core = core_of f.before;
  caller = i;
  reached = moved_reached s l entries p f.before es el ee f.is f.past;
  enabled = f.because;
}

tail_fault : (s : Text) (l : Numbers) (entries : List ℕ) (p : Past) (f : ReplayFault) → p.script ≡ s → p.limits ≡ l → callers p.journal ≡ entries → IsTailFault p f → IsFault s l entries f
tail_fault s l entries p (faults.NotEnabled n) es el ee f = absurd f
tail_fault s l entries p (faults.Nobody n) es el ee f = absurd f
tail_fault s l entries p (faults.Spent n) es el ee f = absurd f
tail_fault s l entries p faults.Starved es el ee f = tt
tail_fault s l entries p faults.Unfinished es el ee f = tail_stop s l entries p f.0 es el ee f.1
tail_fault s l entries p faults.NoMemory es el ee f = absurd f

-- ---- the calls of the first entries

pub record Walking (first : WorldView) (before : List ℕ) (w : WorldView) : Type 0 where
  pub script : w.past.script ≡ first.past.script
  pub limits : w.past.limits ≡ first.past.limits
  pub calls : callers w.past.journal ≡ before
  pub fed : NoneStarved w
  pub leads : Leads first w

pub walk_none : (w : WorldView) → NoneStarved w → w.past.journal ≡ [] → Walking w [] w
walk_none w n e = record { script = refl; limits = refl; calls = ap callers e; fed = n; leads = Leads-none w }

pub walk_more : (first old new : WorldView) (before : List ℕ) (i : ℕ) → Walking first before old → Entered old i new → Walking first (before ++ i ∷ []) new
walk_more first old new before i h s = record {
  script = ap (λ (p : Past). p.script) s.past ∙ h.script;
  limits = ap (λ (p : Past). p.limits) s.past ∙ h.limits;
  calls = ap (λ (p : Past). callers p.journal) s.past ∙ map-append (λ (c : Call). c.by) old.past.journal (call i s.action s.answer ∷ []) ∙ ap (λ (xs : List ℕ). xs ++ i ∷ []) h.calls;
  fed = s.fed;
  leads = Leads-append first old new h.leads s.leads;
}

pub walked : (first w : WorldView) (entries : List ℕ) → Walking first entries w → Walked first entries w
walked first w entries h = record { script = h.script; limits = h.limits; calls = h.calls; fed = h.fed; leads = h.leads }

pub walk_fault : (first old : WorldView) (entries before rest : List ℕ) (k i : ℕ) (f : ReplayFault) → Walking first before old → entries ≡ before ++ i ∷ rest → k ≡ length before + 1 → IsEntryFault old.past i k f
    → IsFault first.past.script first.past.limits entries f
walk_fault first old entries before rest k i f h e n x = entry_fault first.past.script first.past.limits entries before rest k i old.past f h.script h.limits h.calls e n x

-- ---- the whole

first_feeds : (i n k : ℕ) (v : InterpView) → slice_get (first_views i n) k ≡ Some v → v.stand ≢ Starved
first_feeds i zero k v e = cc
first_feeds i (suc n) zero v e =
    let same : first_view i ≡ v = cc in
    λ z. let bad : At Take ≡ Starved = ap (λ (y : InterpView). y.stand) same ∙ z in absurd (cc bad)
first_feeds i (suc n) (suc k) v e = first_feeds (i + 1) n k v e

pub first_fed : (s : Text) (l : Numbers) (w : WorldView) → w ≡ first_of s l → NoneStarved w
first_fed s l w e = subst NoneStarved (sym e) (λ i v at. first_feeds 0 l.interpreters i v at)

pub left_is : (s : Text) (l : Numbers) (entries : List ℕ) (first mid new : WorldView) → first ≡ first_of s l → Walked first entries mid → Rested mid new → IsLeft s l entries new
left_is s l entries first mid new e a b = record {
  script_is = ap (λ (p : Past). p.script) b.past ∙ a.script ∙ ap (λ (w : WorldView). w.past.script) e;
  limits_are = ap (λ (p : Past). p.limits) b.past ∙ a.limits ∙ ap (λ (w : WorldView). w.past.limits) e;
  calls = ap (λ (p : Past). callers p.journal) b.past ∙ a.calls;
  fed = b.fed;
  leads = subst (λ (w : WorldView). Leads w new) e (Leads-append first mid new a.leads b.leads);
  rest = b.rest;
}

pub walk_fault_of : (s : Text) (l : Numbers) (entries : List ℕ) (first : WorldView) (f : ReplayFault) → first ≡ first_of s l → IsFault first.past.script first.past.limits entries f → IsFault s l entries f
walk_fault_of s l entries first f e x = subst (λ (w : WorldView). IsFault w.past.script w.past.limits entries f) e x

pub tail_fault_of : (s : Text) (l : Numbers) (entries : List ℕ) (first mid : WorldView) (f : ReplayFault) → first ≡ first_of s l → Walked first entries mid → IsTailFault mid.past f → IsFault s l entries f
tail_fault_of s l entries first mid f e a x =
    tail_fault s l entries mid.past f (a.script ∙ ap (λ (w : WorldView). w.past.script) e) (a.limits ∙ ap (λ (w : WorldView). w.past.limits) e) a.calls x

pub replayed_is : (s : Text) (l : Numbers) (entries : List ℕ) (w r : WorldView) → IsLeft s l entries w → r ≡ recorded w → IsReplayed s l entries r
replayed_is s l entries w r h e = record { left = w; turns = h.leads.turns; marks = h.leads.marks; ran = h.leads.ran; calls = h.calls; fed = h.fed; rest = h.rest; seen = e }

-- ---- what all turns that complete the entries leave

found : (vs : List InterpView) (i : ℕ) → i < length vs → (v : InterpView) × (slice_get vs i ≡ Some v)
found [] i lt = absurd (omega arith)
found (x ∷ vs) zero lt = (x, refl)
found (x ∷ vs) (suc i) lt = found vs i (omega arith)

rest_core : (w : WorldView) → IsWorld w → NoneStarved w → AtRest w → CoreAtRest (core_of w)
rest_core w h n r = λ i made m.
    let few = h.few in
    let count = h.count in
    let f = found w.interps i (omega arith) in
    let v = f.0 in
    let s = at_core w i v h n f.1 in
    let ln = index-map w.interps i v f.1 in
    r i v made f.1 (elim m [
      | inl x ↦ inl (sym s ∙ x.0, (let y = x.1 in let z : v.locals < w.past.limits.turns = omega arith in z))
      | inr x ↦ inr (x.0, sym s ∙ x.1, x.2)
    ])

-- a world at rest is completed by its order of turns
pub world_completes : (w : WorldView) → IsWorld w → NoneStarved w → AtRest w → Completes w.past.script w.past.limits (callers w.past.journal) (order_of w)
world_completes w h n r =
    let e = order_is w h in
    record {
      calls = ap (λ (c : Core). callers c.past.journal) e;
      rest = subst CoreAtRest (sym e) (rest_core w h n r);
    }

take_at : (n : ℕ) (xs : List InterpView) (k : ℕ) (v : InterpView) → slice_get (take n xs) k ≡ Some v → slice_get xs k ≡ Some v
take_at zero xs k v e = cc
take_at (suc n) [] k v e = cc
take_at (suc n) (x ∷ xs) zero v e = e
take_at (suc n) (x ∷ xs) (suc k) v e = take_at n xs k v e

in_core : (w : WorldView) → IsWorld w → NoneStarved w → (i : ℕ) (v : InterpView) → slice_get w.interps i ≡ Some v → IsInCore (core_of w) i v
in_core w h n i v at =
    let m = h.each i v at in
    let c = of_core w h n i v at in
    record { id = m.id; log = sym m.log; locals = sym (index-map w.interps i v at); printed = c.0; stand = c.1 }

of_turns : (w : WorldView) → IsWorld w → NoneStarved w → IsOfTurns (core_of w) (recorded w)
of_turns w h n = record {
  past = refl;
  count = let a = length-take (created w.past) w.interps in let b = h.few in let c = h.count in omega arith;
  each = λ i v at. in_core w h n i v (take_at (created w.past) w.interps i v at);
}

same_after : (s : Text) (l : Numbers) (entries turns : List ℕ) (w : WorldView) → IsWorld w → IsLeft s l entries w → Completes s l entries turns → core_of w ≡ core_after s l turns
same_after s l entries turns w h f t =
    let q = moved_reached s l entries w.past w f.script_is f.limits_are f.calls h refl in
    let a = reached_is s l turns in
    let b = reached_is s l q.turns in
    let be : core_of w ≡ cored s l b.journal b.lines = sym q.leads ∙ b.same in
    let ca : callers a.journal ≡ entries = ap (λ (x : Core). callers x.past.journal) (sym a.same) ∙ t.calls in
    let cb : callers b.journal ≡ entries = ap (λ (x : Core). callers x.past.journal) (sym be) ∙ f.calls in
    let ra : CoreAtRest (cored s l a.journal a.lines) = subst CoreAtRest a.same t.rest in
    let rb : CoreAtRest (cored s l b.journal b.lines) = subst CoreAtRest be (rest_core w h f.fed f.rest) in
    be ∙ same_core s l b.journal a.journal b.lines a.lines b.is a.is (ca ∙ sym cb) rb ra ∙ sym a.same

pub replay_same : (s : Text) (l : Numbers) (entries turns : List ℕ) (w r : WorldView) → IsWorld w → IsLeft s l entries w → r ≡ recorded w → Completes s l entries turns → IsOfTurns (core_after s l turns) r
replay_same s l entries turns w r h f e t =
    subst (λ (x : WorldView). IsOfTurns (core_after s l turns) x) (sym e) (subst (λ (c : Core). IsOfTurns c (recorded w)) (same_after s l entries turns w h f t) (of_turns w h f.fed))
