-- Turns of one interpreter while nothing is asked of what all share.
use Rattle.std.proofs.Common.{◌≡◌, ℕ, zero, suc, ◌+◌, ◌<◌, ◌≤◌, List, [], ◌∷◌, ◌++◌, length, length-append, set, replicate, refl, ap, sym, ◌∙◌, subst, arith, inl, inr, Bool, true, false, slice_get, Some}
use Rattle.std.proofs.lemmas.Bool.Decides.{eqb_tells}
use Rattle.std.proofs.lemmas.List.{length-set, replicate_more}
use Rattle.si_hub.specs.HubCode.{Past}
use Rattle.si_interp.specs.Meaning.{InterpView, Stand, Ready, Shows}
use Rattle.si_interp.specs.View.{Counts, step_at, starved_view, HasRun, SteppedOn}
use Rattle.si_interp.specs.declared.interp.Step.{Step}
use Rattle.si_interp.specs.declared.interp.Step.TheVariants as steps
use Rattle.si_world.specs.declared.mark.Mark.{Mark}
use Rattle.si_world.specs.declared.mark.Mark.TheVariants as marks
use Rattle.si_world.specs.Legal.{exchanges}
use Rattle.si_world.specs.Worlds.{WorldView, world, created, IsMember, IsWorld}
use Rattle.si_world.specs.Marks.{Moves, Ran, AreLines, RanLines, HasNoLine}
use Rattle.si_world.specs.Rounds.{IdleWithin}
use Rattle.si_world.specs.inner.Serving.{idle_after, Gives}
use Rattle.si_world.specs.inner.Stretches.{Goes, last_idle, Stretched}
use Rattle.si_world.proofs.Lists.{get-set_same, get-set_other}
use Rattle.si_world.proofs.Turning.{turned_by}
use Rattle.si_world.proofs.Coring.{set-same}
use Rattle.si_world.proofs.Serving.{idle-append, after-append}

Goes-more : (p : Past) (i : ℕ) (v : InterpView) (ms : List Mark) (u : InterpView) (m : Mark) (w : InterpView) → Goes p i v ms u → Moves p i u m p w → Goes p i v (ms ++ m ∷ []) w
Goes-more p i v [] u m w g h = (w, subst (λ (x : InterpView). Moves p i x m p w) g h, refl)
Goes-more p i v (k ∷ ms) u m w g h = (g.0, g.1, Goes-more p i g.0 ms u m w g.2 h)

pub stretched_none : (turns : ℕ) (v : InterpView) → Stretched turns v 0 false v
stretched_none turns v = record { marks = []; count = refl; are = refl; counted = λ e. omega arith; goes = λ p i e. refl; id = refl; log = refl; taken = λ e. e; locals = λ l. l; idle_within = omega arith; idle_end = refl }

-- what one line leaves as it was
record IsLine (turns : ℕ) (u w : InterpView) : Type 0 where
  pub id : w.id ≡ u.id
  pub log : w.log ≡ u.log
  pub taken : w.taken ≡ false
  pub locals : w.locals ≤ turns

-- one turn more after lines
stretched_more : (turns : ℕ) (v u w : InterpView) (n : ℕ) (m : Mark) (b : Bool) (s : Stretched turns v n false u) → ((p : Past) (i : ℕ) → p.limits.turns ≡ turns → Moves p i u m p w)
    → IsLine turns u w → AreLines (n + 1) b (s.marks ++ m ∷ []) → (b ≡ false → w.locals ≡ u.locals + 1) → IdleWithin 128 0 (m ∷ []) → idle_after 0 (m ∷ []) ≡ last_idle b → Stretched turns v (n + 1) b w
stretched_more turns v u w n m b s h x a l k e = record {
  marks = s.marks ++ m ∷ [];
  count = length-append s.marks (m ∷ []) ∙ ap (λ (x : ℕ). x + 1) s.count;
  are = a;
  counted = λ e. (let y = l e in let z = s.counted refl in omega arith);
  goes = λ p i t. Goes-more p i v s.marks u m w (s.goes p i t) (h p i t);
  id = x.id ∙ s.id;
  log = x.log ∙ s.log;
  taken = λ t. x.taken;
  locals = λ l. x.locals;
  idle_within = idle-append 128 0 s.marks (m ∷ []) s.idle_within (subst (λ (x : ℕ). IdleWithin 128 x (m ∷ [])) (sym s.idle_end) k);
  idle_end = after-append 0 s.marks (m ∷ []) ∙ ap (λ (x : ℕ). idle_after x (m ∷ [])) s.idle_end ∙ e;
}

more_lines : (n : ℕ) (ms : List Mark) → AreLines n false ms → AreLines (n + 1) false (ms ++ marks.Local ∷ [])
more_lines n ms e = ap (λ (xs : List Mark). xs ++ marks.Local ∷ []) e ∙ replicate_more n marks.Local

-- a line that counts
pub stretched_line : (turns : ℕ) (v u w : InterpView) (n : ℕ) → Stretched turns v n false u → u.stand ≡ Ready → u.locals < turns → Counts u w → Stretched turns v (n + 1) false w
stretched_line turns v u w n s r l c =
    stretched_more turns v u w n marks.Local false s (λ p i t. (r, (let e = t in omega arith), refl, c)) (record { id = c.id; log = c.log; taken = c.taken; locals = let e = c.locals in omega arith }) (more_lines n s.marks s.are) (λ e. c.locals) (omega arith, omega arith) refl

-- a line for which memory is refused
pub stretched_starved : (turns : ℕ) (v u w : InterpView) (n : ℕ) → Stretched turns v n false u → u.stand ≡ Ready → u.locals < turns → w ≡ starved_view u → Stretched turns v (n + 1) true w
stretched_starved turns v u w n s r l c =
    stretched_more turns v u w n marks.Starved true s (λ p i t. (inl (r, (let e = t in omega arith)), refl, c))
    (record { id = ap (λ (x : InterpView). x.id) c; log = ap (λ (x : InterpView). x.log) c; taken = ap (λ (x : InterpView). x.taken) c; locals = let e = ap (λ (x : InterpView). x.locals) c in omega arith })
    (n, refl, ap (λ (ms : List Mark). ms ++ marks.Starved ∷ []) s.are) (λ e. absurd cc) (omega arith, omega arith) refl

-- lines that count, one after the other
stretched_run : (turns n : ℕ) (v w : InterpView) → HasRun n v w → v.locals + n ≤ turns → Stretched turns v n false w
stretched_run turns zero v w h l = subst (λ (x : InterpView). Stretched turns v 0 false x) (sym h) (stretched_none turns v)
stretched_run turns (suc n) v w h l =
    let s : Stretched turns v n false h.0 = stretched_run turns n v h.0 h.1 (omega arith) in
    let e = s.counted refl in
    let one : n + 1 ≡ suc n = omega arith in
    subst (λ (k : ℕ). Stretched turns v k false w) one (stretched_line turns v h.0 w n s h.2 (omega arith) h.3)

-- lines of which the last was refused memory
stretched_refused : (turns n k : ℕ) (v u w : InterpView) → n ≡ k + 1 → HasRun k v u → u.stand ≡ Ready → w ≡ starved_view u → v.locals + n ≤ turns → Stretched turns v n true w
stretched_refused turns n k v u w e h r s l =
    let before : Stretched turns v k false u = stretched_run turns k v u h (omega arith) in
    let at = before.counted refl in
    subst (λ (j : ℕ). Stretched turns v j true w) (sym e) (stretched_starved turns v u w k before r (omega arith) s)

not_ready : (s : Stand) → steps.Asks ≡ step_at s → s ≡ Ready → ⊥
not_ready s e h = let both : steps.Asks ≡ steps.Local = e ∙ ap step_at h in absurd cc

one_line : (n : ℕ) (v w : InterpView) → n ≡ 1 → HasRun n v w → Counts v w
one_line n v w e h =
    let here : HasRun 1 v w = subst (λ (k : ℕ). HasRun k v w) e h in
    subst (λ (u : InterpView). Counts u w) here.1 here.3

-- turns of which none was refused memory, by what was told of the last
pub stretched_on : (turns most n : ℕ) (v w : InterpView) (r : Step) → SteppedOn v most n r w → (r ≡ steps.Starved → ⊥) → v.locals + most ≤ turns → Stretched turns v n false w
stretched_on turns most n v w steps.Local h a l = (let all = h.0 in stretched_run turns n v w h.1 (omega arith))
stretched_on turns most n v w steps.Asks h a l = (let few = h.1 in stretched_run turns n v w h.2 (omega arith))
stretched_on turns most n v w steps.Gone h a l = absurd h
stretched_on turns most n v w steps.Starved h a l = absurd (a refl)

-- turns of which the last was
pub stretched_refused_on : (turns most n : ℕ) (v w : InterpView) (r : Step) → SteppedOn v most n r w → r ≡ steps.Starved → v.locals + most ≤ turns → Stretched turns v n true w
stretched_refused_on turns most n v w r g e l =
    let h = subst (λ (x : Step). SteppedOn v most n x w) e g in
    let few = h.0 in
    stretched_refused turns n h.1 v h.2 w h.3 h.4 h.5 h.6 (omega arith)

-- there were no more turns than that
pub turns_within : (most n : ℕ) (v w : InterpView) (r : Step) → SteppedOn v most n r w → n ≤ most
turns_within most n v w steps.Local h = (let all = h.0 in omega arith)
turns_within most n v w steps.Asks h = h.1
turns_within most n v w steps.Gone h = absurd h
turns_within most n v w steps.Starved h = h.0

-- where there was to be one turn, that is all it did
pub one_turn : (most n : ℕ) (v w : InterpView) (r : Step) → SteppedOn v most n r w → (r ≡ steps.Starved → ⊥) → most ≡ 1 → Counts v w
one_turn most n v w steps.Local h a e = (let all = h.0 in one_line n v w (omega arith) h.1)
one_turn most n v w steps.Asks h a e = (let some = h.0 in let few = h.1 in one_line n v w (omega arith) h.2)
one_turn most n v w steps.Gone h a e = absurd h
one_turn most n v w steps.Starved h a e = absurd (a refl)

pub one_refused : (most n : ℕ) (v w : InterpView) (r : Step) → SteppedOn v most n r w → r ≡ steps.Starved → most ≡ 1 → w ≡ starved_view v
one_refused most n v w r g is e =
    let h = subst (λ (x : Step). SteppedOn v most n x w) is g in
    let few = h.0 in
    let after = h.3 in
    let none : h.1 ≡ 0 = omega arith in
    let same : h.2 ≡ v = subst (λ (k : ℕ). HasRun k v h.2) none h.4 in
    subst (λ (u : InterpView). w ≡ starved_view u) same h.6

-- where there were fewer turns, there is no line to run
pub ends_early : (most n : ℕ) (v w : InterpView) (r : Step) → SteppedOn v most n r w → (r ≡ steps.Starved → ⊥) → n < most → w.stand ≡ Ready → ⊥
ends_early most n v w steps.Local h a l e = (let all = h.0 in absurd (omega arith))
ends_early most n v w steps.Asks h a l e = not_ready w.stand h.3 e
ends_early most n v w steps.Gone h a l e = h
ends_early most n v w steps.Starved h a l e = a refl

-- ---- in the world

set_twice : {X : Type 0} (xs : List X) (i : ℕ) (x y : X) → set (set xs i x) i y ≡ set xs i y
set_twice [] i x y = refl
set_twice (z ∷ xs) zero x y = refl
set_twice (z ∷ xs) (suc i) x y = ap (λ (ys : List _). z ∷ ys) (set_twice xs i x y)

goes_ran : (p : Past) (vs : List InterpView) (i : ℕ) (v : InterpView) (ms : List Mark) (w : InterpView) → slice_get vs i ≡ Some v → i < created p → Goes p i v ms w
    → Ran (world p vs) (replicate (length ms) i) ms (world p (set vs i w))
goes_ran p vs i v [] w at lt g = ap (world p) (ap (set vs i) g ∙ set-same vs i v at)
goes_ran p vs i v (m ∷ ms) w at lt g =
    let u = g.0 in (
      world p (set vs i u),
      turned_by p p vs i v u m (world p vs) refl at g.1 lt,
      subst (λ (us : List InterpView). Ran (world p (set vs i u)) (replicate (length ms) i) ms (world p us)) (set_twice vs i u w)
          (goes_ran p (set vs i u) i u ms w (get-set_same vs i v u at) lt g.2),
    )

length_replicate : (n i : ℕ) → length (replicate n i) ≡ n
length_replicate zero i = refl
length_replicate (suc n) i = ap suc (length_replicate n i)

pub stretched_gives : (p : Past) (vs : List InterpView) (i : ℕ) (v w : InterpView) (n : ℕ) (b : Bool) (old : WorldView) → world p vs ≡ old → slice_get vs i ≡ Some v → i < created p
    → Stretched p.limits.turns v n b w → Gives 0 old n (world p (set vs i w)) (last_idle b)
stretched_gives p vs i v w n b old e at lt s = subst (λ (o : WorldView). Gives 0 o n (world p (set vs i w)) (last_idle b)) e (record {
  turns = replicate (length s.marks) i;
  marks = s.marks;
  ran = goes_ran p vs i v s.marks w at lt (s.goes p i refl);
  count = length_replicate (length s.marks) i ∙ s.count;
  idle_within = s.idle_within;
  idle_end = let k = s.idle_end in omega arith;
})

pub stretched_ran : (p : Past) (vs : List InterpView) (i : ℕ) (v w : InterpView) (n : ℕ) (b : Bool) (old : WorldView) → world p vs ≡ old → slice_get vs i ≡ Some v → i < created p
    → Stretched p.limits.turns v n b w → RanLines old i n b (world p (set vs i w))
stretched_ran p vs i v w n b old e at lt s = record {
  marks = s.marks;
  are = s.are;
  ran = subst (λ (o : WorldView). Ran o (replicate n i) s.marks (world p (set vs i w))) e
      (subst (λ (k : ℕ). Ran (world p vs) (replicate k i) s.marks (world p (set vs i w))) s.count (goes_ran p vs i v s.marks w at lt (s.goes p i refl)));
}

pub ran_none : (old : WorldView) (i : ℕ) → RanLines old i 0 false old
ran_none old i = record { marks = []; are = refl; ran = refl }

pub has_no_line : (p : Past) (vs : List InterpView) (i : ℕ) (v w : InterpView) → slice_get vs i ≡ Some v → (w.stand ≡ Ready → p.limits.turns ≤ w.locals) → HasNoLine (world p (set vs i w)) i
has_no_line p vs i v w at h u lt g r =
    let a : Some w ≡ Some u = sym (get-set_same vs i v w at) ∙ g in
    let b : w ≡ u = cc in
    subst (λ (x : InterpView). p.limits.turns ≤ x.locals) b (h (ap (λ (x : InterpView). x.stand) b ∙ r))

pub stretched_member : (p : Past) (i : ℕ) (v w : InterpView) (n : ℕ) (b : Bool) → IsMember p i v → Stretched p.limits.turns v n b w → Shows w → IsMember p i w
stretched_member p i v w n b h s x = record {
  id = s.id ∙ h.id;
  shows = x;
  log = h.log ∙ ap exchanges (sym s.log);
  taken = s.taken h.taken;
  locals = s.locals h.locals;
}

member_set : (p : Past) (vs : List InterpView) (i : ℕ) (v w : InterpView) (k : ℕ) (u : InterpView) → IsWorld (world p vs) → slice_get vs i ≡ Some v → IsMember p i w → slice_get (set vs i w) k ≡ Some u → IsMember p k u
member_set p vs i v w k u h at x g =
    let two = eqb_tells k i in
    elim two [
      | inl y ↦ (
          let a : Some w ≡ Some u = sym (get-set_same vs i v w at) ∙ ap (slice_get (set vs i w)) (sym y.1) ∙ g in
          let b : w ≡ u = cc in
          subst (λ (n : ℕ). IsMember p n u) (sym y.1) (subst (λ (z : InterpView). IsMember p i z) b x))
      | inr y ↦ h.each k u (sym (get-set_other vs i k w y.1) ∙ g)
    ]

pub stretched_world : (p : Past) (vs : List InterpView) (i : ℕ) (v w : InterpView) (n : ℕ) (b : Bool) → IsWorld (world p vs) → slice_get vs i ≡ Some v → Stretched p.limits.turns v n b w → Shows w
    → IsWorld (world p (set vs i w))
stretched_world p vs i v w n b h at s x = record {
  told = h.told;
  count = length-set vs i w ∙ h.count;
  some = h.some;
  few = h.few;
  each = λ k u g. member_set p vs i v w k u h at (stretched_member p i v w n b (h.each i v at) s x) g;
  others = λ k past. h.others k (let e = length-set vs i w in omega arith);
}
