-- What holds of every core that a list of turns leads to.
use Rattle.std.proofs.Common.{◌≡◌, ◌≢◌, ℕ, zero, suc, ◌+◌, ◌<◌, ◌≤◌, ◌⊎◌, List, [], ◌∷◌, ◌++◌, length, map, set, replicate, refl, ap, sym, ◌∙◌, subst, arith, append_assoc, append-nil, inl, inr, slice_index, below_more}
use Rattle.std.specs.Bool.{⊤}
use Rattle.std.proofs.lemmas.List.{map-append, length-set, length-replicate}
use Rattle.std.proofs.lemmas.Bool.Decides.{leb_tells, eqb_tells}
use Rattle.si_plain.specs.Ranges.{Numbers}
use Rattle.si_semantics.specs.Value.{Text}
use Rattle.si_semantics.specs.Actions.{Action, Answer}
use Rattle.si_semantics.specs.Shared.{State, Reply, NotNow, Replied}
use Rattle.si_semantics.specs.History.{Call, Told}
use Rattle.si_hub.specs.Hubs.{IsTold, IsReplay, state_of, reply_at, call, with_call}
use Rattle.si_hub.proofs.Histories.{replay_more, acts}
use Rattle.si_interp.specs.Meaning.{InterpView, Stand, Ready, At, Gone, Starved, course_stand, StoodAt}
use Rattle.si_interp.proofs.Logs.{course_more}
use Rattle.si_world.specs.Legal.{Exchange, calls_of, answers_to}
use Rattle.si_world.specs.Worlds.{created, first_views, first_of}
use Rattle.si_world.specs.Core.{Core, core, core_of, core_acts, core_moves, core_turn, core_run}
use Rattle.si_world.proofs.Counting.{grows_more}
use Rattle.si_world.proofs.Lists.{calls-own, calls-other}
use Rattle.si_replay.specs.Replays.{core_after}
use Rattle.si_replay.specs.inner.Steps.{past_with}

-- a call was made where its caller stood at its action, within so many lines
pub record CalledAt (t : ℕ) (done : List Call) (c : Call) : Type 0 where
  pub lines : ℕ
  pub within : lines ≤ t
  pub stood : StoodAt c.by (answers_to c.by done) c.action lines

abbrev pub Called : ℕ → List Call → List Call → Type 0
Called t done [] = ⊤
Called t done (c ∷ cs) = CalledAt t done c × Called t (done ++ c ∷ []) cs

abbrev pub cored : Text → Numbers → List Call → List ℕ → Core
cored s l j ls = core (past_with s l j) ls

-- what holds of every core that a list of turns leads to
pub record IsCore (s : Text) (l : Numbers) (j : List Call) (ls : List ℕ) : Type 0 where
  pub told : IsTold (past_with s l j)
  pub called : Called l.turns [] j
  pub ready : (i k : ℕ) → k < slice_index ls i → course_stand i (answers_to i j) k ≡ Ready
  pub within : (i : ℕ) → slice_index ls i ≤ l.turns
  pub idle : (i : ℕ) → created (past_with s l j) ≤ i → slice_index ls i ≡ 0
  pub count : length ls ≡ l.interpreters

Called-more : (t : ℕ) (done cs : List Call) (c : Call) → Called t done cs → CalledAt t (done ++ cs) c → Called t done (cs ++ c ∷ [])
Called-more t done [] c h a = ((let x = rw append-nil at a in x), tt)
Called-more t done (d ∷ ds) c h a = (h.0, Called-more t (done ++ d ∷ []) ds c h.1 (rw (append_assoc {A = Call} done (d ∷ []) ds) a))

-- what a number is after a change of one
index_after : (ls : List ℕ) (i v j : ℕ) → ((j ≡ i) × (slice_index (set ls i v) j ≡ v)) ⊎ (slice_index (set ls i v) j ≡ slice_index ls j)
index_after [] i v j = inr refl
index_after (x ∷ ls) zero v zero = inl (refl, refl)
index_after (x ∷ ls) zero v (suc j) = inr refl
index_after (x ∷ ls) (suc i) v zero = inr refl
index_after (x ∷ ls) (suc i) v (suc j) = elim (index_after ls i v j) [ inl w ↦ inl (ap suc w.0, w.1) | inr w ↦ inr w ]

index_zeros : (n i : ℕ) → slice_index (replicate n 0) i ≡ 0
index_zeros zero i = refl
index_zeros (suc n) zero = refl
index_zeros (suc n) (suc i) = index_zeros n i

pub first_is : (s : Text) (l : Numbers) → IsCore s l [] (replicate l.interpreters 0)
unfolding Told
first_is s l = record {
  told = tt;
  called = tt;
  ready = λ i k lt. let z = index_zeros l.interpreters i in absurd (omega arith);
  within = λ i. let z = index_zeros l.interpreters i in omega arith;
  idle = λ i h. index_zeros l.interpreters i;
  count = length-replicate l.interpreters 0;
}

-- one local turn
local_is : (s : Text) (l : Numbers) (j : List Call) (ls : List ℕ) (i : ℕ) → IsCore s l j ls → i < created (past_with s l j)
    → course_stand i (answers_to i j) (slice_index ls i) ≡ Ready → slice_index ls i < l.turns → IsCore s l j (set ls i (slice_index ls i + 1))
local_is s l j ls i h c e t = record {
  told = h.told;
  called = h.called;
  ready = λ m k lt. elim (index_after ls i (slice_index ls i + 1) m) [
    | inl w ↦ (
        let below : k < slice_index ls i + 1 = (let z = w.1 in omega arith) in
        let r = below_more (λ (n : ℕ). course_stand i (answers_to i j) n ≡ Ready) (slice_index ls i) (h.ready i) e k below in
        ap (λ (x : ℕ). course_stand x (answers_to x j) k) w.0 ∙ r)
    | inr w ↦ h.ready m k (omega arith)
  ];
  within = λ m. elim (index_after ls i (slice_index ls i + 1) m) [
    | inl w ↦ (let z = w.1 in omega arith)
    | inr w ↦ (let z = h.within m in omega arith)
  ];
  idle = λ m g. elim (index_after ls i (slice_index ls i + 1) m) [
    | inl w ↦ (let z = w.0 in absurd (omega arith))
    | inr w ↦ w ∙ h.idle m g
  ];
  count = length-set ls i (slice_index ls i + 1) ∙ h.count;
}

pub answers-own : (i : ℕ) (j : List Call) (a : Action) (r : Answer) → answers_to i (j ++ call i a r ∷ []) ≡ answers_to i j ++ r ∷ []
answers-own i j a r = ap (λ (es : List Exchange). map (λ (x : Exchange). x.answer) es) (calls-own i j (call i a r) refl) ∙ map-append (λ (x : Exchange). x.answer) (calls_of i j) _

pub answers-other : (i m : ℕ) (j : List Call) (a : Action) (r : Answer) → m ≢ i → answers_to m (j ++ call i a r ∷ []) ≡ answers_to m j
answers-other i m j a r ne = ap (λ (es : List Exchange). map (λ (x : Exchange). x.answer) es) (calls-other m j (call i a r) (λ e. ne (sym e)))

-- the turn of an action
act_is : (s : Text) (l : Numbers) (j : List Call) (ls : List ℕ) (i : ℕ) (a : Action) (r : Answer) (t : State) → IsCore s l j ls
    → course_stand i (answers_to i j) (slice_index ls i) ≡ At a → reply_at (past_with s l j) i a ≡ Replied r t → IsCore s l (j ++ call i a r ∷ []) ls
act_is s l j ls i a r t h e q =
    let p = past_with s l j in
    let c = call i a r in
    let now : IsReplay (state_of p) p = record { now = refl; told = h.told } in
    let more = grows_more p (with_call c p) i a r (acts (state_of p) t p i a r now q) in
    record {
      told = (replay_more (state_of p) t p i a r now q).told;
      called = Called-more l.turns [] j c h.called (record { lines = slice_index ls i; within = h.within i; stood = record { here = e; ready = h.ready i } });
      ready = λ m k lt.
          elim (eqb_tells m i) [
            | inl y ↦ (
                let lower : k < slice_index ls i = subst (λ (x : ℕ). k < slice_index ls x) y.1 lt in
                let here : course_stand i (answers_to i (j ++ c ∷ [])) k ≡ Ready =
                ap (λ (rs : List Answer). course_stand i rs k) (answers-own i j a r) ∙ course_more i (slice_index ls i) (answers_to i j) r (h.ready i) k lower in
                ap (λ (x : ℕ). course_stand x (answers_to x (j ++ c ∷ [])) k) y.1 ∙ here)
            | inr y ↦ ap (λ (rs : List Answer). course_stand m rs k) (answers-other i m j a r y.1) ∙ h.ready m k lt
          ];
      within = h.within;
      idle = λ m g. h.idle m (let z = more in omega arith);
      count = h.count;
    }

-- a core that is one
pub record Cored (s : Text) (l : Numbers) (c : Core) : Type 0 where
  pub journal : List Call
  pub lines : List ℕ
  pub same : c ≡ cored s l journal lines
  pub is : IsCore s l journal lines

acts_is : (s : Text) (l : Numbers) (j : List Call) (ls : List ℕ) (i : ℕ) (a : Action) (x : Reply) → IsCore s l j ls → course_stand i (answers_to i j) (slice_index ls i) ≡ At a
    → reply_at (past_with s l j) i a ≡ x → Cored s l (core_acts (cored s l j ls) i a x).1
acts_is s l j ls i a NotNow h e q = record { journal = j; lines = ls; same = refl; is = h }
acts_is s l j ls i a (Replied r t) h e q = record { journal = j ++ call i a r ∷ []; lines = ls; same = refl; is = act_is s l j ls i a r t h e q }

moves_is : (s : Text) (l : Numbers) (j : List Call) (ls : List ℕ) (i : ℕ) (d : Stand) → IsCore s l j ls → i < created (past_with s l j)
    → course_stand i (answers_to i j) (slice_index ls i) ≡ d → Cored s l (core_moves (cored s l j ls) i d).1
moves_is s l j ls i Ready h c e = elim (leb_tells l.turns (slice_index ls i)) [
  | inl w ↦ rw (w.0) (record { journal = j; lines = ls; same = refl; is = h })
  | inr w ↦ rw (w.0) (record { journal = j; lines = set ls i (slice_index ls i + 1); same = refl; is = local_is s l j ls i h c e w.1 })
]
moves_is s l j ls i (At a) h c e = acts_is s l j ls i a (reply_at (past_with s l j) i a) h e refl
moves_is s l j ls i Gone h c e = record { journal = j; lines = ls; same = refl; is = h }
moves_is s l j ls i Starved h c e = record { journal = j; lines = ls; same = refl; is = h }

turn_is : (s : Text) (l : Numbers) (j : List Call) (ls : List ℕ) (i : ℕ) → IsCore s l j ls → Cored s l (core_turn (cored s l j ls) i).1
unfolding core_turn
turn_is s l j ls i h = elim (leb_tells (created (past_with s l j)) i) [
  | inl w ↦ rw (w.0) (record { journal = j; lines = ls; same = refl; is = h })
  | inr w ↦ rw (w.0) (moves_is s l j ls i (course_stand i (answers_to i j) (slice_index ls i)) h w.1 refl)
]

run_is : (s : Text) (l : Numbers) (c : Core) (turns : List ℕ) → Cored s l c → Cored s l (core_run c turns).1
run_is s l c [] h = h
run_is s l c (i ∷ is) h =
    let one : Cored s l (core_turn c i).1 = subst (λ (d : Core). Cored s l (core_turn d i).1) (sym h.same) (turn_is s l h.journal h.lines i h.is) in
    run_is s l (core_turn c i).1 is one

first_locals : (i n : ℕ) → map (λ (v : InterpView). v.locals) (first_views i n) ≡ replicate n 0
first_locals i zero = refl
first_locals i (suc n) = ap (λ (ls : List ℕ). 0 ∷ ls) (first_locals (i + 1) n)

-- the core of a first world
pub first_core : (s : Text) (l : Numbers) → core_of (first_of s l) ≡ cored s l [] (replicate l.interpreters 0)
first_core s l = ap (cored s l []) (first_locals 0 l.interpreters)

-- what a list of turns leads to is a core
pub reached_is : (s : Text) (l : Numbers) (turns : List ℕ) → Cored s l (core_after s l turns)
reached_is s l turns = run_is s l (core_of (first_of s l)) turns (record { journal = []; lines = replicate l.interpreters 0; same = first_core s l; is = first_is s l })
