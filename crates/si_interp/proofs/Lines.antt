-- How lines of a machine go on, one after the other, and what is then seen of its interpreter.
use Rattle.std.proofs.Common.{◌≡◌, ◌∙◌, ℕ, suc, ◌+◌, ◌<◌, List, Option, Some, None, false, ap, ap₂, refl, sym, subst, arith}
use Rattle.si_plain.specs.Characters.{characters_of}
use Rattle.si_semantics.specs.Value.{Text}
use Rattle.si_slots.specs.Machine.{Course}
use Rattle.si_steps.specs.declared.state.State.{State as Machine}
use Rattle.si_steps.specs.declared.step.Step.{Step as Line}
use Rattle.si_steps.specs.declared.step.Step.TheVariants as line
use Rattle.si_steps.specs.Machines.{Steps, WentOn, printed_of}
use Rattle.si_parcel.specs.declared.action.Action.{Action}
use Rattle.si_interp.specs.declared.interp.State.{State}
use Rattle.si_interp.specs.declared.interp.State.TheVariants as states
use Rattle.si_interp.specs.declared.interp.Step.{Step}
use Rattle.si_interp.specs.declared.interp.Step.TheVariants as steps
use Rattle.si_interp.specs.Meaning.{Logged, Ready, At, Starved, InterpView}
use Rattle.si_interp.specs.View.{view_of, step_at, starved_view, Counts, Stepped, HasRun, SteppedOn}
use Rattle.si_interp.specs.inner.Keeps.{moment_of, IsGoing, ComesSo, Keeps, stand_in, taken_in}
use Rattle.si_interp.specs.inner.Lines.{ready_view, GoneOn, LastLine, LinesLed}
use Rattle.si_interp.proofs.Keeping.{came_not_taken, came_stands, keeps_going, keeps_line, keeps_starved}

-- ---- lines

-- one line more
pub run_more : (n : ℕ) (v u w : InterpView) → HasRun n v u → u.stand ≡ Ready → Counts u w → HasRun (n + 1) v w
run_more n v u w h r c =
    let e : suc n ≡ n + 1 = omega arith in
    subst (λ (k : ℕ). HasRun k v w) e (u, h, r, c)

gone_at : (id l k n : ℕ) (log : List Logged) (old new : Machine) → k ≡ l + n → IsGoing id log k (moment_of id log k) new → HasRun n (ready_view id log l old) (ready_view id log k new) → GoneOn id log l old n new
gone_at id l k n log old new e g r = record {
  going = subst (λ (j : ℕ). IsGoing id log j (moment_of id log j) new) e g;
  ran = subst (λ (j : ℕ). HasRun n (ready_view id log l old) (ready_view id log j new)) e r;
}

-- before any line
pub gone_none : (id l : ℕ) (log : List Logged) (m : Machine) → IsGoing id log l (moment_of id log l) m → GoneOn id log l m 0 m
gone_none id l log m g = gone_at id l l 0 log m m (omega arith) g refl

-- one line more that has gone on
pub gone_more : (id l n : ℕ) (log : List Logged) (old m k : Machine) → GoneOn id log l old n m → WentOn (moment_of id log (l + n)) m k → GoneOn id log l old (n + 1) k
gone_more id l n log old m k h did =
    let kept : Keeps id k log (l + n + 1) 0 states.Ready None None = keeps_line id log (l + n) 0 m k None None h.going did in
    let counts : Counts (ready_view id log (l + n) m) (ready_view id log (l + n + 1) k) = record { id = refl; log = refl; locals = refl; fed = λ e. cc; taken = refl } in
    gone_at id l (l + n + 1) (n + 1) log old k (omega arith) kept.goes
    (run_more n (ready_view id log l old) (ready_view id log (l + n) m) (ready_view id log (l + n + 1) k) h.ran refl counts)

-- one line more that has come elsewhere
pub led : (id l most n : ℕ) (log : List Logged) (old m k : Machine) (r : Line) → GoneOn id log l old n m → n < most → (r ≡ line.Local → ⊥) → Steps (moment_of id log (l + n)) m k r → LinesLed id log l old most n r k
led id l most n log old m k line.Local g f a did = absurd (a refl)
led id l most n log old m k line.Ended g f a did = record { before = m; gone = g; few = f; steps = did }
led id l most n log old m k line.Wants g f a did = record { before = m; gone = g; few = f; steps = did }
led id l most n log old m k line.Starved g f a did = record { before = m; gone = g; few = f; steps = did }

-- no line has come elsewhere
pub led_all : (id l most n : ℕ) (log : List Logged) (old m : Machine) (r : Line) → r ≡ line.Local → n ≡ most → GoneOn id log l old n m → LinesLed id log l old most n r m
led_all id l most n log old m r e f g = subst (λ (x : Line). LinesLed id log l old most n x m) (sym e) (f, g)

-- the line that has come elsewhere
pub last_line : (id l most n : ℕ) (log : List Logged) (old k : Machine) (r : Line) → LinesLed id log l old most n r k → (r ≡ line.Local → ⊥) → LastLine id log l old most n r k
last_line id l most n log old k line.Local h a = absurd (a refl)
last_line id l most n log old k line.Ended h a = h
last_line id l most n log old k line.Wants h a = h
last_line id l most n log old k line.Starved h a = h

-- where memory was refused to it, it stands still for good where it was
pub keeps_still : (id l room : ℕ) (log : List Logged) (m n : Machine) (kept offered : Option Action) → IsGoing id log l (moment_of id log l) m → printed_of n ≡ printed_of m → Keeps id n log l room states.Starved kept offered
keeps_still id l room log m n kept offered g p =
    let here : Keeps id m log l room states.Ready kept offered = keeps_going id log l room m kept offered g in
    keeps_starved id m n log log l room Ready kept offered here.shows p refl

-- ---- views

pub state_ready : (s : State) (kept : Option Action) → stand_in s kept ≡ Ready → s ≡ states.Ready
state_ready states.Ready kept e = refl
state_ready states.AtAction (Some a) e = cc
state_ready states.AtAction None e = cc
state_ready states.Gone kept e = cc
state_ready states.Starved kept e = cc

-- an interpreter that is seen to have a line to run
pub record IsReady (id l : ℕ) (log : List Logged) (m : Machine) (s : State) (now : InterpView) : Type 0 where
  pub state : s ≡ states.Ready
  pub view : ready_view id log l m ≡ now

pub ready_now : (id l : ℕ) (log : List Logged) (m : Machine) (s : State) (kept offered : Option Action) (now : InterpView)
    → view_of id (characters_of (printed_of m)) log l (stand_in s kept) (taken_in s offered) ≡ now → now.stand ≡ Ready → IsReady id l log m s now
ready_now id l log m s kept offered now e r =
    let ready : s ≡ states.Ready = state_ready s kept (ap (λ (v : InterpView). v.stand) e ∙ r) in
    record {
      state = ready;
      view = subst (λ (x : State). view_of id (characters_of (printed_of m)) log l (stand_in x kept) (taken_in x offered) ≡ now) ready e;
    }

-- all were lines, and there is another
pub stepped_local : (id l most n : ℕ) (log : List Logged) (m k : Machine) (s : State) (kept offered : Option Action) (now : InterpView) → IsReady id l log m s now → LinesLed id log l m most n line.Local k
    → SteppedOn now most n steps.Local (view_of id (characters_of (printed_of k)) log (l + n) (stand_in s kept) (taken_in s offered))
stepped_local id l most n log m k s kept offered now x h =
    let here : SteppedOn now most n steps.Local (ready_view id log (l + n) k) =
    (h.0, subst (λ (v : InterpView). HasRun n v (ready_view id log (l + n) k)) x.view h.1.ran, refl) in
    subst (λ (t : State). SteppedOn now most n steps.Local (view_of id (characters_of (printed_of k)) log (l + n) (stand_in t kept) (taken_in t offered))) (sym x.state) here

-- the last line has led to an action
pub stepped_asks : (id l most n room : ℕ) (log log' : List Logged) (m k : Machine) (r : Line) (text : Text) (c : Course) (s s' : State) (kept offered : Option Action) (now : InterpView)
    → IsReady id l log m s now → LastLine id log l m most n r k → log' ≡ log → ComesSo c s' kept offered room
    → SteppedOn now most (n + 1) steps.Asks (view_of id text log' (l + n + 1) (stand_in s' kept) (taken_in s' offered))
stepped_asks id l most n room log log' m k r text c s s' kept offered now x h e came =
    let u : InterpView = ready_view id log (l + n) h.before in
    let w : InterpView = view_of id text log' (l + n + 1) (stand_in s' kept) (taken_in s' offered) in
    let stands = came_stands c s' kept offered room came in
    let counts : Counts u w = record { id = refl; log = e; locals = refl; fed = λ f. (let g : At stands.0 ≡ Starved = sym stands.1 ∙ f in cc); taken = came_not_taken c s' kept offered room came } in
    let ran : HasRun n now u = subst (λ (v : InterpView). HasRun n v u) x.view h.gone.ran in
    let few = h.few in
    (omega arith, omega arith, run_more n now u w ran refl counts, sym (ap step_at stands.1))

-- the last turn was refused memory
pub stepped_starved : (id l most n : ℕ) (log log' : List Logged) (m k : Machine) (r : Line) (text : Text) (s : State) (now : InterpView)
    → IsReady id l log m s now → (h : LastLine id log l m most n r k) → log' ≡ log → text ≡ characters_of (printed_of h.before)
    → SteppedOn now most (n + 1) steps.Starved (view_of id text log' (l + n) Starved false)
stepped_starved id l most n log log' m k r text s now x h e f =
    let u : InterpView = ready_view id log (l + n) h.before in
    let ran : HasRun n now u = subst (λ (v : InterpView). HasRun n v u) x.view h.gone.ran in
    let few = h.few in
    (omega arith, n, u, refl, ran, refl, ap₂ (λ (y : Text) (z : List Logged). view_of id y z (l + n) Starved false) f e)

-- ---- a step

one_run : (n : ℕ) (v w : InterpView) → n ≡ 1 → HasRun n v w → Counts v w
one_run n v w e h =
    let here : HasRun 1 v w = subst (λ (k : ℕ). HasRun k v w) e h in
    subst (λ (u : InterpView). Counts u w) here.1 here.3

none_run : (n : ℕ) (v w : InterpView) → n ≡ 0 → HasRun n v w → w ≡ v
none_run n v w e h = subst (λ (k : ℕ). HasRun k v w) e h

-- one turn is a step
pub stepped_once : (n : ℕ) (v w : InterpView) (r : Step) → SteppedOn v 1 n r w → Stepped v r w
stepped_once n v w steps.Local h = one_run n v w h.0 h.1
stepped_once n v w steps.Asks h = (let some = h.0 in let few = h.1 in one_run n v w (omega arith) h.2)
stepped_once n v w steps.Gone h = h
stepped_once n v w steps.Starved h =
    (let few = h.0 in let is = h.3 in
    subst (λ (u : InterpView). w ≡ starved_view u) (none_run h.1 v h.2 (omega arith) h.4) h.6)

-- and tells how the interpreter then stands
pub stepped_told : (n : ℕ) (v w : InterpView) (r : Step) → SteppedOn v 1 n r w → r ≡ step_at w.stand
stepped_told n v w steps.Local h = sym (ap step_at h.2)
stepped_told n v w steps.Asks h = h.3
stepped_told n v w steps.Gone h = absurd h
stepped_told n v w steps.Starved h = sym (ap (λ (u : InterpView). step_at u.stand) h.6)
