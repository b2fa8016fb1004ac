-- What the globals of an interpreter denote.
use Rattle.std.proofs.Common.{◌≡◌, ◌∙◌, ◌⊎◌, inl, inr, ℕ, Bool, List, Option, Some, None, ap, refl, sym, subst}
use Rattle.si_semantics.specs.Value.{Text}
use Rattle.si_semantics.specs.World.{World}
use Rattle.si_semantics.specs.Actions as shared
use Rattle.si_slots.specs.Machine.{Place, At, Calling, Taking, Ending, Closed, Course}
use Rattle.si_steps.specs.declared.state.State.{State as Machine}
use Rattle.si_steps.specs.Moments.{IsWorld, StandsAt, ground_of}
use Rattle.si_parcel.specs.Shared.{action_of}
use Rattle.si_parcel.specs.declared.action.Action.{Action}
use Rattle.si_interp.specs.declared.interp.State.{State}
use Rattle.si_interp.specs.declared.interp.State.TheVariants as states
use Rattle.si_interp.specs.Meaning.{Logged, InterpView, answers_of}
use Rattle.si_interp.specs.View.{view_of}
use Rattle.si_interp.specs.Globals.{course_world, globals_of, world_at}
use Rattle.si_interp.specs.inner.Keeps.{moment_of, StandsBy, stand_in, Goes, Keeps}

-- ---- the world of the machine is that of its course

world_there : (p : Place) (w : World) (m : Machine) → StandsAt p w m → IsWorld (ground_of m) w
world_there (At pc ts slots bs) w m h = h.1.1
world_there (Calling r g pc ts slots bs) w m h = h.1.1
world_there Taking w m h = absurd h
world_there (Ending o) w m h = absurd h
world_there Closed w m h = absurd h

world_by : (c : Course) (a : shared.Action) (m : Machine) → StandsBy c a m → IsWorld (ground_of m) c.world
world_by c shared.Take m h = h.waits.world
world_by c (shared.End o) m h = h.waits.world
world_by c shared.Create m h = world_there c.place c.world m h.awaits.stands.place
world_by c (shared.CreateQueue n) m h = world_there c.place c.world m h.awaits.stands.place
world_by c (shared.Put q p) m h = world_there c.place c.world m h.awaits.stands.place
world_by c (shared.PutNow q p) m h = world_there c.place c.world m h.awaits.stands.place
world_by c (shared.Get q) m h = world_there c.place c.world m h.awaits.stands.place
world_by c (shared.GetNow q) m h = world_there c.place c.world m h.awaits.stands.place
world_by c (shared.Size q) m h = world_there c.place c.world m h.awaits.stands.place
world_by c (shared.Prepare i bs) m h = world_there c.place c.world m h.awaits.stands.place
world_by c (shared.Start i text) m h = world_there c.place c.world m h.awaits.stands.place
world_by c (shared.Await r) m h = world_there c.place c.world m h.awaits.stands.place
world_by c (shared.IsRunning i) m h = world_there c.place c.world m h.awaits.stands.place
world_by c (shared.Close i) m h = world_there c.place c.world m h.awaits.stands.place
world_by c shared.ListAll m h = world_there c.place c.world m h.awaits.stands.place

-- what an interpreter's globals denote, and its machine's world
pub record IsSeen (globals : Option World) (m : Machine) : Type 0 where
  pub world : World
  pub is : globals ≡ Some world
  pub there : IsWorld (ground_of m) world

course_is : (id : ℕ) (log : List Logged) (l : ℕ) → course_world id (answers_of log) l ≡ (moment_of id log l).world
unfolding course_world moment_of
course_is id log l = refl

seen : (id : ℕ) (log : List Logged) (l : ℕ) (m : Machine) (s : State) (kept offered : Option Action) (room : ℕ) → Goes id log l (moment_of id log l) m s kept offered room → (s ≡ states.Gone → ⊥) → (s ≡ states.Starved → ⊥) →
    IsSeen (world_at (stand_in s kept) (course_world id (answers_of log) l)) m
seen id log l m states.Ready kept offered room g gone starved =
    let c = moment_of id log l in
    record { world = c.world; is = ap Some (course_is id log l); there = world_there c.place c.world m g.under.stands.place }
seen id log l m states.AtAction (Some a) offered room g gone starved =
    let c = moment_of id log l in
    record { world = c.world; is = ap Some (course_is id log l); there = world_by c (action_of a) m g.standing }
seen id log l m states.AtAction None offered room g gone starved = absurd g
seen id log l m states.Gone kept offered room g gone starved = absurd (gone refl)
seen id log l m states.Starved kept offered room g gone starved = absurd (starved refl)

-- unless it is gone or stands still for good
pub globals_seen :
    (id : ℕ) (m : Machine) (log : List Logged) (l room : ℕ) (s : State) (kept offered : Option Action) (text : Text) (taken : Bool) (v : InterpView)
    → Keeps id m log l room s kept offered → view_of id text log l (stand_in s kept) taken ≡ v → (s ≡ states.Gone → ⊥) → (s ≡ states.Starved → ⊥) → IsSeen (globals_of v) m
globals_seen id m log l room s kept offered text taken v k e gone starved = subst (λ (v : InterpView). IsSeen (globals_of v) m) e (seen id log l m s kept offered room k.goes gone starved)

-- which denote nothing
pub none_seen :
    (id : ℕ) (log : List Logged) (l : ℕ) (s : State) (kept : Option Action) (text : Text) (taken : Bool) (v : InterpView)
    → view_of id text log l (stand_in s kept) taken ≡ v → (s ≡ states.Gone) ⊎ (s ≡ states.Starved) → globals_of v ≡ None
none_seen id log l s kept text taken v e (inl g) = sym (ap globals_of e) ∙ ap (λ (s : State). world_at (stand_in s kept) (course_world id (answers_of log) l)) g
none_seen id log l s kept text taken v e (inr g) = sym (ap globals_of e) ∙ ap (λ (s : State). world_at (stand_in s kept) (course_world id (answers_of log) l)) g
