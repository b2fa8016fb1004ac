-- Where a machine stands by at an action.
use Rattle.std.proofs.Common.{◌≡◌, ◌∙◌, [], true, Option, Some, None, ap, refl, sym, subst}
use Rattle.si_semantics.specs.World as world
use Rattle.si_semantics.specs.World.{Request}
use Rattle.si_semantics.specs.Life as language
use Rattle.si_semantics.specs.Actions as shared
use Rattle.si_semantics.specs.Actions.{fits}
use Rattle.si_methods.specs.Requests as requests
use Rattle.si_methods.specs.Given as given
use Rattle.si_slots.specs.Machine.{Place, At, Calling, Taking, Ending, Closed, Course}
use Rattle.si_slots.specs.Shows.{standing_of}
use Rattle.si_steps.specs.declared.state.State.{State as Machine}
use Rattle.si_steps.specs.Moments.{IsAtLine, IsActionAt, HasAction}
use Rattle.si_steps.specs.Machines.{IsAtRequest}
use Rattle.si_steps.specs.Machines as machines
use Rattle.si_steps.proofs.Along.{at_request, stands_handed}
use Rattle.si_parcel.specs.Shared.{action_of, answer_of}
use Rattle.si_parcel.specs.declared.action.Action.{Action}
use Rattle.si_parcel.specs.declared.action.Action.TheVariants as action
use Rattle.si_parcel.specs.declared.answer.Answer.{Answer}
use Rattle.si_parcel.specs.declared.outcome.Outcome.{Outcome}
use Rattle.si_interp.specs.Life.{answer_in, asked}
use Rattle.si_interp.specs.Meaning.{stand_of}
use Rattle.si_interp.specs.Meaning as meaning
use Rattle.si_interp.specs.inner.Keeps.{IsWaiting, IsAwaiting, IsCalling, StandsBy}

-- ---- requests and their actions

-- no request waits for a job
request_take : (r : Request) → requests.action_of r ≡ shared.Take → ⊥
request_take world.Create e = cc
request_take (world.CreateQueue m) e = cc
request_take (world.Put q p) e = cc
request_take (world.PutNow q p) e = cc
request_take (world.Get q) e = cc
request_take (world.GetNow q) e = cc
request_take (world.Size q) e = cc
request_take (world.IsEmpty q) e = cc
request_take (world.IsFull q m) e = cc
request_take (world.Prepare i bs) e = cc
request_take (world.Exec i text) e = cc
request_take (world.AwaitExec r) e = cc
request_take (world.StartThread x i text) e = cc
request_take (world.JoinThread r) e = cc
request_take world.ListAll e = cc
request_take (world.IsRunning i) e = cc
request_take (world.Close i) e = cc

-- nor tells the end of a run
request_end : (r : Request) (o : language.Outcome) → requests.action_of r ≡ shared.End o → ⊥
request_end world.Create o e = cc
request_end (world.CreateQueue m) o e = cc
request_end (world.Put q p) o e = cc
request_end (world.PutNow q p) o e = cc
request_end (world.Get q) o e = cc
request_end (world.GetNow q) o e = cc
request_end (world.Size q) o e = cc
request_end (world.IsEmpty q) o e = cc
request_end (world.IsFull q m) o e = cc
request_end (world.Prepare i bs) o e = cc
request_end (world.Exec i text) o e = cc
request_end (world.AwaitExec r) o e = cc
request_end (world.StartThread x i text) o e = cc
request_end (world.JoinThread r) o e = cc
request_end world.ListAll o e = cc
request_end (world.IsRunning i) o e = cc
request_end (world.Close i) o e = cc

pub same_action : (a b : shared.Action) → meaning.At a ≡ meaning.At b → a ≡ b
same_action a b e = cc

-- ---- where a course stands

-- at Take it waits for a job
pub place_take : (p : Place) → stand_of p ≡ meaning.At shared.Take → p ≡ Taking
place_take (At pc ts slots bs) e = cc
place_take (Calling r g pc ts slots bs) e = absurd (request_take r (same_action (requests.action_of r) shared.Take e))
place_take Taking e = refl
place_take (Ending o) e = cc
place_take Closed e = cc

same_outcome : (o q : language.Outcome) → shared.End o ≡ shared.End q → o ≡ q
same_outcome o q e = cc

-- at the end of a run it tells that
pub place_end : (p : Place) (o : language.Outcome) → stand_of p ≡ meaning.At (shared.End o) → p ≡ Ending o
place_end (At pc ts slots bs) o e = cc
place_end (Calling r g pc ts slots bs) o e = absurd (request_end r o (same_action (requests.action_of r) (shared.End o) e))
place_end Taking o e = cc
place_end (Ending q) o e = ap Ending (same_outcome q o (same_action (shared.End q) (shared.End o) e))
place_end Closed o e = cc

-- the language's action at which a place stands
pub record IsAction (p : Place) (a : shared.Action) : Type 0 where
  pub action : language.Action
  pub at : standing_of p ≡ Some (Some action)
  pub same : asked action ≡ a

pub action_there : (p : Place) (a : shared.Action) → stand_of p ≡ meaning.At a → IsAction p a
action_there (At pc ts slots bs) a e = cc
action_there (Calling r g pc ts slots bs) a e = record { action = language.Calls r; at = refl; same = same_action (requests.action_of r) a e }
action_there Taking a e = record { action = language.Take; at = refl; same = same_action shared.Take a e }
action_there (Ending o) a e = record { action = language.End o; at = refl; same = same_action (shared.End o) a e }
action_there Closed a e = cc

-- at a request it asks that
pub request_there : (p : Place) → IsAtRequest p → (r : Request) × (standing_of p ≡ Some (Some (language.Calls r)))
request_there (At pc ts slots bs) h = absurd h
request_there (Calling r g pc ts slots bs) h = (r, refl)
request_there Taking h = absurd h
request_there (Ending o) h = absurd h
request_there Closed h = absurd h

-- where an action makes the request of a place, the place stands there
pub asked_at : (p : Place) (a : shared.Action) → IsActionAt p a → stand_of p ≡ meaning.At a
asked_at (At pc ts slots bs) a h = absurd h
asked_at (Calling r g pc ts slots bs) a h = ap meaning.At h
asked_at Taking a h = absurd h
asked_at (Ending o) a h = absurd h
asked_at Closed a h = absurd h

-- where it is there, no line comes
pub action_no_line : (p : Place) (a : Option Action) → HasAction p a → IsAtLine p → ⊥
action_no_line p None h l = h
action_no_line (At pc ts slots bs) (Some a) h l = h
action_no_line (Calling r g pc ts slots bs) (Some a) h l = l
action_no_line Taking (Some a) h l = l
action_no_line (Ending o) (Some a) h l = l
action_no_line Closed (Some a) h l = l

-- ---- a machine with it

pub stands_at : (c : Course) (a : shared.Action) (m : Machine) → StandsBy c a m → stand_of c.place ≡ meaning.At a
stands_at c shared.Take m h = h.at
stands_at c (shared.End o) m h = h.at
stands_at c shared.Create m h = h.at
stands_at c (shared.CreateQueue n) m h = h.at
stands_at c (shared.Put q p) m h = h.at
stands_at c (shared.PutNow q p) m h = h.at
stands_at c (shared.Get q) m h = h.at
stands_at c (shared.GetNow q) m h = h.at
stands_at c (shared.Size q) m h = h.at
stands_at c (shared.Prepare i bs) m h = h.at
stands_at c (shared.Start i text) m h = h.at
stands_at c (shared.Await r) m h = h.at
stands_at c (shared.IsRunning i) m h = h.at
stands_at c (shared.Close i) m h = h.at
stands_at c shared.ListAll m h = h.at

pub no_answers : (c : Course) (a : shared.Action) (m : Machine) → StandsBy c a m → c.answers ≡ []
no_answers c shared.Take m h = h.answers
no_answers c (shared.End o) m h = h.answers
no_answers c shared.Create m h = h.awaits.stands.answers
no_answers c (shared.CreateQueue n) m h = h.awaits.stands.answers
no_answers c (shared.Put q p) m h = h.awaits.stands.answers
no_answers c (shared.PutNow q p) m h = h.awaits.stands.answers
no_answers c (shared.Get q) m h = h.awaits.stands.answers
no_answers c (shared.GetNow q) m h = h.awaits.stands.answers
no_answers c (shared.Size q) m h = h.awaits.stands.answers
no_answers c (shared.Prepare i bs) m h = h.awaits.stands.answers
no_answers c (shared.Start i text) m h = h.awaits.stands.answers
no_answers c (shared.Await r) m h = h.awaits.stands.answers
no_answers c (shared.IsRunning i) m h = h.awaits.stands.answers
no_answers c (shared.Close i) m h = h.awaits.stands.answers
no_answers c shared.ListAll m h = h.awaits.stands.answers

calls_by : (c : Course) (r : Request) (m : Machine) → IsCalling c (requests.action_of r) m → StandsBy c (requests.action_of r) m
calls_by c world.Create m h = h
calls_by c (world.CreateQueue n) m h = h
calls_by c (world.Put q p) m h = h
calls_by c (world.PutNow q p) m h = h
calls_by c (world.Get q) m h = h
calls_by c (world.GetNow q) m h = h
calls_by c (world.Size q) m h = h
calls_by c (world.IsEmpty q) m h = h
calls_by c (world.IsFull q n) m h = h
calls_by c (world.Prepare i bs) m h = h
calls_by c (world.Exec i text) m h = h
calls_by c (world.AwaitExec r) m h = h
calls_by c (world.StartThread x i text) m h = h
calls_by c (world.JoinThread r) m h = h
calls_by c world.ListAll m h = h
calls_by c (world.IsRunning i) m h = h
calls_by c (world.Close i) m h = h

calling_by : (c : Course) (p : Place) (a : shared.Action) (m : Machine) → IsAtRequest p → stand_of p ≡ meaning.At a → IsCalling c a m → StandsBy c a m
calling_by c (At pc ts slots bs) a m q e h = absurd q
calling_by c (Calling r g pc ts slots bs) a m q e h =
    let same : requests.action_of r ≡ a = same_action (requests.action_of r) a e in
    subst (λ (b : shared.Action). StandsBy c b m) same (calls_by c r m (subst (λ (b : shared.Action). IsCalling c b m) (sym same) h))
calling_by c Taking a m q e h = absurd q
calling_by c (Ending o) a m q e h = absurd q
calling_by c Closed a m q e h = absurd q

-- a machine that awaits an answer stands by at the action of its course
pub awaiting_by : (c : Course) (a : shared.Action) (m : Machine) → machines.Stands c m → machines.IsWaiting m → stand_of c.place ≡ meaning.At a → StandsBy c a m
awaiting_by c a m s w e = calling_by c c.place a m (at_request c m s w) e (record { at = e; awaits = record { stands = s; waiting = w } })

-- also where its action was taken out
pub handed_by : (c : Course) (a : shared.Action) (m n : Machine) → machines.Stands c m → machines.IsWaiting m → n ≡ record m { action = None } → stand_of c.place ≡ meaning.At a → StandsBy c a n
handed_by c a m n s w e at = awaiting_by c a n (stands_handed c m n e s) (ap (λ (x : Machine). x.standing) e ∙ w) at

-- ---- by the action that is answered

pub take_waits : (c : Course) (a : Action) (m : Machine) → a ≡ action.Take → StandsBy c (action_of a) m → IsWaiting c shared.Take m
take_waits c a m e h = subst (λ (b : Action). StandsBy c (action_of b) m) e h

pub awaits_answer : (c : Course) (a : Action) (m : Machine) → (a ≡ action.Take → ⊥) → ((o : Outcome) → a ≡ action.End o → ⊥) → StandsBy c (action_of a) m → IsAwaiting c m
awaits_answer c action.Take m t f h = absurd (t refl)
awaits_answer c (action.End o) m t f h = absurd (f o refl)
awaits_answer c action.Create m t f h = h.awaits
awaits_answer c (action.CreateQueue n) m t f h = h.awaits
awaits_answer c (action.Put q p) m t f h = h.awaits
awaits_answer c (action.PutNow q p) m t f h = h.awaits
awaits_answer c (action.Get q) m t f h = h.awaits
awaits_answer c (action.GetNow q) m t f h = h.awaits
awaits_answer c (action.Size q) m t f h = h.awaits
awaits_answer c (action.Prepare i b) m t f h = h.awaits
awaits_answer c (action.Start i x) m t f h = h.awaits
awaits_answer c (action.Await r) m t f h = h.awaits
awaits_answer c (action.IsRunning i) m t f h = h.awaits
awaits_answer c (action.Close i) m t f h = h.awaits
awaits_answer c action.ListAll m t f h = h.awaits

-- ---- answers that fit

-- a job is given to Take alone
job_fits : (j : shared.Job) (a : Action) → fits (shared.Given j) (action_of a) ≡ true → a ≡ action.Take
job_fits j action.Take e = refl
job_fits j (action.End o) e = cc
job_fits j action.Create e = cc
job_fits j (action.CreateQueue n) e = cc
job_fits j (action.Put q p) e = cc
job_fits j (action.PutNow q p) e = cc
job_fits j (action.Get q) e = cc
job_fits j (action.GetNow q) e = cc
job_fits j (action.Size q) e = cc
job_fits j (action.Prepare i b) e = cc
job_fits j (action.Start i t) e = cc
job_fits j (action.Await r) e = cc
job_fits j (action.IsRunning i) e = cc
job_fits j (action.Close i) e = cc
job_fits j action.ListAll e = cc

-- what answers a request is as requests take it
same_answer : (r : shared.Answer) (a : Action) → (a ≡ action.Take → ⊥) → fits r (action_of a) ≡ true → given.answer_in r ≡ answer_in r
same_answer (shared.Given j) a n e = absurd (n (job_fits j a e))
same_answer shared.Done a n e = refl
same_answer shared.Limit a n e = refl
same_answer (shared.Created i) a n e = refl
same_answer (shared.QueueMade q) a n e = refl
same_answer (shared.Started r) a n e = refl
same_answer shared.Full a n e = refl
same_answer shared.Empty a n e = refl
same_answer (shared.Item p) a n e = refl
same_answer (shared.Count k) a n e = refl
same_answer shared.NotFound a n e = refl
same_answer shared.Running a n e = refl
same_answer shared.Current a n e = refl
same_answer shared.Main a n e = refl
same_answer (shared.Ended q) a n e = refl
same_answer (shared.Truth b) a n e = refl
same_answer (shared.Ids l) a n e = refl

pub same_given : (r : Answer) (a : Action) → (a ≡ action.Take → ⊥) → fits (answer_of r) (action_of a) ≡ true → given.answer_in (answer_of r) ≡ answer_in (answer_of r)
same_given r a n e = same_answer (answer_of r) a n e

-- the end of a run is answered by Done
pub is_done : (r : shared.Answer) (o : language.Outcome) → fits r (shared.End o) ≡ true → answer_in r ≡ world.Done
is_done (shared.Given j) o e = cc
is_done shared.Done o e = refl
is_done shared.Limit o e = cc
is_done (shared.Created i) o e = cc
is_done (shared.QueueMade q) o e = cc
is_done (shared.Started r) o e = cc
is_done shared.Full o e = cc
is_done shared.Empty o e = cc
is_done (shared.Item p) o e = cc
is_done (shared.Count n) o e = cc
is_done shared.NotFound o e = cc
is_done shared.Running o e = cc
is_done shared.Current o e = cc
is_done shared.Main o e = cc
is_done (shared.Ended q) o e = cc
is_done (shared.Truth b) o e = cc
is_done (shared.Ids l) o e = cc
