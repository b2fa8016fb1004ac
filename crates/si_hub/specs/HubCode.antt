-- How states, calls and views of a hub are told apart, for the contracts of types that hold them: a device. What they
-- are stands in si_semantics/specs/Shared.antt and History.antt.
use Rattle.std.specs.Prelude.{ℕ, List, Bool, Option, ◌≡◌, ◌⊎◌}
use Rattle.std.specs.Coded.{Coded, code_by, coded×, coded_ℕ, coded_bool, coded_list, coded⊎, coded_option}
use base.Stored.{coded_unit}
use mathlib.Core.Logic.{inl, inr}
use mathlib.Core.Path.{refl}
use Rattle.si_plain.specs.Ranges.{Numbers}
use Rattle.si_semantics.specs.Value.{Text}
use Rattle.si_semantics.specs.Parcels.{Tree}
use Rattle.si_semantics.specs.Life.{Outcome}
use Rattle.si_semantics.specs.Actions.{Job, Action, Create, CreateQueue, Put, PutNow, Get, GetNow, Size, Prepare, Start, Await, IsRunning, Close, ListAll, Take, End, Answer, Limit, Created, QueueMade, Started, Done, Full, Empty, Item, Count, NotFound, Running, Current, Main, Ended, Truth, Ids, Given}
use Rattle.si_semantics.specs.Shared.{Queue, Interpreter, State}
use Rattle.si_semantics.specs.History.{Call}
use Rattle.si_parcel.specs.TreeCode.{tree_code}
use Rattle.si_queues.specs.QueueCode.{queue_code}
use Rattle.si_registry.specs.RegistryCode.{outcome_code, job_code, interpreter_code}

abbrev text_code : Coded Text
text_code = coded_list coded_ℕ

abbrev binds_code : Coded (List (Text × Tree))
binds_code = coded_list (coded× text_code tree_code)

abbrev ActionParts : Type 0
ActionParts = Unit {0} ⊎ (ℕ ⊎ ((ℕ × Tree) ⊎ ((ℕ × Tree) ⊎ (ℕ ⊎ (ℕ ⊎ (ℕ ⊎ ((ℕ × List (Text × Tree)) ⊎ ((ℕ × Text) ⊎ (ℕ ⊎ (ℕ ⊎ (ℕ ⊎ (Unit {0} ⊎ (Unit {0} ⊎ Outcome)))))))))))))

abbrev action_parts : Action → ActionParts
action_parts Create = inl tt
action_parts (CreateQueue a) = inr (inl a)
action_parts (Put a b) = inr (inr (inl (a, b)))
action_parts (PutNow a b) = inr (inr (inr (inl (a, b))))
action_parts (Get a) = inr (inr (inr (inr (inl a))))
action_parts (GetNow a) = inr (inr (inr (inr (inr (inl a)))))
action_parts (Size a) = inr (inr (inr (inr (inr (inr (inl a))))))
action_parts (Prepare a b) = inr (inr (inr (inr (inr (inr (inr (inl (a, b))))))))
action_parts (Start a b) = inr (inr (inr (inr (inr (inr (inr (inr (inl (a, b)))))))))
action_parts (Await a) = inr (inr (inr (inr (inr (inr (inr (inr (inr (inl a)))))))))
action_parts (IsRunning a) = inr (inr (inr (inr (inr (inr (inr (inr (inr (inr (inl a))))))))))
action_parts (Close a) = inr (inr (inr (inr (inr (inr (inr (inr (inr (inr (inr (inl a)))))))))))
action_parts ListAll = inr (inr (inr (inr (inr (inr (inr (inr (inr (inr (inr (inr (inl tt))))))))))))
action_parts Take = inr (inr (inr (inr (inr (inr (inr (inr (inr (inr (inr (inr (inr (inl tt)))))))))))))
action_parts (End a) = inr (inr (inr (inr (inr (inr (inr (inr (inr (inr (inr (inr (inr (inr a)))))))))))))

abbrev action_of : ActionParts → Action
action_of (inl _) = Create
action_of (inr (inl p)) = CreateQueue p
action_of (inr (inr (inl p))) = Put p.0 p.1
action_of (inr (inr (inr (inl p)))) = PutNow p.0 p.1
action_of (inr (inr (inr (inr (inl p))))) = Get p
action_of (inr (inr (inr (inr (inr (inl p)))))) = GetNow p
action_of (inr (inr (inr (inr (inr (inr (inl p))))))) = Size p
action_of (inr (inr (inr (inr (inr (inr (inr (inl p)))))))) = Prepare p.0 p.1
action_of (inr (inr (inr (inr (inr (inr (inr (inr (inl p))))))))) = Start p.0 p.1
action_of (inr (inr (inr (inr (inr (inr (inr (inr (inr (inl p)))))))))) = Await p
action_of (inr (inr (inr (inr (inr (inr (inr (inr (inr (inr (inl p))))))))))) = IsRunning p
action_of (inr (inr (inr (inr (inr (inr (inr (inr (inr (inr (inr (inl p)))))))))))) = Close p
action_of (inr (inr (inr (inr (inr (inr (inr (inr (inr (inr (inr (inr (inl _))))))))))))) = ListAll
action_of (inr (inr (inr (inr (inr (inr (inr (inr (inr (inr (inr (inr (inr (inl _)))))))))))))) = Take
action_of (inr (inr (inr (inr (inr (inr (inr (inr (inr (inr (inr (inr (inr (inr p)))))))))))))) = End p

pub action_of-parts : (x : Action) → action_of (action_parts x) ≡ x
action_of-parts Create = refl
action_of-parts (CreateQueue a) = refl
action_of-parts (Put a b) = refl
action_of-parts (PutNow a b) = refl
action_of-parts (Get a) = refl
action_of-parts (GetNow a) = refl
action_of-parts (Size a) = refl
action_of-parts (Prepare a b) = refl
action_of-parts (Start a b) = refl
action_of-parts (Await a) = refl
action_of-parts (IsRunning a) = refl
action_of-parts (Close a) = refl
action_of-parts ListAll = refl
action_of-parts Take = refl
action_of-parts (End a) = refl

abbrev pub action_code : Coded Action
action_code = code_by ActionParts (coded⊎ coded_unit (coded⊎ coded_ℕ (coded⊎ (coded× coded_ℕ tree_code) (coded⊎ (coded× coded_ℕ tree_code) (coded⊎ coded_ℕ (coded⊎ coded_ℕ (coded⊎ coded_ℕ (coded⊎ (coded× coded_ℕ binds_code) (coded⊎ (coded× coded_ℕ text_code) (coded⊎ coded_ℕ (coded⊎ coded_ℕ (coded⊎ coded_ℕ (coded⊎ coded_unit (coded⊎ coded_unit outcome_code)))))))))))))) action_parts action_of action_of-parts

abbrev AnswerParts : Type 0
AnswerParts = Unit {0} ⊎ (ℕ ⊎ (ℕ ⊎ (ℕ ⊎ (Unit {0} ⊎ (Unit {0} ⊎ (Unit {0} ⊎ (Tree ⊎ (ℕ ⊎ (Unit {0} ⊎ (Unit {0} ⊎ (Unit {0} ⊎ (Unit {0} ⊎ (Outcome ⊎ (Bool ⊎ (List ℕ ⊎ Job)))))))))))))))

abbrev answer_parts : Answer → AnswerParts
answer_parts Limit = inl tt
answer_parts (Created a) = inr (inl a)
answer_parts (QueueMade a) = inr (inr (inl a))
answer_parts (Started a) = inr (inr (inr (inl a)))
answer_parts Done = inr (inr (inr (inr (inl tt))))
answer_parts Full = inr (inr (inr (inr (inr (inl tt)))))
answer_parts Empty = inr (inr (inr (inr (inr (inr (inl tt))))))
answer_parts (Item a) = inr (inr (inr (inr (inr (inr (inr (inl a)))))))
answer_parts (Count a) = inr (inr (inr (inr (inr (inr (inr (inr (inl a))))))))
answer_parts NotFound = inr (inr (inr (inr (inr (inr (inr (inr (inr (inl tt)))))))))
answer_parts Running = inr (inr (inr (inr (inr (inr (inr (inr (inr (inr (inl tt))))))))))
answer_parts Current = inr (inr (inr (inr (inr (inr (inr (inr (inr (inr (inr (inl tt)))))))))))
answer_parts Main = inr (inr (inr (inr (inr (inr (inr (inr (inr (inr (inr (inr (inl tt))))))))))))
answer_parts (Ended a) = inr (inr (inr (inr (inr (inr (inr (inr (inr (inr (inr (inr (inr (inl a)))))))))))))
answer_parts (Truth a) = inr (inr (inr (inr (inr (inr (inr (inr (inr (inr (inr (inr (inr (inr (inl a))))))))))))))
answer_parts (Ids a) = inr (inr (inr (inr (inr (inr (inr (inr (inr (inr (inr (inr (inr (inr (inr (inl a)))))))))))))))
answer_parts (Given a) = inr (inr (inr (inr (inr (inr (inr (inr (inr (inr (inr (inr (inr (inr (inr (inr a)))))))))))))))

abbrev answer_of : AnswerParts → Answer
answer_of (inl _) = Limit
answer_of (inr (inl p)) = Created p
answer_of (inr (inr (inl p))) = QueueMade p
answer_of (inr (inr (inr (inl p)))) = Started p
answer_of (inr (inr (inr (inr (inl _))))) = Done
answer_of (inr (inr (inr (inr (inr (inl _)))))) = Full
answer_of (inr (inr (inr (inr (inr (inr (inl _))))))) = Empty
answer_of (inr (inr (inr (inr (inr (inr (inr (inl p)))))))) = Item p
answer_of (inr (inr (inr (inr (inr (inr (inr (inr (inl p))))))))) = Count p
answer_of (inr (inr (inr (inr (inr (inr (inr (inr (inr (inl _)))))))))) = NotFound
answer_of (inr (inr (inr (inr (inr (inr (inr (inr (inr (inr (inl _))))))))))) = Running
answer_of (inr (inr (inr (inr (inr (inr (inr (inr (inr (inr (inr (inl _)))))))))))) = Current
answer_of (inr (inr (inr (inr (inr (inr (inr (inr (inr (inr (inr (inr (inl _))))))))))))) = Main
answer_of (inr (inr (inr (inr (inr (inr (inr (inr (inr (inr (inr (inr (inr (inl p)))))))))))))) = Ended p
answer_of (inr (inr (inr (inr (inr (inr (inr (inr (inr (inr (inr (inr (inr (inr (inl p))))))))))))))) = Truth p
answer_of (inr (inr (inr (inr (inr (inr (inr (inr (inr (inr (inr (inr (inr (inr (inr (inl p)))))))))))))))) = Ids p
answer_of (inr (inr (inr (inr (inr (inr (inr (inr (inr (inr (inr (inr (inr (inr (inr (inr p)))))))))))))))) = Given p

pub answer_of-parts : (x : Answer) → answer_of (answer_parts x) ≡ x
answer_of-parts Limit = refl
answer_of-parts (Created a) = refl
answer_of-parts (QueueMade a) = refl
answer_of-parts (Started a) = refl
answer_of-parts Done = refl
answer_of-parts Full = refl
answer_of-parts Empty = refl
answer_of-parts (Item a) = refl
answer_of-parts (Count a) = refl
answer_of-parts NotFound = refl
answer_of-parts Running = refl
answer_of-parts Current = refl
answer_of-parts Main = refl
answer_of-parts (Ended a) = refl
answer_of-parts (Truth a) = refl
answer_of-parts (Ids a) = refl
answer_of-parts (Given a) = refl

abbrev pub answer_code : Coded Answer
answer_code = code_by AnswerParts (coded⊎ coded_unit (coded⊎ coded_ℕ (coded⊎ coded_ℕ (coded⊎ coded_ℕ (coded⊎ coded_unit (coded⊎ coded_unit (coded⊎ coded_unit (coded⊎ tree_code (coded⊎ coded_ℕ (coded⊎ coded_unit (coded⊎ coded_unit (coded⊎ coded_unit (coded⊎ coded_unit (coded⊎ outcome_code (coded⊎ coded_bool (coded⊎ text_code job_code)))))))))))))))) answer_parts answer_of answer_of-parts

abbrev pub state_code : Coded State
state_code = code_by (List Queue × (List Interpreter × List (Option Outcome))) (coded× (coded_list queue_code) (coded× (coded_list interpreter_code) (coded_list (coded_option outcome_code)))) (λ s. (s.queues, (s.interpreters, s.runs))) (λ p. record { queues = p.0; interpreters = p.1.0; runs = p.1.1 }) (λ _. refl)

abbrev pub call_code : Coded Call
call_code = code_by (ℕ × (Action × Answer)) (coded× coded_ℕ (coded× action_code answer_code)) (λ c. (c.by, (c.action, c.answer))) (λ p. record { by = p.0; action = p.1.0; answer = p.1.1 }) (λ _. refl)

-- what a hub was made from, and the calls that were made of it, in order
pub record Past : Type 0 where
  pub script : Text
  pub limits : Numbers
  pub journal : List Call

-- what contracts see of a hub: its past, and for how many calls its journal has room
pub record HubView : Type 0 where
  pub past : Past
  pub spare : ℕ

abbrev pub numbers_code : Coded Numbers
numbers_code = code_by (ℕ × ℕ) (coded× coded_ℕ coded_ℕ) (λ n. (n.interpreters, n.turns)) (λ p. record { interpreters = p.0; turns = p.1 }) (λ _. refl)

abbrev pub past_code : Coded Past
past_code = code_by (Text × (Numbers × List Call)) (coded× text_code (coded× numbers_code (coded_list call_code))) (λ p. (p.script, (p.limits, p.journal))) (λ q. record { script = q.0; limits = q.1.0; journal = q.1.1 }) (λ _. refl)

abbrev pub hub_code : Coded HubView
hub_code = code_by (Past × ℕ) (coded× past_code coded_ℕ) (λ h. (h.past, h.spare)) (λ p. record { past = p.0; spare = p.1 }) (λ _. refl)
