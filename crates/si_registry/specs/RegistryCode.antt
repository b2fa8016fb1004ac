-- How interpreters and runs are told apart, for the contracts of types that hold them: a device. What they are stands in
-- si_semantics/specs/Shared.antt.
use Rattle.std.specs.Prelude.{ℕ, List, Option, ◌≡◌, ◌⊎◌}
use Rattle.std.specs.Coded.{Coded, code_by, coded×, coded_ℕ, coded_list, coded⊎, coded_option}
use base.Stored.{coded_unit}
use mathlib.Core.Logic.{inl, inr}
use mathlib.Core.Path.{refl}
use Rattle.si_plain.specs.declared.kind.Kind.{Kind}
use Rattle.si_plain.specs.contracts.kind.Kind.{the_row as kind_row}
use Rattle.si_semantics.specs.Value.{Text}
use Rattle.si_semantics.specs.Parcels.{Tree}
use Rattle.si_semantics.specs.Life.{Outcome, Returned, Raised}
use Rattle.si_semantics.specs.Actions.{Job, Bind, Run, Closing}
use Rattle.si_semantics.specs.Shared.{Standing, Idle, Running, Closed, Interpreter}
use Rattle.si_parcel.specs.TreeCode.{tree_code}

abbrev text_code : Coded Text
text_code = coded_list coded_ℕ

abbrev binds_code : Coded (List (Text × Tree))
binds_code = coded_list (coded× text_code tree_code)

abbrev OutcomeParts : Type 0
OutcomeParts = Unit {0} ⊎ (Kind × Text)

abbrev outcome_parts : Outcome → OutcomeParts
outcome_parts Returned = inl tt
outcome_parts (Raised a b) = inr (a, b)

abbrev outcome_of : OutcomeParts → Outcome
outcome_of (inl _) = Returned
outcome_of (inr p) = Raised p.0 p.1

pub outcome_of-parts : (x : Outcome) → outcome_of (outcome_parts x) ≡ x
outcome_of-parts Returned = refl
outcome_of-parts (Raised a b) = refl

abbrev pub outcome_code : Coded Outcome
outcome_code = code_by OutcomeParts (coded⊎ coded_unit (coded× kind_row.coded text_code)) outcome_parts outcome_of outcome_of-parts

abbrev JobParts : Type 0
JobParts = List (Text × Tree) ⊎ ((ℕ × Text) ⊎ Unit {0})

abbrev job_parts : Job → JobParts
job_parts (Bind a) = inl a
job_parts (Run a b) = inr (inl (a, b))
job_parts Closing = inr (inr tt)

abbrev job_of : JobParts → Job
job_of (inl p) = Bind p
job_of (inr (inl p)) = Run p.0 p.1
job_of (inr (inr _)) = Closing

pub job_of-parts : (x : Job) → job_of (job_parts x) ≡ x
job_of-parts (Bind a) = refl
job_of-parts (Run a b) = refl
job_of-parts Closing = refl

abbrev pub job_code : Coded Job
job_code = code_by JobParts (coded⊎ binds_code (coded⊎ (coded× coded_ℕ text_code) coded_unit)) job_parts job_of job_of-parts

abbrev StandingParts : Type 0
StandingParts = Unit {0} ⊎ (ℕ ⊎ Unit {0})

abbrev standing_parts : Standing → StandingParts
standing_parts Idle = inl tt
standing_parts (Running a) = inr (inl a)
standing_parts Closed = inr (inr tt)

abbrev standing_of : StandingParts → Standing
standing_of (inl _) = Idle
standing_of (inr (inl p)) = Running p
standing_of (inr (inr _)) = Closed

pub standing_of-parts : (x : Standing) → standing_of (standing_parts x) ≡ x
standing_of-parts Idle = refl
standing_of-parts (Running a) = refl
standing_of-parts Closed = refl

abbrev pub standing_code : Coded Standing
standing_code = code_by StandingParts (coded⊎ coded_unit (coded⊎ coded_ℕ coded_unit)) standing_parts standing_of standing_of-parts

abbrev pub interpreter_code : Coded Interpreter
interpreter_code = code_by (Standing × List Job) (coded× standing_code (coded_list job_code)) (λ m. (m.standing, m.inbox)) (λ p. record { standing = p.0; inbox = p.1 }) (λ _. refl)

-- what contracts see of the registry
pub record Registered : Type 0 where
  pub interpreters : List Interpreter
  pub runs : List (Option Outcome)

abbrev pub registered_code : Coded Registered
registered_code = code_by (List Interpreter × List (Option Outcome)) (coded× (coded_list interpreter_code) (coded_list (coded_option outcome_code))) (λ r. (r.interpreters, r.runs)) (λ p. record { interpreters = p.0; runs = p.1 }) (λ _. refl)
