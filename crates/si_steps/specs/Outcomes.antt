-- How a run ended (this project's own).
use Rattle.si_semantics.specs.Life as life
use Rattle.si_steps.specs.declared.step.Outcome.{Outcome}
use Rattle.si_steps.specs.declared.step.Outcome.TheVariants.{Returned, Raised}

-- an outcome, as a life tells it
abbrev pub told : Outcome → life.Outcome
told Returned = life.Returned
told (Raised kind message) = life.Raised kind message
