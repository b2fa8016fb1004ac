-- What contracts see of the registry: the interpreters and the runs of the shared state (si_semantics/specs/Shared.antt).
use Rattle.std.specs.Prelude.{ℕ, [], ◌∷◌, ◌++◌, length, Option, Some, None, slice_set}
use Rattle.si_semantics.specs.Life as life
use Rattle.si_semantics.specs.Actions.{Run}
use Rattle.si_semantics.specs.Shared as shared
use Rattle.si_semantics.specs.Shared.{Interpreter, Running}
use Rattle.si_semantics.specs.Value.{Text}
use Rattle.si_parcel.specs.declared.outcome.Outcome.{Outcome}
use Rattle.si_parcel.specs.Shared.{outcome_of}
use Rattle.si_registry.specs.RegistryCode.{Registered}
use Rattle.si_registry.specs.declared.interpreter.Standing.{Standing}
use Rattle.si_registry.specs.declared.interpreter.Standing.TheVariants as standing

-- the standing that a value stands for
abbrev pub standing_of : Standing → shared.Standing
standing_of standing.Idle = shared.Idle
standing_of (standing.Running run) = shared.Running run
standing_of standing.Closed = shared.Closed

-- the outcome that a run has, if it has one
abbrev pub ended_of : Option Outcome → Option life.Outcome
ended_of None = None
ended_of (Some o) = Some (outcome_of o)

-- interpreter i is this one from now on
abbrev pub with_interpreter : ℕ → Interpreter → Registered → Registered
with_interpreter i m r = record { interpreters = slice_set r.interpreters i m; runs = r.runs }

-- a run of this text, which is m's from now on
abbrev pub with_run : ℕ → Interpreter → Text → Registered → Registered
with_run i m text r = record {
  interpreters = slice_set r.interpreters i (record { standing = Running (length r.runs); inbox = m.inbox ++ Run (length r.runs) text ∷ [] });
  runs = r.runs ++ None ∷ [];
}
