-- The life of an interpreter: one function of the answers that it is given (this project's own).
use Rattle.std.specs.Prelude.{codes, ℕ, zero, suc, ◌+◌, List, [], ◌∷◌, ◌++◌, length, map, Option, Some, None, slice_get}
use Rattle.si_plain.specs.declared.kind.Kind.{Kind}
use Rattle.si_plain.specs.declared.kind.Kind.TheVariants.{BaseException, SyntaxError}
use Rattle.si_semantics.specs.Value.{Text, Address, Object, Exception}
use Rattle.si_semantics.specs.Text.{str_in, message_of}
pub use Rattle.si_semantics.specs.World.{Outcome, Returned, Raised}
use Rattle.si_semantics.specs.World.{World, Request, Bind, Run, Closing, Answer, Taken, Done, bind_all, first_world}
use Rattle.si_semantics.specs.Tree.{Function, Stmts, functions_in}
use Rattle.si_semantics.specs.Meaning.{Piece, State, Leave, Raises, Returns, Breaks, Continues, Result, Gives, Leaves, Asks, Cut, Meaning, Scope, visit, stmts, call, max_calls}

-- an action at which an interpreter stands: it waits for a job, makes a request, or tells how its run ended
pub data Action : Type 0 where
  Take : Action
  Calls : Request → Action
  End : Outcome → Action

-- how far a life is told: it stands at an action, it is gone, or a loop wants one turn too many
pub data Told : Type 0 where
  Stops : Action → State → Told
  IsGone : State → Told
  IsCut : State → Told

-- the kind of an object that is an exception
abbrev pub kind_of : Option Object → Kind
kind_of (Some (Exception k a)) = k
kind_of _ = BaseException

-- the outcome of a run that was left; `return` stands in functions alone and `break` and `continue` in loops (Language
-- Reference, 7.6, 7.9 and 7.10), and leave no run
abbrev pub outcome_of : Leave → World → Outcome
outcome_of (Raises x) w = Raised (kind_of (slice_get w.store x)) (message_of (str_in w.store (Address x)))
outcome_of (Returns v) w = Returned
outcome_of Breaks w = Returned
outcome_of Continues w = Returned

-- the outcome of a run whose text is not read, or is not well scoped (Language Reference, 8.4; the message is this
-- project's own). A life is given trees: which text is read as which tree is said by `IsRead` (si_parse/specs/Modules),
-- which trees are well scoped by `is_scoped` (Scope), and both by `IsTaken` (si_reading/specs/Taken).
abbrev pub not_read : Outcome
not_read = Raised SyntaxError (codes "invalid syntax")

-- the end of a run is told, and its answer awaited; an answer that does not fit closes the interpreter
abbrev pub after_end : List Answer → Outcome → (State → Told) → State → Told
after_end [] o rest s = Stops (End o) (record s { answers = [] })
after_end (Done ∷ more) o rest s = rest (record s { answers = more })
after_end (a ∷ more) o rest s = IsGone (record s { answers = more })

-- to tell the end of a run is a visit
abbrev pub ends_with : Outcome → (State → Told) → State → Told
ends_with o rest s = after_end s.answers o rest (visit s)

-- a run's text has been evaluated
abbrev pub run_ended : (State → Told) → Result (Unit {0}) → Told
run_ended rest (Gives u s) = ends_with Returned rest s
run_ended rest (Leaves p s) = ends_with (outcome_of p s.world) rest s
run_ended rest (Asks r s) = Stops (Calls r) s
run_ended rest (Cut s) = IsCut s

-- a text is evaluated as a module: no name is local, no exception is active, and a loop has at most n turns; its
-- functions are numbered after those that were read before
abbrev pub module_scope : List Function → ℕ → ℕ → Scope
module_scope fs first n = record { locals = []; first = first; active = None; turns = n; call = call fs n max_calls }

-- the run of a text, where these functions were read before it
abbrev pub run_of : List Function → ℕ → Stmts → Meaning (Unit {0})
run_of fs n body s = stmts (module_scope (fs ++ functions_in body) (length fs) n) body s

-- a job is taken, where these functions were read before it; an answer that does not fit closes the interpreter
abbrev pub takes : ℕ → List Function → (List Function → State → Told) → List Answer → State → Told
takes n fs rest [] s = Stops Take (record s { answers = [] })
takes n fs rest (Taken (Bind bs) ∷ more) s = rest fs (record s { answers = more; world = record s.world { globals = bind_all bs s.world.globals } })
takes n fs rest (Taken (Run None) ∷ more) s = ends_with not_read (rest fs) (record s { answers = more })
takes n fs rest (Taken (Run (Some m)) ∷ more) s =
    run_ended (rest (fs ++ functions_in m.body)) (run_of fs n m.body (record s { answers = more; slots = [] }))
takes n fs rest (Taken Closing ∷ more) s = IsGone (record s { answers = more })
takes n fs rest (a ∷ more) s = IsGone (record s { answers = more })

-- a life of fewer than k jobs, where these functions were read before; to wait for a job is a visit
abbrev pub life : ℕ → ℕ → List Function → State → Told
life n zero fs s = IsCut s
life n (suc k) fs s = takes n fs (life n k) s.answers (visit s)

-- a new interpreter of a number
abbrev pub newborn : ℕ → List Answer → State
newborn own answers = record { world = first_world own; answers = answers; slots = []; visits = 0; pieces = [] }

-- the life of the interpreter of a number under these answers, with at most n turns of a loop
abbrev pub life_of : (own n : ℕ) → List Answer → Told
life_of own n answers = life n (length answers + 1) [] (newborn own answers)

-- the pieces that a life has printed
abbrev pub pieces_of : Told → List Piece
pieces_of (Stops a s) = s.pieces
pieces_of (IsGone s) = s.pieces
pieces_of (IsCut s) = s.pieces

-- what a life has printed, text by text
abbrev pub texts_of : Told → List Text
texts_of r = map (λ p. p.text) (pieces_of r)

-- texts, one after the other
abbrev pub joined : List Text → Text
joined [] = []
joined (t ∷ ts) = t ++ joined ts

-- where a life ends that is not cut, and after how many visits: at an action, or gone
abbrev pub end_of : Told → Option (Option Action × ℕ)
end_of (Stops a s) = Some (Some a, s.visits)
end_of (IsGone s) = Some (None, s.visits)
end_of (IsCut s) = None
