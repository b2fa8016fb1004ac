-- Except clauses up to the jump after them. Devices of the proofs: si_slots/specs/Code.antt says what their code is.
use Rattle.std.specs.Prelude.{◌+◌, List, [], ◌∷◌, ◌++◌, length, Option, Some, None, false}
use Rattle.si_semantics.specs.Value.{Text}
use Rattle.si_semantics.specs.Tree.{Expr}
use Rattle.si_slots.specs.Machine as machine
use Rattle.si_slots.specs.Machine.{Ahead, ToJump, Instr}
use Rattle.si_slots.specs.Code.{with_code}

-- an except clause with its suite, after its test where there is one, up to the jump past the other clauses
abbrev pub clause_front : List Text → Option Expr → List Instr → List Instr
clause_front ls None body = body ++ machine.LeaveBlock ∷ []
clause_front ls (Some a) body = with_code ls a (λ s. machine.TestClause (ToJump false (Ahead (length body + 2))) s) ++ (body ++ machine.LeaveBlock ∷ [])
