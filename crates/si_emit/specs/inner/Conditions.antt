-- Tests whose jumps are not aimed yet. Devices of the proofs: si_slots/specs/Code.antt says what the code is.
use Rattle.std.specs.Prelude.{List, ℕ, ◌++◌, length, Bool, true, false}
use Rattle.si_semantics.specs.Value.{Text}
use Rattle.si_semantics.specs.Tree as tree
use Rattle.si_slots.specs.Machine.{Ahead, ToJump, Instr}
use Rattle.si_slots.specs.Code.{condition_code}
use Rattle.si_slots.specs.Contents.{Contents}
use Rattle.si_slots.specs.Views.{Gains}
use Rattle.si_slots.specs.inner.Jumps.{Due}

-- whether an expression is an `and` or an `or`
abbrev pub is_row : tree.Expr → Bool
is_row (tree.Boolean o a more) = true
is_row a = false

-- after what an old table had, a new one has code whose jumps at these places lead past what comes next: with that after
-- it, and the jumps aimed, it is this code
abbrev pub Opens : Contents → List ℕ → (List Instr → List Instr) → Contents → Type 0
Opens old jumps code new = (end : Contents) (rest : List Instr) → Gains new end rest → Due old jumps (code rest) end

-- a statement's test, which leads past what comes next where it isn't true
abbrev pub skipping : List Text → tree.Expr → List Instr → List Instr
skipping ls a rest = condition_code ls a (ToJump false (Ahead (length rest))) ++ rest
