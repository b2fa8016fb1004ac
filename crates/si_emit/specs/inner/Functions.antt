-- The functions of a script, one after the other. Devices of the proofs: si_slots/specs/Code.antt says what their code is.
use Rattle.std.specs.Prelude.{◌≡◌, ℕ, ◌+◌, List, [], ◌∷◌, ◌++◌, length, Some, slice_get}
use Rattle.std.specs.List.{flat_map, fold}
use Rattle.si_plain.specs.Names.{with_name}
use Rattle.si_semantics.specs.Value.{Text}
use Rattle.si_semantics.specs.Tree.{Function}
use Rattle.si_slots.specs.Code.{functions_code, entries_from}
use Rattle.si_slots.specs.Contents.{Contents}
use Rattle.si_slots.specs.declared.literal.Literal.{Literal}
use Rattle.si_slots.specs.Machine as machine
use Rattle.si_slots.specs.Views.{code_of, entries_of, literals_of, names_of}

-- the functions stand in a row among all, the first of them at this number
abbrev pub StandAt : List Function → ℕ → List Function → Type 0
StandAt all number [] = Unit {0}
StandAt all number (f ∷ fs) = (slice_get all number ≡ Some f) × StandAt all (number + 1) fs

-- the literals and the names that an instruction speaks of, whatever function it is of
abbrev pub owned_literals : machine.Owned → List Literal
owned_literals i = literals_of i.instr

abbrev pub owned_names : machine.Owned → List Text
owned_names i = names_of i.instr

-- a table has this code more, with its literals in order and a slot for each global that had none, and functions with these
-- entries; the function whose code is being added may be another
pub record GainsRoutines (old new : Contents) (code : List machine.Owned) (entries : List machine.Entry) : Type 0 where
  pub lines : code_of new ≡ code_of old ++ code
  pub literals : new.literals ≡ old.literals ++ flat_map owned_literals code
  pub names : new.names ≡ fold with_name old.names (flat_map owned_names code)
  pub more : entries_of new ≡ entries_of old ++ entries

-- a table has the code and the entries of these functions more
abbrev pub GainsFunctions : (old new : Contents) → List Function → Type 0
GainsFunctions old new fs = GainsRoutines old new (functions_code fs) (entries_from (length old.lines) fs)
