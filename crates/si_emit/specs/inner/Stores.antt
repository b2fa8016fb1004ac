-- To set an item, and to append one, by one instruction. Devices of the proofs: si_slots/specs/Code.antt says what the code of a statement is.
use Rattle.std.specs.Prelude.{List, [], ◌∷◌, Option, Some, None, Bool, false}
use Rattle.si_semantics.specs.Value.{Text}
use Rattle.si_semantics.specs.Text.{same_text}
use Rattle.si_semantics.specs.Attributes as attributes
use Rattle.si_semantics.specs.Attributes.{method_name}
use Rattle.si_slots.specs.Machine as machine
use Rattle.si_slots.specs.Machine.{Source, Instr}

-- the instruction, where the value, the object and the index are in place
abbrev pub stored : (value object index : Option Source) → Option Instr
stored (Some a) (Some b) (Some c) = Some (machine.StoreItem a b c)
stored (Some a) (Some b) None = None
stored (Some a) None o = None
stored None o p = None

-- an instruction, where there is one, or else this code
abbrev pub one_or : Option Instr → List Instr → List Instr
one_or (Some i) code = i ∷ []
one_or None code = code

-- a call of the method `append`, by the name of the attribute that is called and those of arguments
abbrev pub names_append : Option Text → List Text → Bool
names_append (Some y) [] = same_text y (method_name attributes.Append)
names_append y names = false
