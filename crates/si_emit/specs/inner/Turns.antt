-- The ends of loops. Devices of the proofs: si_slots/specs/Code.antt says what the code of a loop is.
use Rattle.std.specs.Prelude.{List, [], ◌∷◌, ◌++◌, ℕ, ◌+◌, length, true}
use Rattle.si_slots.specs.Machine as machine
use Rattle.si_slots.specs.Machine.{Back, Target, ToJump, Instr}

-- the test of a `while`, which leads back to before its suite of so many instructions, and the end of its block
abbrev pub turn_code : (Target → List Instr) → ℕ → List Instr
turn_code test far = test (ToJump true (Back (far + length (test (ToJump true (Back 0)))))) ++ machine.LeaveBlock ∷ []
