-- The values of literals as functions on characters, which the code computes.
use Rattle.std.specs.Prelude.{ℕ, ◌++◌, Bool, true, false, Option, Some, drop, option_map}
use Rattle.si_semantics.specs.Value.{Text}
use Rattle.si_semantics.specs.Literals.{unescaped}

-- the value of the rest of a body, after so many characters that belong to an escape before
abbrev pub value_after : (bytes raw : Bool) → ℕ → Text → Option Text
value_after bytes true skipped cs = Some (drop skipped cs)
value_after bytes false skipped cs = unescaped bytes skipped cs

-- the same, after the text that was read before
abbrev pub value_from : (bytes : Bool) → Text → (raw : Bool) → ℕ → Text → Option Text
value_from bytes text raw skipped cs = option_map (λ value. text ++ value) (value_after bytes raw skipped cs)
