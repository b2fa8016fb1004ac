-- The counts of a place are small.
use Rattle.std.specs.Prelude.{◌+◌, ◌≤◌}
use Rattle.si_token.specs.declared.layout.Place.{Place}

-- no count is larger than the number of bytes before
pub record IsWithin (p : Place) : Type 0 where
  pub line : p.line ≤ p.at + 1
  pub column : p.column ≤ p.at
  pub brackets : p.brackets ≤ p.at
