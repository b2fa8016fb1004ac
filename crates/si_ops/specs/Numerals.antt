-- The integers that texts write.
use Rattle.std.specs.Prelude.{ℕ, ℤ, pos, neg_ℤ, Bool, if◌then◌else◌}

-- an integer by its size, below 0 or not
abbrev pub signed_number : Bool → ℕ → ℤ
signed_number negative n = if negative then neg_ℤ (pos n) else pos n
