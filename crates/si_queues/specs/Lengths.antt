-- How many items a queue holds.
use Rattle.std.specs.Prelude.{ℕ, length, Option, Some, None}
use Rattle.si_semantics.specs.Shared.{Queue}

-- none where there is no queue
abbrev pub len_of : Option Queue → Option ℕ
len_of None = None
len_of (Some l) = Some (length l.items)
