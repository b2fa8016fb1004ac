-- Which answer says that an interpreter was created.
use Rattle.std.specs.Prelude.{Bool, true, false}
use Rattle.si_semantics.specs.Actions.{Answer, Created}

abbrev pub is_created : Answer → Bool
is_created (Created i) = true
is_created _ = false
