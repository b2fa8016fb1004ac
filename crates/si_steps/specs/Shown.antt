-- What hosts are shown of globals (this project's own).
use Rattle.std.specs.Prelude.{◌≡◌, Option, Some, None, Result, Ok, Err, option_map}
use Rattle.si_plain.specs.declared.kind.Kind.{Kind}
use Rattle.si_semantics.specs.Value.{Text}
use Rattle.si_semantics.specs.Text.{repr_in}
use Rattle.si_semantics.specs.World.{World}
use Rattle.si_steps.specs.declared.showing.NotShown.{NotShown}
use Rattle.si_steps.specs.declared.showing.NotShown.TheVariants.{Raises, NoMemory}

-- what is shown of a global of a world: the repr of its value, or the kind of the exception that `repr` raises; nothing, where
-- nothing is bound to the name
abbrev pub shown_in : World → Text → Option (Result Text Kind)
shown_in w x = option_map (repr_in w.store) (w.globals x)

-- a text was shown, or it was told why it can't be written; or memory was refused
abbrev pub IsShown : Result Text Kind → Result Text NotShown → Type 0
IsShown r (Ok t) = r ≡ Ok t
IsShown r (Err (Raises k)) = r ≡ Err k
IsShown r (Err NoMemory) = Unit {0}

-- the same where there may be nothing to show
abbrev pub ShowsGlobal : Option (Result Text Kind) → Result (Option Text) NotShown → Type 0
ShowsGlobal o (Ok None) = o ≡ None
ShowsGlobal o (Ok (Some t)) = o ≡ Some (Ok t)
ShowsGlobal o (Err (Raises k)) = o ≡ Some (Err k)
ShowsGlobal o (Err NoMemory) = Unit {0}
