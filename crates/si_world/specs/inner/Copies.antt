-- What is asked of interpreters that are copied.
use Rattle.std.specs.Prelude.{◌≡◌, ℕ, List, false, slice_get, Some}
use Rattle.si_interp.specs.Meaning.{InterpView}

-- none has handed out its action
abbrev pub AllFree : List InterpView → Type 0
AllFree vs = (i : ℕ) (v : InterpView) → slice_get vs i ≡ Some v → v.taken ≡ false
