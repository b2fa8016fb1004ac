-- What is known of an answer that the book has given.
use Rattle.std.specs.Prelude.{◌≡◌, true, ⊤}
use Rattle.si_semantics.specs.Actions.{Action, fits}
use Rattle.si_parcel.specs.Shared.{answer_of}
use Rattle.si_workers.specs.declared.acted.Acted.{Acted}
use Rattle.si_workers.specs.declared.acted.Acted.TheVariants as acted

-- an answer is one that the action may be given
abbrev pub FitsActed : Acted → Action → Type 0
FitsActed (acted.Answered r) a = fits (answer_of r) a ≡ true
FitsActed _ a = ⊤
