use Rattle.std.proofs.Common.{◌∙◌, ap}
use Rattle.std.specs.Prelude.{is_some}
use Rattle.si_semantics.specs.Shareable.{parcel_of}
use Rattle.si_arena.specs.Memory.{value_of}
use Rattle.si_share.proofs.Longest.{longest_there}
use Rattle.si_share.proofs.outward.is_shareable.Goals as goal

pub returns : goal.returns
returns c = c.is_some.ensures ∙ ap is_some c.longest.ensures ∙ longest_there (parcel_of (value_of c.args.arena.now c.args.value))
