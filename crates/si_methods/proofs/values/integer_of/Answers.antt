use Rattle.std.proofs.Common.{◌∙◌}
use Rattle.si_plain.proofs.IntegerFacts.{in_range_from_checked}
use Rattle.si_methods.proofs.values.integer_of.Goals as goal

pub returns : goal.returns
returns c = c.ok_or.ensures.value ∙ in_range_from_checked _ _ c.signed.ensures
