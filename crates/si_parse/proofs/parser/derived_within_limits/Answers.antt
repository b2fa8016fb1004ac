use Rattle.si_parse.proofs.Limits.{derived_within}
use Rattle.si_parse.proofs.parser.derived_within_limits.Goals as goal

pub returns : goal.returns
returns c = derived_within
