use Rattle.si_semantics.proofs.Journals.{within_limits}
use Rattle.si_semantics.proofs.sharing.within_limits.Goals as goal

pub returns : goal.returns
returns c = within_limits
