use Rattle.si_semantics.proofs.Journals.{closed_stays}
use Rattle.si_semantics.proofs.sharing.closed_stays.Goals as goal

pub returns : goal.returns
returns c = closed_stays
