use Rattle.si_semantics.proofs.Further.{gone_stays}
use Rattle.si_semantics.proofs.laws.gone_stays.Goals as goal

pub returns : goal.returns
returns c = gone_stays
