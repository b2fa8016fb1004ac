use Rattle.si_semantics.proofs.Further.{one_life}
use Rattle.si_semantics.proofs.laws.one_life.Goals as goal

pub returns : goal.returns
returns c = one_life
