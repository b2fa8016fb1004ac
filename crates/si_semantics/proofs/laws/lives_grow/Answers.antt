use Rattle.si_semantics.proofs.Further.{lives_grow}
use Rattle.si_semantics.proofs.laws.lives_grow.Goals as goal

pub returns : goal.returns
returns c = lives_grow
