use Rattle.si_semantics.proofs.Names.{binding}
use Rattle.si_semantics.proofs.laws.binding.Goals as goal

pub returns : goal.returns
returns c = binding
