use Rattle.si_semantics.proofs.Scoped.{left_by_exceptions}
use Rattle.si_semantics.proofs.laws.left_by_exceptions.Goals as goal

pub returns : goal.returns
returns c = left_by_exceptions
