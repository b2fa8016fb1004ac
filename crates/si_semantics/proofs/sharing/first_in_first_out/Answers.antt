use Rattle.si_semantics.proofs.Journals.{first_in_first_out}
use Rattle.si_semantics.proofs.sharing.first_in_first_out.Goals as goal

pub returns : goal.returns
returns c = first_in_first_out
