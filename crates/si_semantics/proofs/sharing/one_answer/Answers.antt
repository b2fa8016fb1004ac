use Rattle.si_semantics.proofs.Journals.{one_answer}
use Rattle.si_semantics.proofs.sharing.one_answer.Goals as goal

pub returns : goal.returns
returns c = one_answer
