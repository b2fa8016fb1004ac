use Rattle.si_semantics.proofs.WorkedSequences.{worked}
use Rattle.si_semantics.proofs.laws.worked_sequences.Goals as goal

pub returns : goal.returns
returns c = worked
