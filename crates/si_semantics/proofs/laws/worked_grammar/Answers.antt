use Rattle.si_semantics.proofs.WorkedGrammar.{worked_grammar}
use Rattle.si_semantics.proofs.laws.worked_grammar.Goals as goal

pub returns : goal.returns
returns c = worked_grammar
