use Rattle.si_semantics.proofs.Journals.{given_once}
use Rattle.si_semantics.proofs.sharing.given_once.Goals as goal

pub returns : goal.returns
returns c = given_once
