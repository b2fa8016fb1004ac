use Rattle.si_share.proofs.Parts.{each_has_value}
use Rattle.si_share.proofs.laws.each_has_value.Goals as goal

pub returns : goal.returns
returns c = λ p. each_has_value p
