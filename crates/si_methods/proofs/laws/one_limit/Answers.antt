use Rattle.si_methods.proofs.Kept.{is_within, within_is}
use Rattle.si_methods.proofs.laws.one_limit.Goals as goal

pub returns : goal.returns
returns c = λ t. (is_within t, within_is t)
