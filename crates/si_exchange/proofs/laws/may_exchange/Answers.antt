use Rattle.si_exchange.proofs.Exchanging.{may_exchange}
use Rattle.si_exchange.proofs.laws.may_exchange.Goals as goal

pub returns : goal.returns
returns c = may_exchange
