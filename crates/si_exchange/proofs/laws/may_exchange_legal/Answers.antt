use Rattle.si_exchange.proofs.Asking.{may_exchange_legal}
use Rattle.si_exchange.proofs.laws.may_exchange_legal.Goals as goal

pub returns : goal.returns
returns c = may_exchange_legal
