use Rattle.si_parse.proofs.Places.{from_got}
use Rattle.si_parse.proofs.lookahead.token_at.Goals as goal

pub returns-clause-split : goal.returns-clause-split
returns-clause-split c = from_got c.args.tokens.now c.args.at c.get.result c.get.ensures.token
