use Rattle.std.proofs.lemmas.Result.{on_ok_weaker}
use Rattle.si_emit.proofs.TryCode.{starts_gains}
use Rattle.si_emit.proofs.trying.start_finally.Goals as goal

pub returns-clause-ok : goal.returns-clause-ok
returns-clause-ok c = on_ok_weaker c.aim.result (starts_gains c.args.enter c.in_ok-put.ensures.ok) c.aim.ensures.ok
