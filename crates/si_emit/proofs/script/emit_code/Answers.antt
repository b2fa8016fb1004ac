use Rattle.si_emit.proofs.Functions.{code_gains}
use Rattle.si_emit.proofs.script.emit_code.Goals as goal

pub returns-clause-ok : goal.returns-clause-ok
returns-clause-ok c = code_gains _ _ _ _ _ _ _ _ c.in_ok-open.ensures.ok c.open.ensures.code c.in_ok-emit_suite.ensures.ok c.in_ok-put.ensures.ok c.close.ensures
