use Rattle.si_scope.specs.Scripts.{script_of}
use Rattle.si_emit.proofs.Functions.{script_compiled}
use Rattle.si_emit.proofs.script.compile.Goals as goal

pub returns-in-Ok-clause-ok : goal.returns-in-Ok-clause-ok
returns-in-Ok-clause-ok c = script_compiled (script_of c.args.tree.now) c.in-Ok.at c.in-Ok.ensures.at c.in-Ok.ensures.ok
