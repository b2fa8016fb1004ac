use Rattle.si_scope.proofs.Declared.{Taken}
use Rattle.si_scope.proofs.seen.Seen.new.Given as goal

abbrev pub invariant-loop-parameter : goal.invariant-loop-parameter
invariant-loop-parameter l = Taken l.parameters l.parameter-index l.used l.locals
