use Rattle.std.proofs.Common.{◌≡◌, drop}
use Rattle.si_syntax.specs.Trees.{body_of}
use Rattle.si_emit.specs.inner.Silence.{silent_suite}
use Rattle.si_emit.proofs.silence.+silence.Given as goal

-- whether the rest is silent says whether all are
abbrev pub invariant-is_silent-loop-stmt : goal.invariant-is_silent-loop-stmt
invariant-is_silent-loop-stmt l = silent_suite (body_of (drop l.stmt-index l.body)) ≡ silent_suite (body_of l.body)
