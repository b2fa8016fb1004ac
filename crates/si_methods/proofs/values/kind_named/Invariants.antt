-- the name is that of none of the kinds so far
use Rattle.std.proofs.Common.{◌≡◌, drop}
use Rattle.si_semantics.specs.Operations as operations
use Rattle.si_methods.proofs.values.kind_named.Given as goal

abbrev pub invariant-loop-kind : goal.invariant-loop-kind
invariant-loop-kind l = operations.kind_named l.name l.kinds ≡ operations.kind_named l.name (drop l.kind-index l.kinds)
