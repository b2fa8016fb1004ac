use Rattle.std.proofs.Common.{◌≡◌, drop}
use Rattle.si_syntax.specs.Trees.{targets_of}
use Rattle.si_scope.specs.inner.Walk.{binding_targets}
use Rattle.si_scope.proofs.seen.Seen.+targets.Given as goal

-- the rest decides
abbrev pub invariant-bind_targets-loop-target : goal.invariant-bind_targets-loop-target
invariant-bind_targets-loop-target l = binding_targets (targets_of l.targets) l.initial.self ≡ binding_targets (targets_of (drop l.target-index l.targets)) l.self
