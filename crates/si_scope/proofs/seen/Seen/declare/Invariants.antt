use Rattle.std.proofs.Common.{◌≡◌, map, drop, string_bytes}
use Rattle.si_scope.specs.inner.Walk.{declaring}
use Rattle.si_scope.proofs.seen.Seen.declare.Given as goal

-- the rest decides
abbrev pub invariant-loop-global : goal.invariant-loop-global
invariant-loop-global l = declaring (map string_bytes l.names) l.initial.self ≡ declaring (map string_bytes (drop l.global-index l.names)) l.self
