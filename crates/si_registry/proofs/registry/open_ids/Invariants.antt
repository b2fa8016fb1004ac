use Rattle.std.proofs.Common.{◌≡◌, ◌++◌, drop}
use Rattle.si_semantics.specs.Shared.{open_from}
use Rattle.si_registry.proofs.registry.open_ids.Given as goal

-- the numbers gathered so far, and those of the others, are all
abbrev pub invariant-each : goal.invariant-each
invariant-each l = l.ids.items ++ open_from l.id (drop l.id l.interpreters) ≡ open_from 0 l.interpreters
