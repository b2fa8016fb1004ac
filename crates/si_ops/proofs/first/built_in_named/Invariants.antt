-- the name is none of the built-ins so far
use Rattle.std.proofs.Common.{◌≡◌, drop, map}
use Rattle.si_plain.specs.Characters.{characters_of}
use Rattle.si_semantics.specs.Operations as operations
use Rattle.si_arena.specs.Memory.{built_in_of}
use Rattle.si_ops.proofs.first.built_in_named.Given as goal

abbrev pub invariant-loop-function : goal.invariant-loop-function
invariant-loop-function l = operations.built_in_named (characters_of l.name) (map built_in_of l.functions) ≡ operations.built_in_named (characters_of l.name) (map built_in_of (drop l.function-index l.functions))
