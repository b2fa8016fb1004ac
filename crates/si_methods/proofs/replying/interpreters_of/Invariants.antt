-- the interpreters so far
use Rattle.std.proofs.Common.{◌≡◌, take, map}
use Rattle.si_arena.specs.declared.value.Ref.TheVariants.{Interpreter}
use Rattle.si_methods.proofs.replying.interpreters_of.Given as goal

abbrev pub invariant-loop-id : goal.invariant-loop-id
invariant-loop-id l = l.interpreters.items ≡ map Interpreter (take l.id-index l.ids)
