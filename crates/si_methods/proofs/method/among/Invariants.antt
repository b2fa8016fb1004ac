-- the name is that of none of the methods so far
use Rattle.std.proofs.Common.{◌≡◌, drop, map}
use Rattle.si_semantics.specs.Attributes.{method_named}
use Rattle.si_methods.specs.Methods.{method_in, spelled}
use Rattle.si_methods.proofs.method.among.Given as goal

abbrev pub invariant-loop-method : goal.invariant-loop-method
invariant-loop-method l = method_named (spelled l.name) (map method_in l.methods) ≡ method_named (spelled l.name) (map method_in (drop l.method-index l.methods))
