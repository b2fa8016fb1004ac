use Rattle.std.proofs.Common.{Some, sym, ap, ◌∙◌}
use Rattle.si_semantics.specs.Attributes.{method_named, methods_of_object}
use Rattle.si_arena.specs.Memory.{object_of}
use Rattle.si_methods.specs.Methods.{spelled}
use Rattle.si_methods.proofs.method.method_of_plain.Goals as goal

pub returns-in-Thread : goal.returns-in-Thread
returns-in-Thread c = λ m. c.method_of_thread.ensures 0 ∙ ap (λ o. method_named (spelled c.args.name) (methods_of_object (Some (object_of m o)))) (sym c.in-Thread.is)

pub returns-in-Started : goal.returns-in-Started
returns-in-Started c = λ m. c.method_of_thread-in-Started.ensures 0 ∙ ap (λ o. method_named (spelled c.args.name) (methods_of_object (Some (object_of m o)))) (sym c.in-Started.is)
