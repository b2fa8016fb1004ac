use Rattle.std.proofs.Common.{[], sym, ap, ◌∙◌}
use Rattle.std.specs.Prelude.{slice_get}
use Rattle.si_semantics.specs.Attributes as attributes
use Rattle.si_semantics.specs.Attributes.{method_of, methods_of_object}
use Rattle.si_methods.specs.Methods.{spelled}
use Rattle.si_methods.proofs.method.method_of_any.Goals as goal

pub returns-in-Str : goal.returns-in-Str
returns-in-Str c = λ w e. c.method_of_text.ensures [] w ∙ ap (λ v. method_of v (spelled c.args.name) w) c.in-Str.ensures.value

pub returns-in-Module : goal.returns-in-Module
returns-in-Module c = λ w e. c.function_of.ensures w ∙ ap (λ v. method_of v (spelled c.args.name) w) c.in-Module.ensures.value

pub returns-in-Queue : goal.returns-in-Queue
returns-in-Queue c = λ w e. c.method_of_queue.ensures 0 0 w ∙ ap (λ v. method_of v (spelled c.args.name) w) c.in-Queue.ensures.value

pub returns-in-Interpreter : goal.returns-in-Interpreter
returns-in-Interpreter c = λ w e. c.method_of_interpreter.ensures 0 w ∙ ap (λ v. method_of v (spelled c.args.name) w) c.in-Interpreter.ensures.value

pub returns-in-Object : goal.returns-in-Object
returns-in-Object c = λ w e.
    c.method_of_object.ensures c.args.arena.now
    ∙ ap (λ o. attributes.method_named (spelled c.args.name) (methods_of_object o)) (sym c.object.ensures.object)
    ∙ ap (λ s. attributes.method_named (spelled c.args.name) (methods_of_object (slice_get s c.in-Object.address))) (sym e)
    ∙ ap (λ v. method_of v (spelled c.args.name) w) c.in-Object.ensures.value
