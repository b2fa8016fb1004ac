use Rattle.std.proofs.Common.{sym, ap, ◌∙◌}
use Rattle.std.specs.Prelude.{slice_get}
use Rattle.si_semantics.specs.Attributes as attributes
use Rattle.si_semantics.specs.Attributes.{method_of, methods_of_object}
use Rattle.si_arena.specs.Memory.{value_of, all_of}
use Rattle.si_methods.specs.Methods.{spelled}
use Rattle.si_methods.proofs.method.method_named.Goals as goal

pub returns-in-Some : goal.returns-in-Some
returns-in-Some c = λ w e.
    let vs = all_of c.args.arena.now c.in-Some.field-0.now in
    c.method_of_list.ensures vs
    ∙ ap (λ o. attributes.method_named (spelled c.args.name) (methods_of_object o)) (sym c.in-Some.ensures.some.0)
    ∙ ap (λ s. attributes.method_named (spelled c.args.name) (methods_of_object (slice_get s c.in-Object.address))) (sym e)
    ∙ ap (λ r. method_of (value_of c.args.arena.now r) (spelled c.args.name) w) (sym c.in-Object.is)

pub returns-in-None : goal.returns-in-None
returns-in-None c = λ w e.
    c.method_of_object.ensures c.args.arena.now
    ∙ ap (λ o. attributes.method_named (spelled c.args.name) (methods_of_object o)) (sym c.object.ensures.object)
    ∙ ap (λ s. attributes.method_named (spelled c.args.name) (methods_of_object (slice_get s c.in-Object.address))) (sym e)
    ∙ ap (λ r. method_of (value_of c.args.arena.now r) (spelled c.args.name) w) (sym c.in-Object.is)

pub returns-in-Queue : goal.returns-in-Queue
returns-in-Queue c = λ w e.
    c.method_of_queue.ensures c.in-Queue.id c.in-Queue.maxsize w ∙ ap (λ r. method_of (value_of c.args.arena.now r) (spelled c.args.name) w) (sym c.in-Queue.is)
