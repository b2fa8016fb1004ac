use Rattle.std.proofs.Common.{Ok, subst}
use Rattle.si_semantics.specs.Value as pure
use Rattle.si_methods.specs.Methods.{HasAttribute}
use Rattle.si_methods.proofs.values.attribute.Goals as goal

pub returns-in-Module : goal.returns-in-Module
returns-in-Module c =
    let m = c.args.arena.now in
    let P : pure.Value → Type 0 = λ v. HasAttribute v c.args.name.now m (Ok c.attribute_of_module.result) in
    subst P c.in-Module.ensures.value (c.attribute_of_module.ensures m)

pub returns-in-Queue : goal.returns-in-Queue
returns-in-Queue c =
    let m = c.args.arena.now in
    let P : pure.Value → Type 0 = λ v. HasAttribute v c.args.name.now m c.attribute_of_queue.result in
    subst P c.in-Queue.ensures.value (c.attribute_of_queue.ensures m)

pub returns-in-Interpreter : goal.returns-in-Interpreter
returns-in-Interpreter c =
    let m = c.args.arena.now in
    let P : pure.Value → Type 0 = λ v. HasAttribute v c.args.name.now m (Ok c.attribute_of_interpreter.result) in
    subst P c.in-Interpreter.ensures.value (c.attribute_of_interpreter.ensures m)
