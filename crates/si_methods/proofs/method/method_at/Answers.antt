use Rattle.std.proofs.Common.{Option, sym, ap, subst, ◌∙◌}
use Rattle.si_semantics.specs.Attributes.{method_of, methods_of}
use Rattle.si_arena.specs.Memory.{value_of}
use Rattle.si_methods.specs.declared.method.MethodName.{MethodName}
use Rattle.si_methods.specs.Methods.{IsMethodName}
use Rattle.si_methods.proofs.method.method_at.Goals as goal

pub returns-in-Some : goal.returns-in-Some
returns-in-Some c = λ x w is e.
    let spelt = subst (λ (n : Option MethodName). IsMethodName x n) c.in-Some.is is in
    c.method_named.ensures w e ∙ ap (λ y. method_of (value_of c.args.arena.now c.args.value) y w) (sym spelt)

pub returns-in-None : goal.returns-in-None
returns-in-None c = λ x w is e.
    sym (subst (λ (n : Option MethodName). IsMethodName x n) c.in-None.is is (methods_of (value_of c.args.arena.now c.args.value) w))
