use Rattle.std.proofs.Common.{Ok, sym, subst}
use Rattle.si_plain.specs.declared.modules.ModuleName.{ModuleName}
use Rattle.si_semantics.specs.Value as pure
use Rattle.si_methods.specs.Methods.{HasAttribute}
use Rattle.si_methods.proofs.values.attribute_of_module.Goals as goal

pub returns-in-Interpreters : goal.returns-in-Interpreters
returns-in-Interpreters c = λ m.
    let P : ModuleName → Type 0 = λ o. HasAttribute (pure.Module o) c.args.name.now m (Ok c.kind_of_module.result) in
    subst P (sym c.in-Interpreters.is) (c.kind_of_module.ensures m)
