use Rattle.std.proofs.Common.{subst}
use Rattle.si_semantics.specs.Value.{Text}
use Rattle.si_methods.specs.Methods.{IsMethodName}
use Rattle.si_methods.proofs.method.method_of.Goals as goal

pub returns : goal.returns
returns c = λ w e.
    c.method_at.ensures c.args.name.now w (subst (λ (x : Text). IsMethodName x c.of.result) c.as_str.ensures.characters c.of.ensures) e
