use Rattle.std.proofs.Common.{◌∷◌, ◌∙◌, ap, drop}
use Rattle.si_steps.proofs.Operands.{copied}
use Rattle.si_steps.proofs.state.State.copy_exception.Goals as goal

pub returns : goal.returns
returns g c =
    let k = c.in-Some-Handling in
    let rest = drop 1 c.args.self.now.blocks in
    copied c.args.target k.address rest c.args.self.now c.put.new.self g.p c.put.result c.requires (k.ensures ∙ ap (λ b. b ∷ rest) k.field-0-is) c.put.ensures
