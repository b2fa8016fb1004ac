use Rattle.si_steps.proofs.Lines.{of_kind}
use Rattle.si_steps.proofs.Operands.{unbound_did}
use Rattle.si_steps.specs.declared.step.Step.TheVariants.{Local}
use Rattle.si_steps.proofs.state.State.unbind_local.Goals as goal

pub returns-clause-did : goal.returns-clause-did
returns-clause-did g c =
    of_kind _ g.p c.args.self.now c.advance.new.self c.advance.result Local c.advance.ensures.step
    (unbound_did c.args.slot c.args.self.now c.advance.new.self g.p c.set_local.new.self c.requires c.set_local.ensures c.advance.ensures.state)
