use Rattle.si_steps.proofs.Made.{key_did}
use Rattle.si_steps.proofs.state.State.raise_key.Goals as goal

pub fail-requires : goal.fail-requires
fail-requires g c = (c.requires.0.at, c.requires.1)

pub returns : goal.returns
returns g c = key_did c.args.key g.p c.args.self.now c.fail.new.self c.fail.result c.requires.0.at c.fail.ensures
