use Rattle.std.proofs.Common.{sym}
use Rattle.si_steps.proofs.Raised.{active_there, again_did, none_did}
use Rattle.si_steps.proofs.state.State.raise_again.Goals as goal

pub leave_raised-requires : goal.leave_raised-requires
leave_raised-requires g c =
    let old = c.args.self.now in
    (record { at = c.requires.at; running = c.requires.running }, active_there old.arena old.blocks old.frames.callers g.p.bs c.in-Some.address c.requires.at.0.calls (sym c.in-Some.ensures))

pub returns-in-Some-clause-did : goal.returns-in-Some-clause-did
returns-in-Some-clause-did g c = again_did c.in-Some.address g.p c.args.self.now c.leave_raised.new.self c.leave_raised.result c.requires (sym c.in-Some.ensures) c.leave_raised.ensures.did

pub returns-in-None-clause-did : goal.returns-in-None-clause-did
returns-in-None-clause-did g c = none_did g.p c.args.self.now c.raise.new.self c.raise.result c.requires (sym c.in-None.ensures) c.raise.ensures
