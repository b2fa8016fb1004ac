use Rattle.std.proofs.Common.{subst, refl}
use Rattle.si_stacks.specs.Blocks.{LeavesFrame}
use Rattle.si_steps.proofs.Raised.{caller_there, frame_shorter, unwound_more, unwound_all, met}
use Rattle.si_steps.proofs.state.State.unwind.Goals as goal

pub leave-requires : goal.leave-requires
leave-requires g c =
    let s = c.loop-self.self in
    let bs = c.leave_frame.new.self in
    caller_there c.args.address g.p c.args.self.now s bs c.requires.1 c.loop-self.invariant (subst (LeavesFrame s.blocks bs) c.loop-self-test.true c.leave_frame.ensures.frame)

pub loop-self-smaller : goal.loop-self-smaller
loop-self-smaller g c =
    let s = c.loop-self.self in
    let bs = c.leave_frame.new.self in
    frame_shorter s.blocks bs (subst (LeavesFrame s.blocks bs) c.loop-self-test.true c.leave_frame.ensures.frame)

pub loop-self-preserved : goal.loop-self-preserved
loop-self-preserved g c =
    let s = c.loop-self.self in
    let bs = c.leave_frame.new.self in
    unwound_more c.args.address g.p c.args.self.now s _ c.leave.new.self bs c.requires.1 c.loop-self.invariant (subst (LeavesFrame s.blocks bs) c.loop-self-test.true c.leave_frame.ensures.frame) c.leave.ensures refl

pub returns-clause-unwound : goal.returns-clause-unwound
returns-clause-unwound g c =
    let s = c.loop-self.self in
    let bs = c.leave_frame.new.self in
    unwound_all c.args.address g.p c.args.self.now s _ bs c.requires.1 c.loop-self.invariant (subst (LeavesFrame s.blocks bs) c.loop-self-test.false c.leave_frame.ensures.frame) refl

pub returns-clause-met : goal.returns-clause-met
returns-clause-met g c =
    let s = c.loop-self.self in
    let bs = c.leave_frame.new.self in
    met s.blocks bs (subst (LeavesFrame s.blocks bs) c.loop-self-test.false c.leave_frame.ensures.frame)
