use Rattle.std.proofs.Common.{◌+◌, ◌∙◌, ap}
use Rattle.si_stacks.specs.Frames.{FramesSeen}
use Rattle.si_steps.specs.declared.state.State.{State}
use Rattle.si_steps.proofs.Reversed.{not_reversed_did, reversed_did, reversed_lie, reversed_there}
use Rattle.si_steps.proofs.state.State.reverse.Goals as goal

pub arguments-items-requires : goal.arguments-items-requires
arguments-items-requires g c = reversed_there c.args.at c.args.count c.args.self.now g.p c.requires

pub admits_tuple-requires : goal.admits_tuple-requires
admits_tuple-requires g c = reversed_lie c.args.at c.args.count c.args.self.now g.p c.arguments-items.result.now c.requires c.arguments-items.ensures

pub returns-then-not-admits_tuple : goal.returns-then-not-admits_tuple
returns-then-not-admits_tuple g c =
    not_reversed_did c.args.at c.args.count c.arguments-items.result.now c.admits_tuple.result c.args.self.now c.raise.new.self g.p c.raise.result c.requires c.arguments-items.ensures c.admits_tuple.ensures c.if-not-admits_tuple.true c.raise.ensures

pub reverse-requires : goal.reverse-requires
reverse-requires g c = reversed_there c.args.at c.args.count c.args.self.now g.p c.requires

pub returns : goal.returns
returns g c =
    let s = c.args.self.now in
    reversed_did c.args.at c.args.count c.arguments-items.result.now c.admits_tuple.result s c.advance.new.self g.p c.advance.result c.requires c.arguments-items.ensures c.admits_tuple.ensures c.if-not-admits_tuple.false c.advance.ensures.step
    (c.advance.ensures.state ∙ ap (λ (f : FramesSeen). let t : State = record s { pc = s.pc + 1; frames = f } in t) c.reverse.ensures)
