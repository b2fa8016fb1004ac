use Rattle.std.proofs.Common.{◌∷◌, ◌∙◌, ap, drop}
use Rattle.si_stacks.specs.Blocks.{reached}
use Rattle.si_steps.specs.declared.state.State.{State}
use Rattle.si_steps.specs.declared.step.Step.TheVariants.{Local}
use Rattle.si_steps.specs.inner.Pieces.{left_loop}
use Rattle.si_steps.proofs.Left.{left_to_loop, left_to_each, loop_suite, loop_lies, loop_reached, each_reached}
use Rattle.si_steps.proofs.Lines.{of_kind}
use Rattle.si_steps.proofs.state.State.leave_turn.Goals as goal

pub leave_suite-requires : goal.leave_suite-requires
leave_suite-requires g c = (c.requires.0, (loop_suite c.args.leaving c.requires.1, loop_lies c.args.self.now.arena c.args.leaving c.requires.1))

pub returns-in-Some-Loop-clause-did : goal.returns-in-Some-Loop-clause-did
returns-in-Some-Loop-clause-did g c =
    let l = c.args.leaving in
    let k = c.in-Some-Loop in
    let old = c.args.self.now in
    let ks = drop 1 old.blocks in
    let top = k.ensures ∙ ap (λ b. b ∷ ks) k.field-0-is in
    of_kind _ g.p old c.leave_loop.new.self c.leave_loop.result Local c.leave_loop.ensures.step
    (left_to_loop l g.p old c.leave_loop.new.self k.start k.after ks c.requires.0 (loop_lies old.arena l c.requires.1) c.requires.1 (ap (reached l) top ∙ loop_reached l k.start k.after ks c.requires.1)
    (c.leave_loop.ensures.state ∙ ap (λ bs. left_loop l k.start k.after (let z : State = record old { blocks = bs } in z)) top))

pub returns-in-Some-Each-clause-did : goal.returns-in-Some-Each-clause-did
returns-in-Some-Each-clause-did g c =
    let l = c.args.leaving in
    let k = c.in-Some-Each in
    let old = c.args.self.now in
    let ks = drop 1 old.blocks in
    let top = k.ensures ∙ ap (λ b. b ∷ ks) k.field-0-is in
    let left = c.leave_loop-in-Some-Each in
    of_kind _ g.p old left.new.self left.result Local left.ensures.step
    (left_to_each l g.p old left.new.self k.start k.after k.field-0-2 ks c.requires.0 (loop_lies old.arena l c.requires.1) c.requires.1 (ap (reached l) top ∙ each_reached l k.start k.after k.field-0-2 ks c.requires.1)
    (left.ensures.state ∙ ap (λ bs. left_loop l k.start k.after (let z : State = record old { blocks = bs } in z)) top))
