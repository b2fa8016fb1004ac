use Rattle.std.proofs.Common.{◌∷◌, ◌∙◌, sym, ap, drop, subst}
use Rattle.si_steps.proofs.Left.{stops, of_loop, of_each, not_catch, not_pending, not_handling, call_made, left_to_final, left_to_loop, left_to_each, left_to_frame, left_to_end}
use Rattle.si_steps.proofs.Lines.{of_kind}
use Rattle.si_steps.specs.declared.state.State.{State}
use Rattle.si_steps.specs.declared.state.Standing.TheVariants as standing
use Rattle.si_steps.specs.declared.step.Exit.TheVariants as exit
use Rattle.si_steps.specs.declared.step.Step.TheVariants.{Local, Ended}
use Rattle.si_steps.specs.inner.Pieces.{IsBack, left_loop}
use Rattle.si_stacks.specs.declared.blocks.Block.TheVariants.{Loop, Each, Catch, Pending, Handling}
use Rattle.si_steps.proofs.state.State.leave_suite.Goals as goal

pub leave_loop-requires : goal.leave_loop-requires
leave_loop-requires g c =
    let k = c.in-Some-Loop in
    let ks = c.pass.new.self in
    of_loop k.start k.after c.args.leaving (stops c.args.leaving c.args.self.now ks (Loop k.start k.after) c.pass.ensures (k.ensures ∙ ap (λ b. b ∷ drop 1 ks) k.field-0-is))

pub leave_loop-requires-in-Some-Each : goal.leave_loop-requires-in-Some-Each
leave_loop-requires-in-Some-Each g c =
    let k = c.in-Some-Each in
    let ks = c.pass.new.self in
    of_each k.start k.after k.field-0-2 c.args.leaving (stops c.args.leaving c.args.self.now ks (Each k.start k.after k.field-0-2) c.pass.ensures (k.ensures ∙ ap (λ b. b ∷ drop 1 ks) k.field-0-is))

pub back-requires-clause-callers : goal.back-requires-clause-callers
back-requires-clause-callers g c =
    let k = c.in-Some-Frame in
    let ks = c.pass.new.self in
    (call_made c.args.leaving g.p c.args.self.now k.after k.target (drop 1 ks) c.requires.0 c.requires.1.1 (sym c.pass.ensures ∙ k.ensures ∙ ap (λ b. b ∷ drop 1 ks) k.field-0-is)).callers

pub back-requires-clause-place : goal.back-requires-clause-place
back-requires-clause-place g c =
    let k = c.in-Some-Frame in
    let ks = c.pass.new.self in
    (call_made c.args.leaving g.p c.args.self.now k.after k.target (drop 1 ks) c.requires.0 c.requires.1.1 (sym c.pass.ensures ∙ k.ensures ∙ ap (λ b. b ∷ drop 1 ks) k.field-0-is)).place

pub unreachable-requires : goal.unreachable-requires
unreachable-requires g c =
    let k = c.in-Some-Catch in
    let ks = c.pass.new.self in
    not_catch k.field-0-0 c.args.leaving c.requires.1.0 (stops c.args.leaving c.args.self.now ks (Catch k.field-0-0) c.pass.ensures (k.ensures ∙ ap (λ b. b ∷ drop 1 ks) k.field-0-is))

pub unreachable-requires-in-Some-Pending : goal.unreachable-requires-in-Some-Pending
unreachable-requires-in-Some-Pending g c =
    let k = c.in-Some-Pending in
    let ks = c.pass.new.self in
    not_pending k.field-0-0 c.args.leaving (stops c.args.leaving c.args.self.now ks (Pending k.field-0-0) c.pass.ensures (k.ensures ∙ ap (λ b. b ∷ drop 1 ks) k.field-0-is))

pub unreachable-requires-in-Some-Handling : goal.unreachable-requires-in-Some-Handling
unreachable-requires-in-Some-Handling g c =
    let k = c.in-Some-Handling in
    let ks = c.pass.new.self in
    not_handling k.field-0-0 c.args.leaving (stops c.args.leaving c.args.self.now ks (Handling k.field-0-0) c.pass.ensures (k.ensures ∙ ap (λ b. b ∷ drop 1 ks) k.field-0-is))

pub returns-in-Some-Final-clause-did : goal.returns-in-Some-Final-clause-did
returns-in-Some-Final-clause-did g c =
    let k = c.in-Some-Final in
    let ks = c.pass.new.self in
    of_kind _ g.p c.args.self.now c.arrive.new.self c.arrive.result Local c.arrive.ensures.step
    (left_to_final c.args.leaving g.p c.args.self.now c.arrive.new.self k.suite (drop 1 ks) c.requires.0 c.requires.1.1 (sym c.pass.ensures ∙ k.ensures ∙ ap (λ b. b ∷ drop 1 ks) k.field-0-is) c.arrive.ensures.state)

pub returns-in-Some-Loop-clause-did : goal.returns-in-Some-Loop-clause-did
returns-in-Some-Loop-clause-did g c =
    let k = c.in-Some-Loop in
    let ks = c.pass.new.self in
    let old = c.args.self.now in
    let top = k.ensures ∙ ap (λ b. b ∷ drop 1 ks) k.field-0-is in
    of_kind _ g.p old c.leave_loop.new.self c.leave_loop.result Local c.leave_loop.ensures.step
    (left_to_loop c.args.leaving g.p old c.leave_loop.new.self k.start k.after (drop 1 ks) c.requires.0 c.requires.1.1
    (of_loop k.start k.after c.args.leaving (stops c.args.leaving old ks (Loop k.start k.after) c.pass.ensures top)) (sym c.pass.ensures ∙ top)
    (c.leave_loop.ensures.state ∙ ap (λ bs. left_loop c.args.leaving k.start k.after (let z : State = record old { blocks = bs } in z)) top))

pub returns-in-Some-Each-clause-did : goal.returns-in-Some-Each-clause-did
returns-in-Some-Each-clause-did g c =
    let k = c.in-Some-Each in
    let ks = c.pass.new.self in
    let old = c.args.self.now in
    let top = k.ensures ∙ ap (λ b. b ∷ drop 1 ks) k.field-0-is in
    let left = c.leave_loop-in-Some-Each in
    of_kind _ g.p old left.new.self left.result Local left.ensures.step
    (left_to_each c.args.leaving g.p old left.new.self k.start k.after k.field-0-2 (drop 1 ks) c.requires.0 c.requires.1.1
    (of_each k.start k.after k.field-0-2 c.args.leaving (stops c.args.leaving old ks (Each k.start k.after k.field-0-2) c.pass.ensures top)) (sym c.pass.ensures ∙ top)
    (left.ensures.state ∙ ap (λ bs. left_loop c.args.leaving k.start k.after (let z : State = record old { blocks = bs } in z)) top))

pub returns-in-Some-Frame-clause-did : goal.returns-in-Some-Frame-clause-did
returns-in-Some-Frame-clause-did g c =
    let k = c.in-Some-Frame in
    let ks = c.pass.new.self in
    let old = c.args.self.now in
    let top = k.ensures ∙ ap (λ b. b ∷ drop 1 ks) k.field-0-is in
    of_kind _ g.p old c.back.new.self c.back.result Local c.back.ensures.step
    (left_to_frame c.args.leaving g.p old c.back.new.self k.after k.target (drop 1 ks) c.requires.0 c.requires.1.0 c.requires.1.1 (sym c.pass.ensures ∙ top)
    (subst (λ r. IsBack k.target r k.after (let z : State = record old { blocks = ks } in z) c.back.new.self) c.value_left.ensures c.back.ensures.state))

pub returns-in-None-clause-did : goal.returns-in-None-clause-did
returns-in-None-clause-did g c =
    let old = c.args.self.now in
    of_kind _ g.p old c.finish.new.self c.finish.result Ended c.finish.ensures.step
    (left_to_end c.args.leaving g.p old c.finish.new.self c.requires.0 c.requires.1.0 c.requires.1.1 (sym c.pass.ensures ∙ c.in-None.ensures)
    (c.finish.ensures.state ∙ ap (λ bs. let z : State = record old { blocks = bs; standing = standing.Idle; outcome = exit.Returned } in z) c.in-None.ensures))
