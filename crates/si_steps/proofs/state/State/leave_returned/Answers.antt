use Rattle.std.proofs.Common.{◌∷◌, ◌∙◌, ap, drop}
use Rattle.si_stacks.specs.Blocks.{reached}
use Rattle.si_stacks.specs.declared.blocks.Leaving.TheVariants.{Returns}
use Rattle.si_steps.specs.declared.step.Step.TheVariants.{Local}
use Rattle.si_steps.proofs.Left.{call_made, left_to_frame}
use Rattle.si_steps.proofs.Lines.{of_kind}
use Rattle.si_steps.proofs.state.State.leave_returned.Goals as goal

pub back-requires-clause-callers : goal.back-requires-clause-callers
back-requires-clause-callers g c =
    let k = c.in-Some-Frame in
    let s = c.args.self.now in
    let l = Returns c.args.value in
    (call_made l g.p s k.after k.target (drop 1 s.blocks) c.requires.0 c.requires.1 (ap (reached l) (k.ensures ∙ ap (λ b. b ∷ drop 1 s.blocks) k.field-0-is))).callers

pub back-requires-clause-place : goal.back-requires-clause-place
back-requires-clause-place g c =
    let k = c.in-Some-Frame in
    let s = c.args.self.now in
    let l = Returns c.args.value in
    (call_made l g.p s k.after k.target (drop 1 s.blocks) c.requires.0 c.requires.1 (ap (reached l) (k.ensures ∙ ap (λ b. b ∷ drop 1 s.blocks) k.field-0-is))).place

pub returns-in-Some-Frame-clause-did : goal.returns-in-Some-Frame-clause-did
returns-in-Some-Frame-clause-did g c =
    let k = c.in-Some-Frame in
    let s = c.args.self.now in
    let l = Returns c.args.value in
    of_kind _ g.p s c.back.new.self c.back.result Local c.back.ensures.step
    (left_to_frame l g.p s c.back.new.self k.after k.target (drop 1 s.blocks) c.requires.0 tt c.requires.1 (ap (reached l) (k.ensures ∙ ap (λ b. b ∷ drop 1 s.blocks) k.field-0-is)) c.back.ensures.state)
