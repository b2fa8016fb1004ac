use Rattle.std.proofs.Common.{◌+◌, ◌∙◌, ap, sym}
use Rattle.si_stacks.specs.Frames.{FramesSeen}
use Rattle.si_steps.specs.declared.state.State.{State}
use Rattle.si_steps.proofs.Lines.{where_ok}
use Rattle.si_steps.proofs.Unpacked.{laid_with_room}
use Rattle.si_steps.proofs.state.State.lay_out.Goals as goal

pub returns : goal.returns
returns c =
    let s = c.args.self.now in
    let room = where_ok c.make_room.result (sym c.is_err.ensures.value ∙ c.if-is_err.false) c.make_room.ensures.ok in
    laid_with_room c.args.value c.args.at c.args.count c.args.self.now c.advance.new.self c.make_room.new.self c.lay_items.new.frames.temporaries c.advance.result room c.lay_items.ensures.laid c.advance.ensures.step
    (c.advance.ensures.state ∙ ap (λ (f : FramesSeen). let t : State = record s { pc = s.pc + 1; frames = f } in t) c.lay_items.ensures.rest)
