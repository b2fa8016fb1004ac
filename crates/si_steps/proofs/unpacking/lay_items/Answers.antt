use Rattle.std.proofs.Common.{◌+◌, ◌-◌, ◌<◌, length, drop, refl, sym, ap, subst, ◌∙◌, arith}
use Rattle.std.specs.Prelude.{slice_set}
use Rattle.si_arena.specs.Memory.{value_of}
use Rattle.si_slots.specs.Machine as machine
use Rattle.si_ops.specs.Items.{gone_over}
use Rattle.si_stacks.specs.Frames.{FramesSeen}
use Rattle.si_stacks.specs.Places.{Keeps}
use Rattle.si_steps.proofs.Unpacked.{laid_all, laid_more, laid_none, length_put}
use Rattle.si_steps.proofs.unpacking.lay_items.Goals as goal

pub loop-done-init : goal.loop-done-init
loop-done-init c =
    let m = c.args.arena.now in
    record {
      laid = λ ts kept. laid_none m (gone_over m (value_of m c.args.value)) ts c.args.frames.now.temporaries c.args.at c.args.count c.requires.count kept;
      room = refl;
      rest = refl;
    }

pub loop-done-preserved : goal.loop-done-preserved
loop-done-preserved c =
    let m = c.args.arena.now in
    let vs = gone_over m (value_of m c.args.value) in
    let i = c.loop-done.done in
    let r = c.nth_item-item.result in
    let old = c.loop-done.frames in
    let so_far = c.loop-done.invariant in
    let room : c.args.at + i < length old.temporaries = omega (arith, so_far.room, c.requires.room, c.loop-done-test.true) in
    let put = c.set_temporary.ensures in
    record {
      laid = λ ts kept. subst (λ (f : FramesSeen). Keeps m f.temporaries (machine.laid c.args.at (drop (c.args.count - (i + 1)) vs) ts)) (sym put)
          (laid_more m vs ts old.temporaries c.args.at c.args.count i (c.args.count - 1 - i) r c.requires.count c.loop-done-test.true refl c.nth_item-item.ensures.item c.nth_item-item.ensures.lies room (so_far.laid ts kept));
      room = ap (λ (f : FramesSeen). length f.temporaries) put ∙ length_put old.temporaries (c.args.at + i) r ∙ so_far.room;
      rest = put
          ∙ ap (λ (f : FramesSeen). let g : FramesSeen = record f { temporaries = slice_set old.temporaries (c.args.at + i) r } in g) so_far.rest
          ∙ ap (λ rs. let g : FramesSeen = record c.args.frames.now { temporaries = rs } in g) (sym (ap (λ (f : FramesSeen). f.temporaries) put));
    }

pub returns-clause-laid : goal.returns-clause-laid
returns-clause-laid c =
    let m = c.args.arena.now in
    let vs = gone_over m (value_of m c.args.value) in
    λ ts kept. laid_all m vs ts c.loop-done.frames.temporaries c.args.at c.args.count c.loop-done.done c.loop-done-test.false (c.loop-done.invariant.laid ts kept)
