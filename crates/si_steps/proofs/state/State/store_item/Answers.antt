use Rattle.std.proofs.Common.{◌+◌, Err, subst}
use Rattle.si_semantics.specs.Value.{Value}
use Rattle.si_semantics.specs.World.{World, Ran}
use Rattle.si_semantics.specs.Containers.{set_item}
use Rattle.si_arena.specs.declared.cause.Cause.{Cause}
use Rattle.si_arena.specs.declared.cause.Fault.{Fault}
use Rattle.si_arena.specs.Memory.{value_of}
use Rattle.si_slots.specs.Machine.{Line, ToNowhere, below, yields}
use Rattle.si_slots.specs.Views.{source_of}
use Rattle.si_ops.specs.Changes.{Changes}
use Rattle.si_steps.specs.declared.step.Step.TheVariants.{Local}
use Rattle.si_steps.specs.Moments.{Did}
use Rattle.si_steps.specs.inner.Operands.{words_at}
use Rattle.si_steps.specs.inner.Pieces.{raised_line}
use Rattle.si_steps.proofs.Asked.{with_arena}
use Rattle.si_steps.proofs.Lines.{alike, of_kind}
use Rattle.si_steps.proofs.Made.{changed_did, three_read}
use Rattle.si_steps.proofs.Operated.{keeps_below, thrown_over}
use Rattle.si_steps.proofs.state.State.store_item.Goals as goal

pub returns-in-Ok-set_item : goal.returns-in-Ok-set_item
returns-in-Ok-set_item g c =
    let s = c.args.self.now in
    let p = g.p in
    let a = source_of (words_at s) c.args.value in
    let b = source_of (words_at s) c.args.object in
    let i = source_of (words_at s) c.args.index in
    let ts = below a (below b (below i p.ts)) in
    let value = c.in-Ok.value in
    let object = c.in-Ok-read.value in
    let index = c.in-Ok-read-2.value in
    let at = c.requires.0.at in
    let go : Value → Value → Value → Line = λ z u v. yields (set_item u v z p.w) ToNowhere (s.pc + 1) ts p.slots p.bs in
    let read = three_read a b i s p value object index go c.in-Ok.ensures c.in-Ok-read.ensures c.in-Ok-read-2.ensures c.requires.0.open_line in
    let f : World → Ran = λ w. set_item (value_of s.arena object) (value_of s.arena index) (value_of s.arena value) w in
    let keeps = keeps_below s.arena s.frames.temporaries (below b (below i p.ts)) a (keeps_below s.arena s.frames.temporaries (below i p.ts) b (keeps_below s.arena s.frames.temporaries p.ts i at.0.temporaries)) in
    of_kind _ p s c.advance.new.self c.advance.result Local c.advance.ensures.step
    (alike _ _ p s c.advance.new.self Local read.3
    (changed_did f p ts s c.advance.new.self c.set_item.new.arena at c.requires.0.running keeps c.in-Ok-set_item.ensures.changes.0 c.in-Ok-set_item.ensures.changes.1 c.advance.ensures.state))

pub returns-in-Err-Raises : goal.returns-in-Err-Raises
returns-in-Err-Raises g c =
    let s = c.args.self.now in
    let p = g.p in
    let a = source_of (words_at s) c.args.value in
    let b = source_of (words_at s) c.args.object in
    let i = source_of (words_at s) c.args.index in
    let ts = below a (below b (below i p.ts)) in
    let value = c.in-Ok.value in
    let object = c.in-Ok-read.value in
    let index = c.in-Ok-read-2.value in
    let at = c.requires.0.at in
    let go : Value → Value → Value → Line = λ z u v. yields (set_item u v z p.w) ToNowhere (s.pc + 1) ts p.slots p.bs in
    let read = three_read a b i s p value object index go c.in-Ok.ensures c.in-Ok-read.ensures c.in-Ok-read-2.ensures c.requires.0.open_line in
    let f : World → Ran = λ w. set_item (value_of s.arena object) (value_of s.arena index) (value_of s.arena value) w in
    let m = c.set_item.new.arena in
    let k = c.in-Err-Raises in
    let throws = subst (λ (e : Fault). Changes f s.arena m (Err e)) k.field-0-is k.ensures.changes in
    let did = subst (λ (e : Cause). Did (raised_line e (with_arena m s) p) p (with_arena m s) c.raise.new.self c.raise.result) k.cause-is c.raise.ensures in
    alike _ _ p s c.raise.new.self c.raise.result read.3
    (thrown_over ToNowhere f k.cause p ts s c.raise.new.self m c.raise.result at throws.0 throws.1 did)
