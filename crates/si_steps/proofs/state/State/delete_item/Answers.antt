use Rattle.std.proofs.Common.{◌+◌, Err, subst}
use Rattle.si_semantics.specs.Value.{Value}
use Rattle.si_semantics.specs.World.{World, Ran}
use Rattle.si_semantics.specs.Containers.{delete_item}
use Rattle.si_arena.specs.declared.cause.Cause.{Cause}
use Rattle.si_arena.specs.Memory.{value_of}
use Rattle.si_slots.specs.Machine.{Line, ToNowhere, below, yields}
use Rattle.si_slots.specs.Views.{source_of}
use Rattle.si_ops.specs.declared.lack.Lack.{Lack}
use Rattle.si_ops.specs.Changes.{Deletes}
use Rattle.si_steps.specs.declared.step.Step.TheVariants.{Local}
use Rattle.si_steps.specs.Moments.{Did}
use Rattle.si_steps.specs.inner.Operands.{words_at}
use Rattle.si_steps.specs.inner.Pieces.{raised_line}
use Rattle.si_steps.proofs.Asked.{with_arena}
use Rattle.si_steps.proofs.Lines.{alike, of_kind}
use Rattle.si_steps.proofs.Made.{changed_did, missed_over}
use Rattle.si_steps.proofs.Operated.{keeps_below, thrown_over, two_read}
use Rattle.si_steps.proofs.state.State.delete_item.Goals as goal

pub returns-in-Ok-delete_item : goal.returns-in-Ok-delete_item
returns-in-Ok-delete_item g c =
    let s = c.args.self.now in
    let p = g.p in
    let a = source_of (words_at s) c.args.container in
    let b = source_of (words_at s) c.args.key in
    let ts = below a (below b p.ts) in
    let left = c.in-Ok.value in
    let right = c.in-Ok-read.value in
    let at = c.requires.0.at in
    let go : Value → Value → Line = λ u v. yields (delete_item u v p.w) ToNowhere (s.pc + 1) ts p.slots p.bs in
    let read = two_read a b s p left right go c.in-Ok.ensures c.in-Ok-read.ensures c.requires.0.open_line in
    let v = value_of s.arena right in
    let f : World → Ran = λ w. delete_item (value_of s.arena left) v w in
    let keeps = keeps_below s.arena s.frames.temporaries (below b p.ts) a (keeps_below s.arena s.frames.temporaries p.ts b at.0.temporaries) in
    of_kind _ p s c.advance.new.self c.advance.result Local c.advance.ensures.step
    (alike _ _ p s c.advance.new.self Local read.2
    (changed_did f p ts s c.advance.new.self c.delete_item.new.arena at c.requires.0.running keeps c.in-Ok-delete_item.ensures.0 c.in-Ok-delete_item.ensures.1 c.advance.ensures.state))

pub returns-in-Err-Raises : goal.returns-in-Err-Raises
returns-in-Err-Raises g c =
    let s = c.args.self.now in
    let p = g.p in
    let a = source_of (words_at s) c.args.container in
    let b = source_of (words_at s) c.args.key in
    let ts = below a (below b p.ts) in
    let left = c.in-Ok.value in
    let right = c.in-Ok-read.value in
    let at = c.requires.0.at in
    let go : Value → Value → Line = λ u v. yields (delete_item u v p.w) ToNowhere (s.pc + 1) ts p.slots p.bs in
    let read = two_read a b s p left right go c.in-Ok.ensures c.in-Ok-read.ensures c.requires.0.open_line in
    let v = value_of s.arena right in
    let f : World → Ran = λ w. delete_item (value_of s.arena left) v w in
    let m = c.delete_item.new.arena in
    let k = c.in-Err-Raises in
    let throws = subst (λ (e : Lack). Deletes f v s.arena m (Err e)) k.field-0-is k.ensures in
    let did = subst (λ (e : Cause). Did (raised_line e (with_arena m s) p) p (with_arena m s) c.raise.new.self c.raise.result) k.cause-is c.raise.ensures in
    alike _ _ p s c.raise.new.self c.raise.result read.2
    (thrown_over ToNowhere f k.cause p ts s c.raise.new.self m c.raise.result at throws.0 throws.1 did)

pub returns-in-Err-NoKey : goal.returns-in-Err-NoKey
returns-in-Err-NoKey g c =
    let s = c.args.self.now in
    let p = g.p in
    let a = source_of (words_at s) c.args.container in
    let b = source_of (words_at s) c.args.key in
    let ts = below a (below b p.ts) in
    let left = c.in-Ok.value in
    let right = c.in-Ok-read.value in
    let at = c.requires.0.at in
    let go : Value → Value → Line = λ u v. yields (delete_item u v p.w) ToNowhere (s.pc + 1) ts p.slots p.bs in
    let read = two_read a b s p left right go c.in-Ok.ensures c.in-Ok-read.ensures c.requires.0.open_line in
    let v = value_of s.arena right in
    let f : World → Ran = λ w. delete_item (value_of s.arena left) v w in
    let m = c.delete_item.new.arena in
    let k = c.in-Err-NoKey in
    let misses = subst (λ (e : Lack). Deletes f v s.arena m (Err e)) k.field-0-is k.ensures in
    alike _ _ p s c.raise_key.new.self c.raise_key.result read.2
    (missed_over ToNowhere f right p ts s c.raise_key.new.self m c.raise_key.result at misses.0 misses.1 c.raise_key.ensures)
