use Rattle.std.proofs.Common.{pos, Ok, sym, ap, subst, ◌∙◌}
use Rattle.si_plain.specs.declared.kind.Kind.TheVariants as kind
use Rattle.si_semantics.specs.Actions as shared
use Rattle.si_arena.specs.declared.value.Ref.{Ref}
use Rattle.si_arena.specs.declared.value.Ref.TheVariants as value
use Rattle.si_arena.specs.declared.object.Object.TheVariants.{Caused}
use Rattle.si_arena.specs.declared.cause.Cause.TheVariants.{Arithmetic}
use Rattle.si_parcel.specs.declared.answer.Answer.{Answer}
use Rattle.si_parcel.specs.declared.answer.Answer.TheVariants as answer
use Rattle.si_parcel.specs.Shared.{answer_of}
use Rattle.si_methods.specs.declared.request.Awaited.TheVariants as awaited
use Rattle.si_methods.specs.declared.replying.Replied.{Replied}
use Rattle.si_methods.specs.declared.replying.Replied.TheVariants.{Got, Failed}
use Rattle.si_methods.specs.Replying.{Replies}
use Rattle.si_semantics.specs.Replies.{counted, failed}
use Rattle.si_semantics.specs.Operations.{arithmetic_message}
use Rattle.si_methods.proofs.Attributed.{overflows, within}
use Rattle.std.proofs.Math.Facts.{to_z-of_z}
use Rattle.si_methods.proofs.Made.{got, refuses, else_size}
use Rattle.si_methods.proofs.replying.counted.Goals as goal

pub returns-in-Ok : goal.returns-in-Ok
returns-in-Ok c = λ m.
    let k = c.in-Count.count in
    let P : Answer → Type 0 = λ a. Replies awaited.Size (answer_of a) m m (Ok (Got c.integer.result)) in
    let Q : Ref → Type 0 = λ r. Replies awaited.Size (shared.Count k) m m (Ok (Got r)) in
    subst P (sym c.in-Count.is) (subst Q (sym (c.integer.ensures ∙ ap value.Int (to_z-of_z (within k c.in-Ok.n c.in-Ok.ensures)))) (got awaited.Size (shared.Count k) m (value.Int c.in-Ok.n) tt (λ w. ap (λ r. counted r w) (sym c.in-Ok.ensures))))

pub returns-in-Err : goal.returns-in-Err
returns-in-Err c = λ m.
    let k = c.in-Count.count in
    let cause = Arithmetic kind.OverflowError in
    let P : Answer → Type 0 = λ a. Replies awaited.Size (answer_of a) m m (Ok (Failed (Caused cause))) in
    subst P (sym c.in-Count.is)
    (refuses awaited.Size (shared.Count k) m cause tt
    (λ w. ap (λ r. counted r w) (sym c.in-Err.ensures) ∙ ap (λ e. failed e (arithmetic_message e) w) (overflows (pos k) c.in-Err.field-0 c.in-Err.ensures)))

pub returns-in_default : goal.returns-in_default
returns-in_default c = λ m.
    let P : Replied → Type 0 = λ r. Replies awaited.Size (answer_of c.args.answer.now) m m (Ok r) in
    subst P (sym c.nothing.ensures) (else_size c.args.answer.now m c.in_default.not-Count)
