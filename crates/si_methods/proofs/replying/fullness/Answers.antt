use Rattle.std.proofs.Common.{[], Ok, sym, ap, subst}
use Rattle.si_semantics.specs.Value as pure
use Rattle.si_semantics.specs.World as world
use Rattle.si_semantics.specs.Actions as shared
use Rattle.si_arena.specs.declared.value.Ref.TheVariants as value
use Rattle.si_parcel.specs.declared.answer.Answer.{Answer}
use Rattle.si_parcel.specs.declared.answer.Answer.TheVariants as answer
use Rattle.si_parcel.specs.Shared.{answer_of}
use Rattle.si_methods.specs.declared.request.Awaited.TheVariants as awaited
use Rattle.si_methods.specs.declared.replying.Replied.{Replied}
use Rattle.si_methods.specs.declared.replying.Replied.TheVariants.{Got}
use Rattle.si_methods.specs.Replying.{Replies}
use Rattle.si_methods.proofs.Made.{got, else_is_full}
use Rattle.si_methods.proofs.replying.fullness.Goals as goal

pub returns-in-Count : goal.returns-in-Count
returns-in-Count c = λ m.
    let k = c.in-Count.count in
    let P : Answer → Type 0 = λ a. Replies (awaited.IsFull c.args.maxsize) (answer_of a) m m (Ok (Got (value.Truth [] c.is_at_bound.result))) in
    subst P (sym c.in-Count.is) (got (awaited.IsFull c.args.maxsize) (shared.Count k) m (value.Truth [] c.is_at_bound.result) tt (λ w. ap (λ b. world.Got (pure.Truth b) w) (sym c.is_at_bound.ensures)))

pub returns-in_default : goal.returns-in_default
returns-in_default c = λ m.
    let P : Replied → Type 0 = λ r. Replies (awaited.IsFull c.args.maxsize) (answer_of c.args.answer.now) m m (Ok r) in
    subst P (sym c.nothing.ensures) (else_is_full c.args.maxsize c.args.answer.now m c.in_default.not-Count)
