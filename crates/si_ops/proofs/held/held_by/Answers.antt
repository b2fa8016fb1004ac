use Rattle.std.proofs.Common.{sym, subst}
use Rattle.si_arena.specs.declared.value.Ref.{Ref}
use Rattle.si_arena.specs.Memory.{value_of}
use Rattle.si_ops.specs.declared.held.Held.TheVariants as code
use Rattle.si_ops.specs.inner.Held.{IsHeld, IsPlain}
use Rattle.si_ops.proofs.Holding.{other_plain}
use Rattle.si_ops.proofs.held.held_by.Goals as goal

pub returns-in-Object : goal.returns-in-Object
returns-in-Object c =
    let m = c.args.arena.now in
    let P : Ref → Type 0 = λ r. IsHeld m (value_of m r) c.held_at.result in
    subst P (sym c.in-Object.is) c.held_at.ensures

pub returns-in-Range : goal.returns-in-Range
returns-in-Range c =
    let m = c.args.arena.now in
    let P : Ref → Type 0 = λ r. IsHeld m (value_of m r) code.Other in
    subst P (sym c.in-Range.is) (subst (IsPlain m.store) c.steps-steps.ensures tt)

pub returns-in-Tuple : goal.returns-in-Tuple
returns-in-Tuple c =
    let m = c.args.arena.now in
    let P : Ref → Type 0 = λ r. IsHeld m (value_of m r) code.Other in
    subst P (sym c.in-Tuple.is) (subst (IsPlain m.store) c.tuple-items.ensures.tuple tt)

pub returns-in_default : goal.returns-in_default
returns-in_default c = other_plain c.args.arena.now c.args.value c.in_default.not-Object c.in_default.not-Range c.in_default.not-Tuple
