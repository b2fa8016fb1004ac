use Rattle.std.proofs.Common.{◌≡◌, sym, ap, subst, ◌∙◌}
use Rattle.si_plain.specs.declared.operators.BinaryOperator.{BinaryOperator}
use Rattle.si_semantics.specs.Operations.{operate}
use Rattle.si_semantics.specs.Containers.{augment}
use Rattle.si_arena.specs.Memory.{value_of}
use Rattle.si_ops.specs.Calls.{Makes}
use Rattle.si_ops.specs.Operands.{made_of, NeedsNone, IsTold, AreNoLists}
use Rattle.si_ops.proofs.Changing.{makes_as}
use Rattle.si_ops.proofs.Setting.{augmented_int, augmented_apart}
use Rattle.si_ops.proofs.changes.augment.Goals as goal

pub returns-in-Int : goal.returns-in-Int
returns-in-Int c =
    let m = c.args.arena.now in
    let o = c.args.operator in
    let u = value_of m c.args.left in
    let v = value_of m c.args.right in
    let hu = ap (value_of m) c.in-Int.is in
    record {
      makes = makes_as (λ w. augment o u v w) (λ w. operate o u v w) m c.binary.new.arena c.binary.result (λ w e. ap (λ z. augment o z v w) hu ∙ augmented_int o _ v w ∙ ap (λ z. operate o z v w) (sym hu)) c.binary.ensures.makes;
      memory = c.binary.ensures.memory;
    }

pub returns-in_default-left : goal.returns-in_default-left
returns-in_default-left c =
    let m = c.args.arena.now in
    let u = value_of m c.args.left in
    let v = value_of m c.args.right in
    let P : BinaryOperator → Type 0 = λ o. Makes (λ w. augment o u v w) m c.add_to.new.arena c.add_to.result in
    let Q : BinaryOperator → Type 0 = λ o. AreNoLists m.store u v → NeedsNone c.args.left c.args.right (made_of o u v) → (c.add_to.new.arena ≡ m) × IsTold c.add_to.result in
    record {
      makes = subst P (sym c.in-Add.is) c.add_to.ensures.makes;
      memory = subst Q (sym c.in-Add.is) c.add_to.ensures.memory;
    }

pub returns-in_default : goal.returns-in_default
returns-in_default c =
    let m = c.args.arena.now in
    let o = c.args.operator in
    let u = value_of m c.args.left in
    let v = value_of m c.args.right in
    let called = c.binary-in_default in
    record {
      makes = makes_as (λ w. augment o u v w) (λ w. operate o u v w) m called.new.arena called.result (λ w e. augmented_apart o u v w c.in_default.not-Add) called.ensures.makes;
      memory = called.ensures.memory;
    }
