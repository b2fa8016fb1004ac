use Rattle.std.proofs.Common.{refl, sym, subst, FitsSigned, w64, to_z-of_z, rules}
use Rattle.si_plain.specs.declared.operators.BinaryOperator.{BinaryOperator}
use Rattle.si_semantics.specs.Value as pure
use Rattle.si_semantics.specs.Tree as tree
use Rattle.si_semantics.specs.Operations.{operate, list_repeated}
use Rattle.si_arena.specs.declared.cause.Cause.{Cause}
use Rattle.si_arena.specs.declared.cause.Fault.TheVariants.{Raises}
use Rattle.std.specs.Prelude.{Err}
use Rattle.si_arena.specs.Memory.{value_of, list_at}
use Rattle.si_ops.specs.Calls.{Makes}
use Rattle.si_ops.proofs.Changing.{makes_as, throws_wrong}
use Rattle.si_ops.proofs.RunningLists.{list_times, list_no_times, list_wrong}
use Rattle.si_ops.proofs.lists.list_copies.Goals as goal

pub returns-in-Ok : goal.returns-in-Ok
returns-in-Ok c =
    let m = c.args.arena.now in
    let x = c.args.list in
    let v = value_of m c.args.other in
    let n = c.in-Ok.count in
    let fits : FitsSigned w64 n = search rules in
    let P : BinaryOperator → Type 0 = λ o. Makes (λ w. operate o (pure.Address x) v w) m c.repeat_list.new.arena c.repeat_list.result in
    subst P (sym c.in-Multiply.is) (makes_as (λ w. operate tree.Multiply (pure.Address x) v w) (λ w. list_repeated (list_at m x) n w) m c.repeat_list.new.arena c.repeat_list.result (λ w e. list_times m x v n w c.requires.list c.in-Ok.ensures.ok e) (rw (to_z-of_z fits) at c.repeat_list.ensures))

pub returns-in-Err : goal.returns-in-Err
returns-in-Err c =
    let m = c.args.arena.now in
    let x = c.args.list in
    let v = value_of m c.args.other in
    let P : BinaryOperator → Type 0 = λ o. Makes (λ w. operate o (pure.Address x) v w) m m (Err (Raises c.in-Err.cause)) in
    let Q : Cause → Type 0 = λ q. Makes (λ w. operate tree.Multiply (pure.Address x) v w) m m (Err (Raises q)) in
    subst P (sym c.in-Multiply.is) (subst Q (sym c.in-Err.ensures.err.1) (throws_wrong (λ w. operate tree.Multiply (pure.Address x) v w) m (λ w e. list_no_times x v w c.in-Err.ensures.err.0), refl))

pub returns-in_default : goal.returns-in_default
returns-in_default c =
    let m = c.args.arena.now in
    let v = value_of m c.args.other in
    (throws_wrong (λ w. operate c.args.operator (pure.Address c.args.list) v w) m (λ w e. list_wrong c.args.operator m c.args.list v w c.in_default.not-Multiply c.requires.none e), refl)
