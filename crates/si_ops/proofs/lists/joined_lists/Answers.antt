use Rattle.std.proofs.Common.{◌++◌, refl, sym, subst}
use Rattle.si_plain.specs.declared.operators.BinaryOperator.{BinaryOperator}
use Rattle.si_semantics.specs.Value as pure
use Rattle.si_semantics.specs.Tree as tree
use Rattle.si_semantics.specs.Operations.{operate, list_within}
use Rattle.si_arena.specs.Memory.{list_at}
use Rattle.si_ops.specs.Calls.{Makes}
use Rattle.si_ops.proofs.Changing.{makes_as, throws_wrong}
use Rattle.si_ops.proofs.RunningLists.{lists_joined, lists_wrong}
use Rattle.si_ops.proofs.lists.joined_lists.Goals as goal

pub returns-in-Add : goal.returns-in-Add
returns-in-Add c =
    let m = c.args.arena.now in
    let x = c.args.left in
    let y = c.args.right in
    let P : BinaryOperator → Type 0 = λ o. Makes (λ w. operate o (pure.Address x) (pure.Address y) w) m c.join_lists.new.arena c.join_lists.result in
    subst P (sym c.in-Add.is) (makes_as (λ w. operate tree.Add (pure.Address x) (pure.Address y) w) (λ w. list_within (list_at m x ++ list_at m y) w) m c.join_lists.new.arena c.join_lists.result (λ w e. lists_joined m x y w c.requires.left_list c.requires.right_list e) c.join_lists.ensures)

pub returns-in_default : goal.returns-in_default
returns-in_default c =
    let m = c.args.arena.now in
    (throws_wrong (λ w. operate c.args.operator (pure.Address c.args.left) (pure.Address c.args.right) w) m (λ w e. lists_wrong c.args.operator c.args.left c.args.right w c.in_default.not-Add), refl)
