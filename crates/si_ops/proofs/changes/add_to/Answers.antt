use Rattle.std.proofs.Common.{ap, slice_get}
use Rattle.si_semantics.specs.Value as pure
use Rattle.si_semantics.specs.Tree as tree
use Rattle.si_semantics.specs.Operations.{operate}
use Rattle.si_semantics.specs.Containers.{augment, added_to}
use Rattle.si_arena.specs.Memory.{value_of, dict_at}
use Rattle.si_ops.proofs.Changing.{makes_as}
use Rattle.si_ops.proofs.RunningLists.{no_list_here, dict_no_list, plain_no_list}
use Rattle.si_ops.proofs.Setting.{augmented_no_list}
use Rattle.si_ops.proofs.changes.add_to.Goals as goal

pub returns-in-List : goal.returns-in-List
returns-in-List c =
    let m = c.args.arena.now in
    let u = value_of m c.args.left in
    let v = value_of m c.args.right in
    let x = c.in-List.address in
    let h = c.in-List.ensures in
    record {
      makes = makes_as (λ w. augment tree.Add u v w) (λ w. added_to x (slice_get w.store x) v w) m c.extend.new.arena c.extend.result (λ w e. ap (λ z. augment tree.Add z v w) h.0) c.extend.ensures;
      memory = λ n. absurd (no_list_here m u x h.0 h.2 n.0);
    }

pub returns-in-Dict : goal.returns-in-Dict
returns-in-Dict c =
    let m = c.args.arena.now in
    let u = value_of m c.args.left in
    let v = value_of m c.args.right in
    let h = c.in-Dict.ensures in
    let no = dict_no_list m.store u c.in-Dict.field-0 (dict_at m c.in-Dict.field-0) h.0 h.2 in
    record {
      makes = makes_as (λ w. augment tree.Add u v w) (λ w. operate tree.Add u v w) m c.binary.new.arena c.binary.result (λ w e. augmented_no_list m u v w no e) c.binary.ensures.makes;
      memory = c.binary.ensures.memory;
    }

pub returns-in-Other : goal.returns-in-Other
returns-in-Other c =
    let m = c.args.arena.now in
    let u = value_of m c.args.left in
    let v = value_of m c.args.right in
    let no = plain_no_list m.store u c.in-Other.ensures in
    let called = c.binary-in-Other in
    record {
      makes = makes_as (λ w. augment tree.Add u v w) (λ w. operate tree.Add u v w) m called.new.arena called.result (λ w e. augmented_no_list m u v w no e) called.ensures.makes;
      memory = called.ensures.memory;
    }
