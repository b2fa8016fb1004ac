use Rattle.std.proofs.Common.{ap, subst, ◌∙◌}
use Rattle.si_semantics.specs.Value as pure
use Rattle.si_semantics.specs.Operations.{operate}
use Rattle.si_arena.specs.Memory.{value_of}
use Rattle.si_ops.specs.inner.Held.{IsListIn}
use Rattle.si_ops.proofs.Calling.{makes_runs}
use Rattle.si_ops.proofs.Changing.{makes_as}
use Rattle.si_ops.proofs.RunningLists.{list_turned, no_list_here}
use Rattle.si_ops.proofs.arithmetic.operands.Goals as goal

pub placed-requires-clause-no_lists : goal.placed-requires-clause-no_lists
placed-requires-clause-no_lists c =
    let m = c.args.arena.now in
    let k = c.in-None-None in
    (subst (IsListIn m (value_of m c.args.left)) k.is-0 c.list_in.ensures, subst (IsListIn m (value_of m c.args.right)) k.is-1 c.list_in-2.ensures)

pub returns-in-None-None : goal.returns-in-None-None
returns-in-None-None c =
    let m = c.args.arena.now in
    record {
      makes = makes_runs (λ w. operate c.args.operator (value_of m c.args.left) (value_of m c.args.right) w) m c.placed.new.arena c.placed.result c.placed.ensures.runs;
      memory = λ n. c.placed.ensures.memory;
    }

pub joined_lists-requires : goal.joined_lists-requires
joined_lists-requires c =
    let m = c.args.arena.now in
    let k = c.in-Some-Some in
    let p = subst (IsListIn m (value_of m c.args.left)) k.is-0 c.list_in.ensures in
    let q = subst (IsListIn m (value_of m c.args.right)) k.is-1 c.list_in-2.ensures in
    record { left = p.1; left_list = p.2; right = q.1; right_list = q.2 }

pub returns-in-Some-Some : goal.returns-in-Some-Some
returns-in-Some-Some c =
    let m = c.args.arena.now in
    let k = c.in-Some-Some in
    let o = c.args.operator in
    let u = value_of m c.args.left in
    let v = value_of m c.args.right in
    let p = subst (IsListIn m u) k.is-0 c.list_in.ensures in
    let q = subst (IsListIn m v) k.is-1 c.list_in-2.ensures in
    record {
      makes = makes_as (λ w. operate o u v w) (λ w. operate o (pure.Address k.x) (pure.Address k.y) w) m c.joined_lists.new.arena c.joined_lists.result (λ w e. ap (λ z. operate o z v w) p.0 ∙ ap (λ z. operate o (pure.Address k.x) z w) q.0) c.joined_lists.ensures;
      memory = λ n. absurd (no_list_here m u k.x p.0 p.2 n.0);
    }

pub list_copies-requires-in-Some-None : goal.list_copies-requires-in-Some-None
list_copies-requires-in-Some-None c =
    let m = c.args.arena.now in
    let k = c.in-Some-None in
    let p = subst (IsListIn m (value_of m c.args.left)) k.is-0 c.list_in.ensures in
    let q = subst (IsListIn m (value_of m c.args.right)) k.is-1 c.list_in-2.ensures in
    record { address = p.1; list = p.2; other = c.requires.right; none = q }

pub returns-in-Some-None : goal.returns-in-Some-None
returns-in-Some-None c =
    let m = c.args.arena.now in
    let k = c.in-Some-None in
    let o = c.args.operator in
    let u = value_of m c.args.left in
    let v = value_of m c.args.right in
    let p = subst (IsListIn m u) k.is-0 c.list_in.ensures in
    record {
      makes = makes_as (λ w. operate o u v w) (λ w. operate o (pure.Address k.x) v w) m c.list_copies-in-Some-None.new.arena c.list_copies-in-Some-None.result (λ w e. ap (λ z. operate o z v w) p.0) c.list_copies-in-Some-None.ensures;
      memory = λ n. absurd (no_list_here m u k.x p.0 p.2 n.0);
    }

pub list_copies-requires : goal.list_copies-requires
list_copies-requires c =
    let m = c.args.arena.now in
    let k = c.in-None-Some in
    let p = subst (IsListIn m (value_of m c.args.left)) k.is-0 c.list_in.ensures in
    let q = subst (IsListIn m (value_of m c.args.right)) k.is-1 c.list_in-2.ensures in
    record { address = q.1; list = q.2; other = c.requires.left; none = p }

pub returns-in-None-Some : goal.returns-in-None-Some
returns-in-None-Some c =
    let m = c.args.arena.now in
    let k = c.in-None-Some in
    let o = c.args.operator in
    let u = value_of m c.args.left in
    let v = value_of m c.args.right in
    let p = subst (IsListIn m u) k.is-0 c.list_in.ensures in
    let q = subst (IsListIn m v) k.is-1 c.list_in-2.ensures in
    let called = c.list_copies in
    record {
      makes = makes_as (λ w. operate o u v w) (λ w. operate o (pure.Address k.y) u w) m called.new.arena called.result (λ w e. ap (λ z. operate o u z w) q.0 ∙ list_turned o m k.y u w p e) called.ensures;
      memory = λ n. absurd (no_list_here m v k.y q.0 q.2 n.1);
    }
