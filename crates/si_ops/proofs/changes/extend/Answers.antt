use Rattle.std.specs.Prelude.{nat_lt}
use Rattle.si_semantics.specs.Text.{max_length}
use Rattle.si_arena.specs.Memory.{with_object}
use Rattle.std.proofs.Common.{◌+◌, ◌++◌, length, refl, sym, ap, subst, ◌∙◌, arith, slice_get}
use Rattle.si_semantics.specs.Value as pure
use Rattle.si_semantics.specs.Operations.{items_from}
use Rattle.si_semantics.specs.Containers.{added_to, extended}
use Rattle.si_arena.specs.Memory.{value_of, all_of, list_at, AllLie}
use Rattle.si_ops.specs.Items.{world_of, gone_over}
use Rattle.si_ops.proofs.Changing.{throws_wrong, throws_long, changed_gives, extends_changed}
use Rattle.si_ops.proofs.GoneOver.{items_same, count_of, counted, not_counted}
use Rattle.si_ops.proofs.Setting.{added_at, extended_fits, extended_over}
use Rattle.si_ops.proofs.changes.extend.Goals as goal

pub returns-in_default : goal.returns-in_default
returns-in_default c =
    let m = c.args.arena.now in
    let v = value_of m c.args.value in
    let x = c.args.address in
    let none = not_counted (items_from v (world_of m)) (sym c.in_default.is ∙ c.items_count.ensures) in
    (throws_wrong (λ w. added_to x (slice_get w.store x) v w) m (λ w e. added_at m v x w c.requires.list e ∙ ap (λ o. extended x (list_at m x) o w) (items_same m v w e ∙ none)), refl)

pub returns-then-are_too_many : goal.returns-then-are_too_many
returns-then-are_too_many c =
    let m = c.args.arena.now in
    let v = value_of m c.args.value in
    let x = c.args.address in
    let k = c.in-Some.count in
    let us = gone_over m v in
    let long = counted (items_from v (world_of m)) k c.in-Some.ensures in
    let over = ap (λ n. nat_lt max_length (length (list_at m x) + n)) long ∙ sym c.are_too_many.ensures ∙ c.if-are_too_many.true in
    (throws_long (λ w. added_to x (slice_get w.store x) v w) m (λ w e. added_at m v x w c.requires.list e ∙ ap (λ o. extended x (list_at m x) o w) (items_same m v w e ∙ count_of (items_from v (world_of m)) k c.in-Some.ensures) ∙ extended_over x (list_at m x) us w over), refl)

pub collected-requires-clause-count : goal.collected-requires-clause-count
collected-requires-clause-count c =
    let m = c.args.arena.now in
    let v = value_of m c.args.value in
    sym (counted (items_from v (world_of m)) c.in-Some.count c.in-Some.ensures)

pub extend-requires-clause-items : goal.extend-requires-clause-items
extend-requires-clause-items c =
    let m = c.args.arena.now in
    subst (AllLie m) (sym c.as_slice.ensures.value) c.in_ok-items.ensures.lie

pub returns : goal.returns
returns c =
    let m = c.args.arena.now in
    let v = value_of m c.args.value in
    let x = c.args.address in
    let k = c.in-Some.count in
    let vs = list_at m x in
    let us = gone_over m v in
    let new = c.extend.new.self in
    let long = counted (items_from v (world_of m)) k c.in-Some.ensures in
    let short = ap (λ n. nat_lt max_length (length vs + n)) long ∙ sym c.are_too_many.ensures ∙ c.if-are_too_many.false in
    let all = ap (all_of m) c.as_slice.ensures.value ∙ c.in_ok-items.ensures.all in
    let is = c.in_ok-extend.ensures.ok ∙ ap (λ qs. with_object x (pure.Items (vs ++ qs)) m) all in
    let extends = extends_changed m new x (pure.Items (vs ++ us)) is in
    let more = extends.objects in (
      changed_gives (λ w. added_to x (slice_get w.store x) v w) x (pure.Items (vs ++ us)) (pure.Address x) m new (λ w e. added_at m v x w c.requires.list e ∙ ap (λ o. extended x vs o w) (items_same m v w e ∙ count_of (items_from v (world_of m)) k c.in-Some.ensures) ∙ extended_fits x vs us w short) is,
      omega (arith, more, c.requires.address),
      extends,
    )
