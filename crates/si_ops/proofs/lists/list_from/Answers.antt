use Rattle.std.proofs.Common.{◌<◌, ◌≤◌, length, refl, sym, ap, ◌∙◌, arith}
use Rattle.std.proofs.Common.{lt-ltb, le-ltb}
use Rattle.si_semantics.specs.Value as pure
use Rattle.si_semantics.specs.Text.{max_length}
use Rattle.si_semantics.specs.Operations as operations
use Rattle.si_semantics.specs.Operations.{items_from, list_from, list_made as listed}
use Rattle.si_arena.specs.Memory.{value_of, all_of}
use Rattle.si_ops.specs.Items.{world_of, gone_over}
use Rattle.si_ops.proofs.GoneOver.{items_same, count_of, counted, not_counted}
use Rattle.si_ops.proofs.Changing.{list_made, list_thrown, throws_wrong}
use Rattle.si_ops.proofs.lists.list_from.Goals as goal

pub returns-in_default : goal.returns-in_default
returns-in_default c =
    let m = c.args.arena.now in
    let v = value_of m c.args.value in
    let none = not_counted (items_from v (world_of m)) (sym c.in_default.is ∙ c.items_count.ensures) in
    (throws_wrong (λ w. list_from v w) m (λ w e. ap (λ o. listed o w) (items_same m v w e ∙ none)), refl)

pub returns-then-count : goal.returns-then-count
returns-then-count c =
    let m = c.args.arena.now in
    let v = value_of m c.args.value in
    let k = c.in-Some.count in
    let count = counted (items_from v (world_of m)) k c.in-Some.ensures in
    let long : max_length < length (gone_over m v) = omega (arith, count) in
    list_thrown (λ w. list_from v w) (gone_over m v) m (λ w e. ap (λ o. listed o w) (items_same m v w e ∙ count_of (items_from v (world_of m)) k c.in-Some.ensures)) (lt-ltb _ _ long)

pub collected-requires-clause-count : goal.collected-requires-clause-count
collected-requires-clause-count c =
    let m = c.args.arena.now in
    let v = value_of m c.args.value in
    sym (counted (items_from v (world_of m)) c.in-Some.count c.in-Some.ensures)

pub make_list-requires : goal.make_list-requires
make_list-requires c = c.in_ok-items.ensures.lie

pub returns : goal.returns
returns c =
    let m = c.args.arena.now in
    let v = value_of m c.args.value in
    let k = c.in-Some.count in
    let count = counted (items_from v (world_of m)) k c.in-Some.ensures in
    let short : length (gone_over m v) ≤ max_length = omega (arith, count) in
    list_made (λ w. list_from v w) (all_of m c.in_ok-items.items.items) (gone_over m v) m c.make_list.new.self c.in_ok-list.list (λ w e. ap (λ o. listed o w) (items_same m v w e ∙ count_of (items_from v (world_of m)) k c.in-Some.ensures)) (le-ltb _ _ short) c.in_ok-items.ensures.all c.in_ok-list.ensures.ok
