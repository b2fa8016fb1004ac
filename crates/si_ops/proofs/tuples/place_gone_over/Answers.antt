use Rattle.std.proofs.Common.{◌≤◌, cond, length, refl, ap, ◌∙◌, arith}
use Rattle.si_semantics.specs.Value.{tuple_of}
use Rattle.si_semantics.specs.Operations.{items_from, tuple_made, too_long, gave}
use Rattle.si_arena.specs.Memory.{value_of}
use Rattle.si_ops.specs.Items.{world_of, gone_over}
use Rattle.si_ops.proofs.Changing.{throws_long}
use Rattle.si_ops.proofs.GoneOver.{items_same, count_of, counted}
use Rattle.si_ops.proofs.Tupled.{many_items}
use Rattle.si_ops.proofs.tuples.place_gone_over.Goals as goal

pub returns-then-count-from-clause-runs : goal.returns-then-count-from-clause-runs
returns-then-count-from-clause-runs c =
    let m = c.args.arena.now in
    let v = value_of m c.args.object in
    let k = c.in-Some.count in
    let us = gone_over m v in
    let count = counted (items_from v (world_of m)) k c.in-Some.ensures in
    let long : 65536 ≤ length us = omega (arith, count) in
    (throws_long (λ w. tuple_made (items_from v w) w) m (λ w e. ap (λ o. tuple_made o w) (items_same m v w e ∙ count_of (items_from v (world_of m)) k c.in-Some.ensures) ∙ ap (λ b. cond b (too_long w) (gave (tuple_of us) w)) (many_items us long)), refl)
