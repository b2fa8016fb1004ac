use Rattle.std.proofs.Common.{◌<◌, ◌≤◌, length, refl, arith}
use Rattle.std.proofs.Common.{lt-ltb, le-ltb}
use Rattle.std.proofs.lemmas.List.{length-map}
use Rattle.si_semantics.specs.Value as pure
use Rattle.si_semantics.specs.Text.{max_length}
use Rattle.si_semantics.specs.Operations as operations
use Rattle.si_semantics.specs.Operations.{list_within}
use Rattle.si_arena.specs.Memory.{value_of, all_of}
use Rattle.si_ops.proofs.Changing.{list_made, list_thrown}
use Rattle.si_ops.proofs.lists.make_list.Goals as goal

pub returns-then-items-gt-MAX_ITEMS : goal.returns-then-items-gt-MAX_ITEMS
returns-then-items-gt-MAX_ITEMS c =
    let m = c.args.arena.now in
    let rs = c.args.items.now in
    let vs = all_of m rs in
    let long : max_length < length vs = omega (arith, length-map rs (value_of m)) in
    list_thrown (λ w. list_within vs w) vs m (λ w e. refl) (lt-ltb _ _ long)

pub returns : goal.returns
returns c =
    let m = c.args.arena.now in
    let rs = c.args.items.now in
    let vs = all_of m rs in
    let short : length vs ≤ max_length = omega (arith, length-map rs (value_of m)) in
    list_made (λ w. list_within vs w) vs vs m c.make_list_of.new.self c.in_ok-list.list (λ w e. refl) (le-ltb _ _ short) refl c.in_ok-list.ensures.ok
