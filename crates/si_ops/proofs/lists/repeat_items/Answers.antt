use Rattle.std.proofs.Common.{◌≡◌, ◌*◌, [], true, false, length, refl, sym, ap, ◌∙◌}
use Rattle.std.specs.Prelude.{nat_lt, pos}
use Rattle.std.proofs.lemmas.List.{length-map}
use Rattle.si_semantics.specs.Value as pure
use Rattle.si_semantics.specs.Text.{max_length}
use Rattle.si_semantics.specs.Operations as operations
use Rattle.si_semantics.specs.Operations.{list_repeated}
use Rattle.si_arena.specs.Memory.{value_of, all_of, list_at}
use Rattle.si_semantics.specs.Tuples.{copies}
use Rattle.si_semantics.specs.Operations.{placed}
use Rattle.si_ops.proofs.Tupled.{no_items}
use Rattle.si_ops.proofs.Changing.{made_makes, times_empty, times_over, times_fits, throws_long}
use Rattle.si_ops.proofs.lists.repeat_items.Goals as goal

pub returns-then-is_empty : goal.returns-then-is_empty
returns-then-is_empty c =
    let m = c.args.arena.now in
    let vs = list_at m c.args.list in
    let none : vs ≡ [] = sym c.items_at-items.ensures.items ∙ ap (all_of m) (no_items c.items_at-items.result.now c.is_empty.result c.is_empty.ensures c.if-is_empty.true) in
    made_makes (λ w. list_repeated vs (pos c.args.count) w) (pure.Items []) m c.make_list_of.new.self c.in_ok-list.list (λ w e. times_empty vs c.args.count w none) c.in_ok-list.ensures.ok

pub returns-then-is_copied_past : goal.returns-then-is_copied_past
returns-then-is_copied_past c =
    let m = c.args.arena.now in
    let vs = list_at m c.args.list in
    let rs = c.items_at-items.result.now in
    let count : length rs ≡ length vs = sym (length-map rs (value_of m)) ∙ ap length c.items_at-items.ensures.items in
    let over = ap (λ n. nat_lt max_length (c.args.count * n)) (sym count) ∙ sym c.is_copied_past.ensures ∙ c.if-is_copied_past.true in
    (throws_long (λ w. list_repeated vs (pos c.args.count) w) m (λ w e. times_over vs c.args.count w over), refl)

pub make_list-requires : goal.make_list-requires
make_list-requires c = c.in_ok-all.ensures.lie c.args.arena.now c.items_at-items.ensures.lie

pub returns : goal.returns
returns c =
    let m = c.args.arena.now in
    let vs = list_at m c.args.list in
    let rs = c.items_at-items.result.now in
    let count : length rs ≡ length vs = sym (length-map rs (value_of m)) ∙ ap length c.items_at-items.ensures.items in
    let short = ap (λ n. nat_lt max_length (c.args.count * n)) (sym count) ∙ sym c.is_copied_past.ensures ∙ c.if-is_copied_past.false in
    let all = c.in_ok-all.ensures.all m ∙ ap (copies c.args.count) c.items_at-items.ensures.items in
    made_makes (λ w. list_repeated vs (pos c.args.count) w) (pure.Items (all_of m c.in_ok-all.all.items)) m c.make_list.new.self c.in_ok-list-2.list (λ w e. times_fits vs c.args.count w short ∙ ap (λ us. placed (pure.Items us) w) (sym all)) c.in_ok-list-2.ensures.ok
