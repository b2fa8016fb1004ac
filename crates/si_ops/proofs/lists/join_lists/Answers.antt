use Rattle.std.proofs.Common.{◌≡◌, ◌+◌, ◌++◌, true, false, length, refl, sym, ap, ◌∙◌}
use Rattle.std.specs.Prelude.{nat_lt}
use Rattle.std.proofs.lemmas.List.{length-map}
use Rattle.si_semantics.specs.Value as pure
use Rattle.si_semantics.specs.Text.{max_length}
use Rattle.si_semantics.specs.Operations as operations
use Rattle.si_semantics.specs.Operations.{list_within}
use Rattle.si_arena.specs.Memory.{value_of, all_of, list_at}
use Rattle.std.proofs.Common.{length-append}
use Rattle.si_ops.proofs.Changing.{list_made, list_thrown}
use Rattle.si_ops.proofs.lists.join_lists.Goals as goal

pub returns-then-are_too_many : goal.returns-then-are_too_many
returns-then-are_too_many c =
    let m = c.args.arena.now in
    let us = list_at m c.args.left in
    let vs = list_at m c.args.right in
    let rs = c.items_at.result.now in
    let count : length rs ≡ length vs = sym (length-map rs (value_of m)) ∙ ap length c.items_at.ensures.items in
    let over = ap (nat_lt max_length) (length-append us vs) ∙ ap (λ n. nat_lt max_length (length us + n)) (sym count) ∙ sym c.are_too_many.ensures ∙ c.if-are_too_many.true in
    list_thrown (λ w. list_within (us ++ vs) w) (us ++ vs) m (λ w e. refl) over

pub make_list-requires : goal.make_list-requires
make_list-requires c = c.in_ok-items.ensures.lie

pub returns : goal.returns
returns c =
    let m = c.args.arena.now in
    let us = list_at m c.args.left in
    let vs = list_at m c.args.right in
    let rs = c.items_at.result.now in
    let count : length rs ≡ length vs = sym (length-map rs (value_of m)) ∙ ap length c.items_at.ensures.items in
    let short = ap (nat_lt max_length) (length-append us vs) ∙ ap (λ n. nat_lt max_length (length us + n)) (sym count) ∙ sym c.are_too_many.ensures ∙ c.if-are_too_many.false in
    list_made (λ w. list_within (us ++ vs) w) (all_of m c.in_ok-items.items.items) (us ++ vs) m c.make_list.new.self c.in_ok-list.list (λ w e. refl) short c.in_ok-items.ensures.all c.in_ok-list.ensures.ok
