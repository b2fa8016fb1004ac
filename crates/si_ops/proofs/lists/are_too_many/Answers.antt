use Rattle.std.proofs.Common.{◌≡◌, ◌+◌, length, sym, ap, ◌∙◌}
use Rattle.std.specs.Prelude.{nat_lt}
use Rattle.std.proofs.lemmas.List.{length-map}
use Rattle.si_semantics.specs.Value as pure
use Rattle.si_semantics.specs.Text.{max_length}
use Rattle.si_semantics.specs.Operations as operations
use Rattle.si_arena.specs.Memory.{value_of, list_at}
use Rattle.si_ops.proofs.lists.are_too_many.Goals as goal

pub returns : goal.returns
returns c =
    let m = c.args.arena.now in
    let rs = c.items_at.result.now in
    let count : length rs ≡ length (list_at m c.args.address) = sym (length-map rs (value_of m)) ∙ ap length c.items_at.ensures.items in
    c.is_past_all.ensures ∙ ap (λ n. nat_lt max_length (n + c.args.more)) count
