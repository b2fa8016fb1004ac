use Rattle.std.proofs.Common.{◌+◌, ◌<◌, ◌≤◌, length, ap, ◌∙◌, arith, slice_get}
use Rattle.std.proofs.lemmas.List.{length-map}
use Rattle.si_semantics.specs.Operations.{next_of_list, item_or_end, Listed}
use Rattle.si_arena.specs.Memory.{value_of, all_of}
use Rattle.si_arena.proofs.Sizes.{lies_at}
use Rattle.si_ops.proofs.Holding.{slice_there, slice_over, no_list_next}
use Rattle.si_ops.proofs.items.next_listed.Goals as goal

pub returns-in-None : goal.returns-in-None
returns-in-None c = λ w e.
    let m = c.args.arena.now in
    let x = c.args.address in
    ap (λ s. next_of_list x c.args.at (slice_get s x)) e ∙ no_list_next x c.args.at (slice_get m.store x) c.in-None.ensures.none

pub returns-then-at-items : goal.returns-then-at-items
returns-then-at-items c = λ w e.
    let m = c.args.arena.now in
    let x = c.args.address in
    let rs = c.in-Some.items.now in
    let over : length (all_of m rs) ≤ c.args.at = omega (arith, length-map rs (value_of m)) in
    ap (λ s. next_of_list x c.args.at (slice_get s x)) e ∙ ap (next_of_list x c.args.at) c.in-Some.ensures.some.0 ∙ ap (λ o. item_or_end o (Listed x (c.args.at + 1))) (slice_over (all_of m rs) c.args.at over)

pub returns-else-at-items : goal.returns-else-at-items
returns-else-at-items c =
    let m = c.args.arena.now in
    let x = c.args.address in
    let rs = c.in-Some.items.now in
    let there : c.args.at < length rs = omega arith in
    let r = c.index-items-at.result in
    ((λ w e. ap (λ s. next_of_list x c.args.at (slice_get s x)) e ∙ ap (next_of_list x c.args.at) c.in-Some.ensures.some.0 ∙ ap (λ o. item_or_end o (Listed x (c.args.at + 1))) (slice_there m rs c.args.at r there c.index-items-at.is)), lies_at m rs c.args.at r r c.index-items-at.is there c.in-Some.ensures.some.1, c.requires)
