use Rattle.std.proofs.Common.{◌≡◌, ◌<◌, Some, None, length, sym, ap, subst, ◌∙◌, rules}
use Rattle.std.proofs.lemmas.List.{length-map}
use Rattle.si_semantics.specs.Subscription.{item_meant}
use Rattle.si_arena.specs.Memory.{value_of, list_at}
use Rattle.si_ops.proofs.Holding.{list_there, list_is}
use Rattle.si_ops.proofs.changes.place_in.Goals as goal

pub returns-in-None : goal.returns-in-None
returns-in-None c = λ h. absurd (c.in-None.ensures.none (list_at c.args.arena.now c.args.address) h)

pub returns-in-Some-item_meant : goal.returns-in-Some-item_meant
returns-in-Some-item_meant c =
    let m = c.args.arena.now in
    let rs = c.in-Some.items.now in
    let at = c.in-Some.ensures.some.0 in
    let count : length rs ≡ length (list_at m c.args.address) = sym (ap length (list_is m c.args.address _ at) ∙ length-map rs (value_of m)) in
    let is : item_meant (length rs) c.args.index ≡ Some c.in-Some-item_meant.place = search rules in
    (list_there m c.args.address _ at, ap (λ n. item_meant n c.args.index) (sym count) ∙ is, subst (λ n. c.in-Some-item_meant.place < n) count c.in-Some-item_meant.ensures.inside)

pub returns-in-None-item_meant : goal.returns-in-None-item_meant
returns-in-None-item_meant c = λ h.
    let m = c.args.arena.now in
    let rs = c.in-Some.items.now in
    let at = c.in-Some.ensures.some.0 in
    let count : length rs ≡ length (list_at m c.args.address) = sym (ap length (list_is m c.args.address _ at) ∙ length-map rs (value_of m)) in
    let is : item_meant (length rs) c.args.index ≡ None = search rules in
    ap (λ n. item_meant n c.args.index) (sym count) ∙ is
