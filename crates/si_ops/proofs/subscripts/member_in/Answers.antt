use Rattle.std.proofs.Common.{◌≡◌, Some, ap, ◌∙◌, length, rules}
use Rattle.si_semantics.specs.Subscription.{item_of, item_meant}
use Rattle.si_arena.specs.Memory.{all_of}
use Rattle.si_arena.proofs.Sizes.{lies_at}
use Rattle.si_ops.proofs.Tupled.{member_there}
use Rattle.si_ops.proofs.subscripts.member_in.Goals as goal

pub returns-in-Some : goal.returns-in-Some
returns-in-Some c =
    let m = c.args.arena.now in
    let rs = c.args.items.now in
    let is : item_meant (length rs) c.args.index ≡ Some c.in-Some.place = search rules in
    ((λ w e. ap (λ o. item_of (all_of m rs) o w) is ∙ member_there m rs c.in-Some.place _ w c.in-Some.ensures.inside c.index-items-place.is), lies_at m rs c.in-Some.place _ _ c.index-items-place.is c.in-Some.ensures.inside c.requires)
