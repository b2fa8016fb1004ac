use Rattle.std.proofs.Common.{◌≡◌, ◌<◌, Some, ap, sym, ◌∙◌, length, rules, arith}
use Rattle.std.specs.Prelude.{slice_get, slice_index}
use Rattle.std.proofs.lemmas.Option.{slice_get-get_or}
use Rattle.si_semantics.specs.Operations.{gave}
use Rattle.si_semantics.specs.Subscription.{character, character_at, item_meant}
use Rattle.si_arena.specs.Texts.{text_of}
use Rattle.si_ops.proofs.subscripts.character_in.Goals as goal

pub returns-in-Some : goal.returns-in-Some
returns-in-Some c =
    let t = text_of c.args.arena.now.texts c.args.text in
    let k = c.in-Some.place in
    let is : item_meant c.args.count c.args.index ≡ Some k = search rules in
    let less : k < length t = omega (arith, c.in-Some.ensures.inside, c.requires.count) in
    let there : slice_get t k ≡ Some (slice_index t k) = slice_get-get_or t k 0 less in
    ((λ w e. ap (λ o. character_at t o w) is ∙ ap (λ o. character o w) there ∙ ap (λ v. gave v w) (sym c.character.ensures.denotes)), c.character.ensures.lies)
