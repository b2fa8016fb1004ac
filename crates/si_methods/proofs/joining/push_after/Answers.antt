use Rattle.std.proofs.Common.{◌≡◌, ◌≤◌, ◌<◌, ◌++◌, ap, ◌∙◌, arith}
use Rattle.si_semantics.specs.Text.{max_length}
use Rattle.si_arena.specs.Texts.{characters_in}
use Rattle.si_methods.specs.Joining.{characters_gathered}
use Rattle.si_methods.proofs.Joined.{goes_on, counts_exactly, counts_past}
use Rattle.si_methods.proofs.joining.push_after.Goals as goal

pub returns-then-more-gt-MAX_STR_LENGTH : goal.returns-then-more-gt-MAX_STR_LENGTH
returns-then-more-gt-MAX_STR_LENGTH c = λ done h.
    let s = characters_in c.args.between in
    let t = characters_in c.args.piece in
    let old = characters_gathered c.args.gathered.now in
    let more = c.saturating_add-more.result in
    let over : max_length < more = c.if-more-gt-MAX_STR_LENGTH.true in
    goes_on done s t old old c.args.count more
    (λ l. absurd (omega (arith, l, over)))
    (λ l.
    let e = counts_past c.args.count c.length_of.result c.length_of-2.result c.saturating_add.result more 18446744073709551615 c.saturating_add.ensures c.saturating_add-more.ensures l in
    omega (arith, e))
    (λ l. absurd (omega (arith, l, over)))
    h

pub returns : goal.returns
returns c = λ done h.
    let s = characters_in c.args.between in
    let t = characters_in c.args.piece in
    let old = characters_gathered c.args.gathered.now in
    let between = characters_gathered c.push.new.gathered in
    let new = characters_gathered c.push-2.new.gathered in
    let more = c.saturating_add-more.result in
    let most : more ≤ max_length = c.if-more-gt-MAX_STR_LENGTH.false in
    let first : between ≡ old ++ s = c.in_ok-push.ensures in
    let second : new ≡ between ++ t = c.in_ok-push-2.ensures in
    goes_on done s t old new c.args.count more
    (λ l.
    let bound : max_length < 18446744073709551615 = omega arith in
    let e = counts_exactly c.args.count c.length_of.result c.length_of-2.result c.saturating_add.result more 18446744073709551615 c.saturating_add.ensures c.saturating_add-more.ensures bound l in
    omega (arith, e))
    (λ l. absurd (omega (arith, l, most)))
    (λ l. second ∙ ap (λ x. x ++ t) first)
    h
