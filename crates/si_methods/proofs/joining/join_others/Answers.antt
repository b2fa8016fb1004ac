use Rattle.std.proofs.Common.{◌≡◌, ◌++◌, length, drop, Some, sym, ap, refl, ◌∙◌, arith}
use Rattle.si_semantics.specs.Attributes.{joined_after}
use Rattle.si_arena.specs.Texts.{characters_in}
use Rattle.si_methods.specs.Joining.{values_in, characters_gathered, told}
use Rattle.si_methods.proofs.Joined.{next_joined, next_other, all_joined, begins_so}
use Rattle.si_methods.proofs.Calling.{past_the_most, no_text_made}
use Rattle.si_methods.proofs.joining.join_others.Goals as goal

pub loop-i-init : goal.loop-i-init
loop-i-init c = (characters_in c.args.first, begins_so (characters_in c.args.first) (characters_gathered c.push.new.gathered) c.length_of-count.result c.length_of-count.ensures (c.in_ok-push.ensures ∙ ap (λ t. t ++ characters_in c.args.first) c.new.ensures.items), refl)

pub returns-in-None : goal.returns-in-None
returns-in-None c =
    let m = c.args.arena.now in
    let s = characters_in c.args.between in
    let vs = values_in m c.args.pieces in
    let whole = told (characters_in c.args.first) (joined_after s (drop 1 vs)) in
    let h = c.loop-i.invariant in
    let piece = c.in-None.ensures in
    no_text_made whole m (next_other s h.0 piece.value vs c.loop-i.i whole piece.there piece.shown h.2)

pub loop-i-preserved : goal.loop-i-preserved
loop-i-preserved c =
    let m = c.args.arena.now in
    let s = characters_in c.args.between in
    let t = characters_in c.in-Some.piece in
    let vs = values_in m c.args.pieces in
    let whole = told (characters_in c.args.first) (joined_after s (drop 1 vs)) in
    let h = c.loop-i.invariant in
    let piece = c.in-Some.ensures in
    ((h.0 ++ s) ++ t, c.in-Ok.ensures h.0 h.1, next_joined s t h.0 piece.value vs c.loop-i.i whole piece.there piece.shown h.2)

pub returns-then-count-gt-MAX_STR_LENGTH : goal.returns-then-count-gt-MAX_STR_LENGTH
returns-then-count-gt-MAX_STR_LENGTH c =
    let m = c.args.arena.now in
    let s = characters_in c.args.between in
    let vs = values_in m c.args.pieces in
    let whole = told (characters_in c.args.first) (joined_after s (drop 1 vs)) in
    let h = c.loop-i.invariant in
    let count : c.count_of-i-end.result ≡ length vs = c.count_of-i-end.ensures m in
    past_the_most whole h.0 m (all_joined s h.0 vs c.loop-i.i whole (omega arith) h.2) (h.1.past c.if-count-gt-MAX_STR_LENGTH.true)

pub returns : goal.returns
returns c =
    let m = c.args.arena.now in
    let s = characters_in c.args.between in
    let vs = values_in m c.args.pieces in
    let whole = told (characters_in c.args.first) (joined_after s (drop 1 vs)) in
    let h = c.loop-i.invariant in
    let count : c.count_of-i-end.result ≡ length vs = c.count_of-i-end.ensures m in
    all_joined s h.0 vs c.loop-i.i whole (omega arith) h.2 ∙ ap (λ t. Some t) (sym (h.1.stands c.if-count-gt-MAX_STR_LENGTH.false))
