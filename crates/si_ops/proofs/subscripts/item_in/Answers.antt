use Rattle.std.proofs.lemmas.List.{length-map}
use Rattle.std.proofs.Common.{ℕ, ℤ, List, Option, length, FitsSigned, w64, to_z-of_z, rules, ap, sym, subst, ◌∙◌}
use Rattle.si_semantics.specs.Value as pure
use Rattle.si_semantics.specs.Operations.{integer_in}
use Rattle.si_semantics.specs.Subscription.{character_at, item_at, item_of, item_meant}
use Rattle.si_arena.specs.Memory.{value_of, all_of}
use Rattle.si_arena.specs.Texts.{characters_in, text_of}
use Rattle.si_ops.specs.Runs.{Tells}
use Rattle.si_ops.proofs.Indexed.{text_is, shown_text}
use Rattle.si_ops.proofs.Tupled.{items_back}
use Rattle.si_ops.proofs.subscripts.item_in.Goals as goal

pub returns-in-Str : goal.returns-in-Str
returns-in-Str c =
    let m = c.args.arena.now in
    let text = c.args.object in
    let fits : FitsSigned w64 c.in_ok-index.index = search rules in
    let s = text_of m.texts text in
    let r = c.character_in.result in
    let count = c.length_of.ensures ∙ ap length (shown_text m text (characters_in c.in-Str.text) c.in-Str.ensures.text c.in-Str.ensures.value) in
    let N : ℕ → Type 0 = λ n. Tells (λ w. character_at s (item_meant n c.in_ok-index.index) w) m r in
    let I : Option ℤ → Type 0 = λ i. Tells (λ w. item_at (pure.Str s) i w) m r in
    let V : pure.Value → Type 0 = λ v. Tells (λ w. item_at v (integer_in (value_of m c.args.index)) w) m r in
    subst V (sym (text_is m text c.in-Str.ensures.text)) (subst I (sym c.in_ok-index.ensures.ok) (subst N count (rw (to_z-of_z fits) at c.character_in.ensures)))

pub returns-in-Range : goal.returns-in-Range
returns-in-Range c =
    let m = c.args.arena.now in
    let s = c.in-Range.steps.now in
    let fits : FitsSigned w64 c.in_ok-index.index = search rules in
    let r = c.number_in.result in
    let I : Option ℤ → Type 0 = λ i. Tells (λ w. item_at (pure.Range s.start s.stop s.step) i w) m r in
    let V : pure.Value → Type 0 = λ v. Tells (λ w. item_at v (integer_in (value_of m c.args.index)) w) m r in
    subst V c.in-Range.ensures.value (subst I (sym c.in_ok-index.ensures.ok) (rw (to_z-of_z fits) at (c.number_in.ensures m)))

pub returns-in-Bytes : goal.returns-in-Bytes
returns-in-Bytes c =
    let m = c.args.arena.now in
    let fits : FitsSigned w64 c.in_ok-index.index = search rules in
    let r = c.octet_in.result in
    let I : Option ℤ → Type 0 = λ i. Tells (λ w. item_at (pure.Bytes c.in-Bytes.bytes.now) i w) m r in
    let V : pure.Value → Type 0 = λ v. Tells (λ w. item_at v (integer_in (value_of m c.args.index)) w) m r in
    subst V c.in-Bytes.ensures.value (subst I (sym c.in_ok-index.ensures.ok) (rw (to_z-of_z fits) at (c.octet_in.ensures m)))

pub returns-in-Tuple : goal.returns-in-Tuple
returns-in-Tuple c =
    let m = c.args.arena.now in
    let fits : FitsSigned w64 c.in_ok-index.index = search rules in
    let r = c.member_in.result in
    let rs = c.in-Tuple.items.now in
    let L : ℕ → Type 0 = λ n. Tells (λ w. item_of (all_of m rs) (item_meant n c.in_ok-index.index) w) m r in
    let S : List pure.Value → Type 0 = λ vs. Tells (λ w. item_of vs (item_meant (length vs) c.in_ok-index.index) w) m r in
    let I : Option ℤ → Type 0 = λ i. Tells (λ w. item_at (pure.tuple_of (all_of m rs)) i w) m r in
    let V : pure.Value → Type 0 = λ v. Tells (λ w. item_at v (integer_in (value_of m c.args.index)) w) m r in
    let there = subst S (sym (items_back (all_of m rs))) (subst L (sym (length-map rs (value_of m))) (rw (to_z-of_z fits) at c.member_in.ensures)) in
    subst V c.in-Tuple.ensures.value (subst I (sym c.in_ok-index.ensures.ok) there)
