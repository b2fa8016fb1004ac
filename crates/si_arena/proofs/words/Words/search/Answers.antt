use Rattle.std.proofs.Common.{◌≡◌, length, slice_get, Some, ap, sym, subst, ◌∙◌, arith}
use Rattle.std.specs.Prelude.{◌≢◌}
use Rattle.std.proofs.lemmas.List.{length-map}
use Rattle.std.proofs.lemmas.Option.{slice_get_within}
use Rattle.si_arena.specs.Texts.{text_of, characters_in}
use Rattle.si_arena.specs.inner.Words.{Words, words_of, TextsLie}
use Rattle.si_arena.proofs.Wording.{text_at, word_at, not_word, below_next}
use Rattle.si_arena.proofs.Keyed.{text_same, text_apart}
use Rattle.si_arena.proofs.words.Words.search.Goals as goal

pub characters-requires : goal.characters-requires
characters-requires c =
    let h = subst (λ (w : Words). TextsLie c.args.texts.now w.texts) (sym c.self.view_is) c.requires.lie in
    let a : c.len-i-end.result ≡ c.self.inside.texts.len = c.len-i-end.ensures in
    let b = c.self.inside.texts.ok in
    text_at c.args.texts.now c.self.inside.texts.items c.loop-i.i _ _ h (omega (arith, c.loop-i-test.true, a, b)) c.index.ensures

pub returns-then-are_same : goal.returns-then-are_same
returns-then-are_same c =
    let rows = c.args.texts.now in
    let own : Words = record { first = c.self.inside.first.entries; texts = c.self.inside.texts.items } in
    let a : c.len-i-end.result ≡ c.self.inside.texts.len = c.len-i-end.ensures in
    let b = c.self.inside.texts.ok in
    let same = text_same (characters_in c.characters.result) (characters_in c.args.characters) (sym c.are_same.ensures ∙ c.if-are_same.true) in
    subst (λ (w : Words). slice_get (words_of rows w) c.loop-i.i ≡ Some (characters_in c.args.characters)) c.self.view_is
    (word_at rows own c.loop-i.i _ _ (omega (arith, c.loop-i-test.true, a, b)) c.index.ensures ∙ ap (λ t. Some t) (sym c.characters.ensures ∙ same))

pub loop-i-preserved : goal.loop-i-preserved
loop-i-preserved c =
    let rows = c.args.texts.now in
    let t = characters_in c.args.characters in
    let own : Words = record { first = c.self.inside.first.entries; texts = c.self.inside.texts.items } in
    let a : c.len-i-end.result ≡ c.self.inside.texts.len = c.len-i-end.ensures in
    let b = c.self.inside.texts.ok in
    let here =
    subst (λ (w : Words). slice_get (words_of rows w) c.loop-i.i ≢ Some t) c.self.view_is
    (not_word rows own c.loop-i.i _ _ t (omega (arith, c.loop-i-test.true, a, b)) c.index.ensures
    (λ e. text_apart (characters_in c.characters.result) t (sym c.are_same.ensures ∙ c.if-are_same.false) (c.characters.ensures ∙ e))) in
    λ k lt. below_next (λ j. slice_get (words_of rows c.args.self.now) j ≢ Some t) c.loop-i.i k c.loop-i.invariant here lt

pub returns : goal.returns
returns c = λ i e.
    let rows = c.args.texts.now in
    let a : c.len-i-end.result ≡ c.self.inside.texts.len = c.len-i-end.ensures in
    let b = c.self.inside.texts.ok in
    let within = slice_get_within (words_of rows c.args.self.now) i (characters_in c.args.characters) e in
    let same = ap (λ (w : Words). length w.texts) c.self.view_is in
    c.loop-i.invariant i (omega (arith, within, length-map c.args.self.now.texts (text_of rows), same, a, b, c.loop-i-test.false)) e
