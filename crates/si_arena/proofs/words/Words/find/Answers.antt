use Rattle.std.proofs.Common.{◌≡◌, slice_get, Some, ap, sym, subst, ◌∙◌, arith}
use Rattle.std.specs.Prelude.{nat_eq}
use Rattle.std.specs.Map.{lookup}
use Rattle.std.proofs.lemmas.List.{length-map}
use Rattle.si_arena.specs.Texts.{text_of, characters_in}
use Rattle.si_arena.specs.inner.Words.{Words, words_of, WordsLie}
use Rattle.si_arena.proofs.Wording.{text_at, word_at}
use Rattle.si_arena.proofs.Keyed.{text_same}
use Rattle.si_arena.proofs.words.Words.find.Goals as goal

pub characters-requires : goal.characters-requires
characters-requires c =
    let rows = c.args.texts.now in
    let h = subst (WordsLie rows) (sym c.self.view_is) c.requires.words in
    let value = c.in_ok-first.ensures.value in
    let first = c.in_ok-first.field-0.now in
    let e : lookup (nat_eq c.number_in.result) c.self.inside.first.entries ≡ Some first = sym value in
    text_at rows c.self.inside.texts.items first _ _ h.lie (omega (arith, h.are.within c.number_in.result first e, length-map c.self.inside.texts.items (text_of rows))) c.index.ensures

pub returns-then-are_same : goal.returns-then-are_same
returns-then-are_same c =
    let rows = c.args.texts.now in
    let own : Words = record { first = c.self.inside.first.entries; texts = c.self.inside.texts.items } in
    let h = subst (WordsLie rows) (sym c.self.view_is) c.requires.words in
    let value = c.in_ok-first.ensures.value in
    let first = c.in_ok-first.field-0.now in
    let e : lookup (nat_eq c.number_in.result) c.self.inside.first.entries ≡ Some first = sym value in
    let same = text_same (characters_in c.characters.result) (characters_in c.characters-characters.result) (sym c.are_same.ensures ∙ c.if-are_same.true) in
    subst (λ (w : Words). slice_get (words_of rows w) first ≡ Some (text_of rows c.args.text.now)) c.self.view_is
    (word_at rows own first _ _ (omega (arith, h.are.within c.number_in.result first e, length-map c.self.inside.texts.items (text_of rows))) c.index.ensures
    ∙ ap (λ t. Some t) (sym c.characters.ensures ∙ same ∙ c.characters-characters.ensures))
