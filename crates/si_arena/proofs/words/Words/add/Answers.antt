use Rattle.std.proofs.Common.{◌≡◌, ℕ, length, Some, cond, ap, sym, subst, refl, ◌∙◌, arith}
use Rattle.std.specs.Prelude.{nat_eq}
use Rattle.std.specs.Map.{lookup}
use Rattle.si_arena.specs.Texts.{text_of}
use Rattle.si_arena.specs.inner.Words.{Words, number_of, WordsLie, IsStrange, IsNext}
use Rattle.si_arena.proofs.Wording.{some_there, word_kept, word_known}
use Rattle.si_arena.proofs.words.Words.add.Goals as goal

pub returns-then-contains_key-clause-ok : goal.returns-then-contains_key-clause-ok
returns-then-contains_key-clause-ok c =
    let rows = c.args.texts.now in
    let t = text_of rows c.args.text in
    let own : Words = record { first = c.self.inside.first.entries; texts = c.self.inside.texts.items } in
    let new : Words = record { first = c.self.inside.first.entries; texts = c.push.new.self.items } in
    let h = subst (WordsLie rows) (sym c.self.view_is) c.requires.words in
    let strange = subst (λ (w : Words). IsStrange rows w t) (sym c.self.view_is) c.requires.strange in
    let n : c.len-word.result ≡ length c.self.inside.texts.items = (let a : c.len-word.result ≡ c.self.inside.texts.len = c.len-word.ensures in let b = c.self.inside.texts.ok in omega (arith, a, b)) in
    let number : c.number_in-number.result ≡ number_of t = c.number_in-number.ensures ∙ ap number_of c.characters.ensures in
    let s = some_there (lookup (nat_eq c.number_in-number.result) c.self.inside.first.entries) (sym c.contains_key.ensures ∙ c.if-contains_key.true) in
    let there : lookup (nat_eq (number_of t)) c.self.inside.first.entries ≡ Some s.0 = subst (λ k. lookup (nat_eq k) c.self.inside.first.entries ≡ Some s.0) number s.1 in
    subst (λ (w : Words). IsNext rows c.args.text w new c.len-word.result) c.self.view_is
    (word_kept rows own new c.args.text c.len-word.result s.0 h (c.requires.text, tt) c.requires.long strange n c.in_ok-push.ensures.items refl there)

pub returns-in-Ok-clause-ok : goal.returns-in-Ok-clause-ok
returns-in-Ok-clause-ok c =
    let rows = c.args.texts.now in
    let t = text_of rows c.args.text in
    let own : Words = record { first = c.self.inside.first.entries; texts = c.self.inside.texts.items } in
    let new : Words = record { first = c.insert.new.self.entries; texts = c.push.new.self.items } in
    let h = subst (WordsLie rows) (sym c.self.view_is) c.requires.words in
    let strange = subst (λ (w : Words). IsStrange rows w t) (sym c.self.view_is) c.requires.strange in
    let n : c.len-word.result ≡ length c.self.inside.texts.items = (let a : c.len-word.result ≡ c.self.inside.texts.len = c.len-word.ensures in let b = c.self.inside.texts.ok in omega (arith, a, b)) in
    let number : c.number_in-number.result ≡ number_of t = c.number_in-number.ensures ∙ ap number_of c.characters.ensures in
    let updates = c.in-Ok.ensures.updates in
    let f : (k : ℕ) → lookup (nat_eq k) c.insert.new.self.entries ≡ cond (nat_eq (number_of t) k) (Some c.len-word.result) (lookup (nat_eq k) c.self.inside.first.entries) =
    λ k. updates.0 k ∙ ap (λ j. cond (nat_eq j k) (Some c.len-word.result) (lookup (nat_eq k) c.self.inside.first.entries)) number in
    let there : lookup (nat_eq (number_of t)) c.insert.new.self.entries ≡ Some c.len-word.result = subst (λ k. lookup (nat_eq k) c.insert.new.self.entries ≡ Some c.len-word.result) number updates.1 in
    subst (λ (w : Words). IsNext rows c.args.text w new c.len-word.result) c.self.view_is
    (word_known rows own new c.args.text c.len-word.result h (c.requires.text, tt) c.requires.long strange n c.in_ok-push.ensures.items f there)
