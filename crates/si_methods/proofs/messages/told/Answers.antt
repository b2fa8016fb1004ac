use Rattle.std.proofs.Common.{◌≡◌, true, false, [], ◌++◌, ap, ap₂, sym, ◌∙◌, append_assoc}
use Rattle.std.specs.Prelude.{codes}
use Rattle.si_plain.specs.Characters.{characters_of}
use Rattle.si_plain.specs.Kinds.{name_of}
use Rattle.si_semantics.specs.Text.{kind_and_message}
use Rattle.si_methods.proofs.Words.{colon_word}
use Rattle.si_methods.proofs.Telling.{name_characters, told_some}
use Rattle.si_methods.proofs.messages.told.Goals as goal

pub returns-then-is_empty : goal.returns-then-is_empty
returns-then-is_empty c =
    let none : c.args.message.now ≡ [] = c.is_empty.ensures.0 c.if-is_empty.true in
    c.in_ok-text.ensures ∙ ap characters_of c.name.ensures ∙ name_characters c.args.kind ∙ ap (kind_and_message c.args.kind) (sym none)

pub returns : goal.returns
returns c =
    let k = c.args.kind in
    let t = c.args.message.now in
    let some : t ≡ [] → ⊥ = λ e. (let two : true ≡ false = sym (c.is_empty.ensures.1 e) ∙ c.if-is_empty.false in absurd cc) in
    c.in_ok-append.ensures.ok
    ∙ ap (λ x. x ++ t) (c.in_ok-push_str.ensures.ok ∙ ap₂ (λ a b. a ++ b) (c.in_ok-text.ensures ∙ ap characters_of c.name.ensures ∙ name_characters k) colon_word)
    ∙ append_assoc (name_of k) (codes ": ") t
    ∙ sym (told_some k t some)
