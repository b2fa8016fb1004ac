use Rattle.std.proofs.Common.{pos, ◌++◌, ap, ap₂, ◌∙◌, append_assoc}
use Rattle.std.specs.Prelude.{codes}
use Rattle.si_plain.specs.Characters.{characters_of}
use Rattle.si_semantics.specs.Text.{decimal}
use Rattle.si_methods.proofs.Words.{interpreter_word}
use Rattle.si_methods.proofs.messages.interpreter_message.Goals as goal

pub returns : goal.returns
returns c =
    let end = characters_of c.args.end.now in
    c.in_ok-push_str.ensures.ok
    ∙ ap (λ t. t ++ end) (c.in_ok-append.ensures.ok ∙ ap₂ (λ a b. a ++ b) (c.in_ok-text.ensures ∙ interpreter_word) c.in_ok-number.ensures)
    ∙ append_assoc (codes "interpreter ") (decimal (pos c.args.id)) end
