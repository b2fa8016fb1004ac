use Rattle.std.proofs.Common.{ap, ◌∙◌}
use Rattle.si_plain.specs.Characters.{characters_of}
use Rattle.si_semantics.specs.Text.{same_text}
use Rattle.si_ops.proofs.Named.{same_characters}
use Rattle.si_methods.proofs.characters.is_spelled.Goals as goal

pub returns : goal.returns
returns c =
    c.eq.ensures
    ∙ same_characters c.as_str.result.now c.args.word.now c.as_str.utf8 c.utf8.word
    ∙ ap (λ t. same_text t (characters_of c.args.word.now)) c.as_str.ensures.characters
