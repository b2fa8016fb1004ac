use Rattle.std.proofs.Common.{◌∙◌}
use Rattle.si_ops.proofs.Named.{same_characters}
use Rattle.si_methods.proofs.characters.same_word.Goals as goal

pub returns : goal.returns
returns c = c.eq.ensures ∙ same_characters c.args.word.now c.args.other.now c.utf8.word c.utf8.other
