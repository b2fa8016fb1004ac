use Rattle.std.proofs.Common.{◌∙◌}
use Rattle.si_ops.proofs.Named.{same_characters}
use Rattle.si_ops.proofs.first.is_spelled.Goals as goal

pub returns : goal.returns
returns c = c.eq.ensures ∙ same_characters c.args.name.now c.args.word.now c.utf8.name c.utf8.word
