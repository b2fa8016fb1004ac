use Rattle.std.proofs.Common.{ap, ◌∙◌}
use Rattle.std.proofs.lemmas.Str.{chars-IsAscii}
use Rattle.si_plain.specs.Characters.{characters_of}
use Rattle.si_share.proofs.text.narrow_text.Goals as goal

pub returns-in-Ok : goal.returns-in-Ok
returns-in-Ok c = c.in_ok-text.ensures ∙ ap characters_of c.in-Ok.ensures.cases.0 ∙ chars-IsAscii c.args.characters.now c.if-is_ascii.ensures.cases
