use Rattle.std.proofs.Common.{sym, ap, ◌∙◌}
use Rattle.std.proofs.lemmas.Str.{chars-nil}
use Rattle.si_slots.specs.Literals.{name_in}
use Rattle.si_slots.proofs.literal.Literal.name.Goals as goal

pub returns-in-Bytes : goal.returns-in-Bytes
returns-in-Bytes c = chars-nil ∙ sym (ap name_in c.in-Bytes.is)

pub returns-in-Keywords : goal.returns-in-Keywords
returns-in-Keywords c = chars-nil ∙ sym (ap name_in c.in-Keywords.is)

pub returns-in-Int : goal.returns-in-Int
returns-in-Int c = chars-nil ∙ sym (ap name_in c.in-Int.is)
