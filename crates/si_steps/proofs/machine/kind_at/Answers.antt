use Rattle.std.proofs.Common.{◌∙◌, ap, sym}
use Rattle.si_semantics.specs.Life.{kind_of}
use Rattle.si_steps.proofs.Told.{same_kind}
use Rattle.si_steps.proofs.machine.kind_at.Goals as goal

pub returns-in-Plain : goal.returns-in-Plain
returns-in-Plain c = c.kind.ensures ∙ sym (ap kind_of c.in-Plain.ensures.object ∙ same_kind c.args.arena.now c.in-Plain.object)

pub returns-in-List : goal.returns-in-List
returns-in-List c = sym (ap kind_of c.in-List.ensures.object)

pub returns-in-Dict : goal.returns-in-Dict
returns-in-Dict c = sym (ap kind_of c.in-Dict.ensures.object)
