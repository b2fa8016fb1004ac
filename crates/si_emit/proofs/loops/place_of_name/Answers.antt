use Rattle.std.proofs.Common.{sym, ap, ◌∙◌}
use Rattle.si_slots.specs.Code.{item_of_name}
use Rattle.si_emit.proofs.Places.{place_same}
use Rattle.si_emit.proofs.loops.place_of_name.Goals as goal

pub returns-in-Some : goal.returns-in-Some
returns-in-Some c = sym (ap item_of_name (sym (place_same c.args.name.now c.args.locals.now) ∙ (sym c.position.ensures ∙ c.in-Some.is)))

pub returns-in-None : goal.returns-in-None
returns-in-None c = sym (ap item_of_name (sym (place_same c.args.name.now c.args.locals.now) ∙ (sym c.position.ensures ∙ c.in-None.is)))
