use Rattle.si_slots.proofs.Interpreter.{after_shows}
use Rattle.si_slots.proofs.laws.after_shows.Goals as goal

pub returns : goal.returns
returns c = after_shows
