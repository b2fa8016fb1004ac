use Rattle.si_slots.proofs.Courses.{answers_wait}
use Rattle.si_slots.proofs.laws.answers_wait.Goals as goal

pub returns : goal.returns
returns c = answers_wait
