use Rattle.si_lives.proofs.Waiting.{answers_wait}
use Rattle.si_lives.proofs.laws.answers_wait.Goals as goal

pub returns : goal.returns
returns c = answers_wait
