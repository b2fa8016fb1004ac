use Rattle.si_slots.proofs.WorkedCode.{worked_code}
use Rattle.si_slots.proofs.laws.worked_code.Goals as goal

pub returns : goal.returns
returns c = worked_code
