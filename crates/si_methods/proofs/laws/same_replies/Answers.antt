use Rattle.si_methods.proofs.Kept as kept
use Rattle.si_methods.proofs.laws.same_replies.Goals as goal

pub returns : goal.returns
returns c = kept.same_replies
