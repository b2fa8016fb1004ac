use Rattle.std.proofs.Math.Logic.{∥∥₁_elim}
use Rattle.std.proofs.Props.{props}
use Rattle.si_scope.proofs.scoped.Scoped.facts.Goals as goal

pub returns : goal.returns
returns c = ∥∥₁_elim c.args.self.now.resolved (hlevel props) (λ r. r.scoped)
