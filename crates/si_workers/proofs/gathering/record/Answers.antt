use Rattle.std.proofs.Common.{List, subst}
use Rattle.si_interp.specs.Meaning.{InterpView}
use Rattle.si_workers.specs.inner.Members.{AreFit}
use Rattle.si_workers.proofs.gathering.record.Goals as goal

pub record_fit-requires-clause-fit : goal.record_fit-requires-clause-fit
record_fit-requires-clause-fit c = subst (λ (xs : List InterpView). AreFit c.args.hub.past xs c.args.hub.past.limits.interpreters) c.as_slice.ensures.value c.in-None.ensures.none
