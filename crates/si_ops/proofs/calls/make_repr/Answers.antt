use Rattle.std.proofs.Common.{List, sym, subst}
use Rattle.si_semantics.specs.Value as pure
use Rattle.si_semantics.specs.Operations.{call_built_in}
use Rattle.si_ops.specs.Runs.{Runs}
use Rattle.si_ops.proofs.Calling.{sole}
use Rattle.si_ops.proofs.calls.make_repr.Goals as goal

pub returns-in-len1-clause-runs : goal.returns-in-len1-clause-runs
returns-in-len1-clause-runs c =
    let m = c.args.arena.now in
    let P : List pure.Value → Type 0 = λ vs. Runs (λ w. call_built_in pure.Repr vs w) m c.place_repr.new.arena c.place_repr.result in
    subst P (sym (sole m c.args.arguments.now c.value-item.result c.in-len1.len_at_least c.in-len1.len_below c.value-item.is)) c.place_repr.ensures.runs
