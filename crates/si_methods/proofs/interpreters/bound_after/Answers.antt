use Rattle.std.proofs.Common.{◌++◌, List, Result, sym, subst}
use Rattle.si_semantics.specs.Value.{Text}
use Rattle.si_semantics.specs.Parcels.{Tree}
use Rattle.si_semantics.specs.Attributes.{as_pairs, paired}
use Rattle.si_arena.specs.declared.cause.Fault.{Fault}
use Rattle.si_arena.specs.Memory.{all_of}
use Rattle.si_methods.specs.Passing.{AreSent}
use Rattle.si_methods.proofs.Sending.{sent_together, unsent_with_last}
use Rattle.si_methods.proofs.interpreters.bound_after.Goals as goal

pub returns-in-Ok : goal.returns-in-Ok
returns-in-Ok c = λ before e.
    let named = as_pairs (paired c.args.names.now (all_of c.args.arena.now c.args.values.now)) in
    let P : Result (List (Text × Tree)) Fault → Type 0 = λ r. AreSent (before ++ named) r in
    subst P (sym c.granted.ensures) (sent_together before named c.args.pairs.items c.in-Ok.named.items c.together.result c.together.ensures e c.in-Ok.ensures.ok)

pub returns-in-Err : goal.returns-in-Err
returns-in-Err c = λ before e.
    let named = as_pairs (paired c.args.names.now (all_of c.args.arena.now c.args.values.now)) in
    unsent_with_last before named c.args.pairs.items c.in-Err.fault e c.in-Err.ensures.err
