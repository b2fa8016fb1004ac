use Rattle.si_semantics.specs.Attributes.{as_pairs, paired}
use Rattle.si_arena.specs.Memory.{all_of}
use Rattle.si_methods.specs.Passing.{pairs_in}
use Rattle.si_methods.proofs.Sending.{unsent_with_first}
use Rattle.si_methods.proofs.interpreters.bound.Goals as goal

pub returns-in-Ok : goal.returns-in-Ok
returns-in-Ok c = c.bound_after.ensures (pairs_in c.args.arena.now c.args.namespace) c.in-Ok.ensures.ok

pub returns-in-Err : goal.returns-in-Err
returns-in-Err c =
    let m = c.args.arena.now in
    unsent_with_first (pairs_in m c.args.namespace) (as_pairs (paired c.args.names.now (all_of m c.args.values.now))) c.in-Err.fault c.in-Err.ensures.err
