use Rattle.std.proofs.Common.{◌++◌, ap, refl}
use Rattle.si_semantics.specs.World as world
use Rattle.si_semantics.specs.Attributes.{prepares, as_pairs, paired}
use Rattle.si_arena.specs.Memory.{all_of}
use Rattle.si_methods.specs.Passing.{pairs_in}
use Rattle.si_methods.proofs.Calling.{not_bound}
use Rattle.si_methods.proofs.interpreters.bind.Goals as goal

pub returns-in-Ok : goal.returns-in-Ok
returns-in-Ok c = λ own. (record { request = world.Prepare c.args.id c.in-Ok.binds; asks = λ w e. ap (λ o. prepares c.args.id o w) c.in-Ok.ensures; made_by = refl; kept_is = refl; lies = tt }, refl)

pub returns-in-Err : goal.returns-in-Err
returns-in-Err c = λ own.
    let m = c.args.arena.now in
    not_bound c.args.id (pairs_in m c.args.namespace ++ as_pairs (paired c.args.names.now (all_of m c.args.values.now))) own m c.in-Err.unsent c.in-Err.ensures
