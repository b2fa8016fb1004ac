use Rattle.std.proofs.Common.{◌++◌}
use Rattle.si_semantics.specs.Attributes.{prepare, prepares, paired, as_pairs, parcels_by_name}
use Rattle.si_arena.specs.Memory.{all_of}
use Rattle.si_methods.specs.Passing.{pairs_in}
use Rattle.si_methods.proofs.Calling.{answers_as, throws_as}
use Rattle.si_methods.proofs.interpreters.prepare_parts.Goals as goal

pub bind-requires-clause-first : goal.bind-requires-clause-first
bind-requires-clause-first c = c.in-Ok.ensures.1

pub returns-in-Ok : goal.returns-in-Ok
returns-in-Ok c = λ own.
    let m = c.args.arena.now in
    let named = paired c.args.names.now (all_of m c.args.values.now) in
    answers_as (λ w. prepare c.args.id (all_of m c.args.positional.now) named w) (λ w. prepares c.args.id (parcels_by_name (pairs_in m c.in-Ok.namespace ++ as_pairs named)) w) own m m c.bind.result
    (λ w e. c.in-Ok.ensures.0 c.args.id named w e)
    (c.bind.ensures own)

pub returns-in-Err : goal.returns-in-Err
returns-in-Err c = λ own.
    let m = c.args.arena.now in
    let named = paired c.args.names.now (all_of m c.args.values.now) in
    throws_as (λ w. prepare c.args.id (all_of m c.args.positional.now) named w) own m c.in-Err.cause (c.in-Err.ensures c.args.id named)
