use Rattle.std.proofs.Common.{Some, None, ap}
use Rattle.si_semantics.specs.Dicts.{key_of}
use Rattle.si_semantics.specs.Subscription as subscription
use Rattle.si_arena.specs.Memory.{value_of, dict_at}
use Rattle.si_ops.proofs.Changing.{throws_wrong}
use Rattle.si_ops.proofs.KeysOf.{key_there, no_key_there}
use Rattle.si_ops.proofs.Subscribing.{value_there}
use Rattle.si_ops.proofs.subscripts.value_in_dict.Goals as goal

pub returns-then-not-is_key : goal.returns-then-not-is_key
returns-then-not-is_key c =
    let m = c.args.arena.now in
    let v = value_of m c.args.index in
    let ps = dict_at m c.args.address in
    throws_wrong (λ w. subscription.value_in_dict ps v (key_of v) w) m (λ w e. ap (λ k. subscription.value_in_dict ps v k w) (no_key_there v c.is_key.result c.is_key.ensures c.if-not-is_key.true))

pub returns-in-Some : goal.returns-in-Some
returns-in-Some c =
    let m = c.args.arena.now in
    let v = value_of m c.args.index in
    let ps = dict_at m c.args.address in
    let is = key_there v c.is_key.result c.is_key.ensures c.if-not-is_key.false in
    ((λ w e. value_there m v ps (Some c.in-Some.value) w is c.in-Some.ensures.value), c.in-Some.ensures.lies)

pub returns-in-None : goal.returns-in-None
returns-in-None c = λ w e.
    let m = c.args.arena.now in
    let v = value_of m c.args.index in
    let ps = dict_at m c.args.address in
    let is = key_there v c.is_key.result c.is_key.ensures c.if-not-is_key.false in
    value_there m v ps None w is c.in-None.ensures.value
