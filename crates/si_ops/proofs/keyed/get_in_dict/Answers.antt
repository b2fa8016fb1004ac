use Rattle.std.proofs.Common.{Some, None, ap}
use Rattle.si_semantics.specs.Value as pure
use Rattle.si_semantics.specs.Dicts.{key_of}
use Rattle.si_semantics.specs.Containers as containers
use Rattle.si_arena.specs.Memory.{value_of, dict_at}
use Rattle.si_ops.proofs.Changing.{throws_wrong}
use Rattle.si_ops.proofs.KeysOf.{key_there, no_key_there}
use Rattle.si_ops.proofs.Setting.{found_value, value_is_got, other_is_got}
use Rattle.si_ops.proofs.keyed.get_in_dict.Goals as goal

pub returns-then-not-is_key : goal.returns-then-not-is_key
returns-then-not-is_key c =
    let m = c.args.arena.now in
    let v = value_of m c.args.key in
    let z = value_of m c.args.other in
    let ps = dict_at m c.args.address in
    throws_wrong (λ w. containers.get_in_dict ps (key_of v) z w) m (λ w e. ap (λ k. containers.get_in_dict ps k z w) (no_key_there v c.is_key.result c.is_key.ensures c.if-not-is_key.true))

pub returns-in-Some : goal.returns-in-Some
returns-in-Some c =
    let m = c.args.arena.now in
    let v = value_of m c.args.key in
    let z = value_of m c.args.other in
    let ps = dict_at m c.args.address in
    let is = key_there v c.is_key.result c.is_key.ensures c.if-not-is_key.false in
    let u = value_of m c.in-Some.value in
    ((λ w e. value_is_got c.args.address ps v w is z u (found_value m v ps (Some c.in-Some.value) is c.in-Some.ensures.value)), c.in-Some.ensures.lies)

pub returns-in-None : goal.returns-in-None
returns-in-None c =
    let m = c.args.arena.now in
    let v = value_of m c.args.key in
    let z = value_of m c.args.other in
    let ps = dict_at m c.args.address in
    let is = key_there v c.is_key.result c.is_key.ensures c.if-not-is_key.false in
    ((λ w e. other_is_got c.args.address ps v w is z (found_value m v ps None is c.in-None.ensures.value)), c.requires.other)
