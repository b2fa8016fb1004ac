use Rattle.std.proofs.Common.{refl, ap}
use Rattle.si_semantics.specs.Value as pure
use Rattle.si_semantics.specs.Dicts.{key_of, with_pair}
use Rattle.si_semantics.specs.Containers as containers
use Rattle.si_arena.specs.Memory.{value_of, dict_at, key_meant}
use Rattle.si_ops.proofs.Changing.{throws_wrong}
use Rattle.si_ops.proofs.KeysOf.{key_there, no_key_there}
use Rattle.si_ops.proofs.Setting.{changed_changes, pair_is_set}
use Rattle.si_ops.proofs.changes.set_in_dict.Goals as goal

pub returns-then-not-is_key : goal.returns-then-not-is_key
returns-then-not-is_key c =
    let m = c.args.arena.now in
    let v = value_of m c.args.key in
    let z = value_of m c.args.value in
    let x = c.args.address in
    (throws_wrong (λ w. containers.set_in_dict x (dict_at m x) (key_of v) z w) m (λ w e. ap (λ k. containers.set_in_dict x (dict_at m x) k z w) (no_key_there v c.is_key.result c.is_key.ensures c.if-not-is_key.true)), refl)

pub set_pair-requires-clause-is_key : goal.set_pair-requires-clause-is_key
set_pair-requires-clause-is_key c = key_there (value_of c.args.arena.now c.args.key) c.is_key.result c.is_key.ensures c.if-not-is_key.false

pub returns : goal.returns
returns c =
    let m = c.args.arena.now in
    let v = value_of m c.args.key in
    let z = value_of m c.args.value in
    let x = c.args.address in
    let is = key_there v c.is_key.result c.is_key.ensures c.if-not-is_key.false in
    changed_changes (λ w. containers.set_in_dict x (dict_at m x) (key_of v) z w) x (pure.Pairs (with_pair (key_meant v) z (dict_at m x))) m c.set_pair.new.self (λ w e. pair_is_set x (dict_at m x) v w is z) c.in_ok-set_pair.ensures.ok
