use Rattle.std.proofs.Common.{Some, None, refl, sym, ap, ◌∙◌}
use Rattle.si_semantics.specs.Value as pure
use Rattle.si_semantics.specs.Dicts.{key_of, without_key}
use Rattle.si_semantics.specs.Containers as containers
use Rattle.si_arena.specs.Memory.{value_of, dict_at, key_meant}
use Rattle.si_ops.proofs.Changing.{throws_wrong, changed_gives, extends_changed}
use Rattle.si_ops.proofs.KeysOf.{key_there, no_key_there}
use Rattle.si_ops.proofs.Setting.{found_value, pair_is_taken, no_pair_is_taken}
use Rattle.si_arena.proofs.Lying.{value-lasts, lies-extends}
use Rattle.si_ops.proofs.keyed.pop_in_dict.Goals as goal

pub returns-then-not-is_key : goal.returns-then-not-is_key
returns-then-not-is_key c =
    let m = c.args.arena.now in
    let v = value_of m c.args.key in
    let x = c.args.address in
    (throws_wrong (λ w. containers.pop_in_dict x (dict_at m x) v (key_of v) w) m (λ w e. ap (λ k. containers.pop_in_dict x (dict_at m x) v k w) (no_key_there v c.is_key.result c.is_key.ensures c.if-not-is_key.true)), refl)

pub remove_pair-value-requires-clause-is_key : goal.remove_pair-value-requires-clause-is_key
remove_pair-value-requires-clause-is_key c = key_there (value_of c.args.arena.now c.args.key) c.is_key.result c.is_key.ensures c.if-not-is_key.false

pub returns-in-Some : goal.returns-in-Some
returns-in-Some c =
    let m = c.args.arena.now in
    let v = value_of m c.args.key in
    let x = c.args.address in
    let ps = dict_at m x in
    let is = key_there v c.is_key.result c.is_key.ensures c.if-not-is_key.false in
    let r = c.in-Some.value in
    let o = pure.Pairs (without_key (key_meant v) ps) in
    let new = c.remove_pair-value.new.self in
    let rest = c.remove_pair-value.ensures.rest in
    let extends = extends_changed m new x o rest in
    let kept = value-lasts r extends.lasts c.in-Some.ensures.lies in
    (changed_gives (λ w. containers.pop_in_dict x ps v (key_of v) w) x o (value_of new r) m new (λ w e. pair_is_taken x ps v w is (value_of new r) (found_value m v ps (Some r) is c.in-Some.ensures.value ∙ ap Some (sym kept))) rest, lies-extends r extends c.in-Some.ensures.lies, extends)

pub returns-in-None : goal.returns-in-None
returns-in-None c =
    let m = c.args.arena.now in
    let v = value_of m c.args.key in
    let x = c.args.address in
    let ps = dict_at m x in
    let is = key_there v c.is_key.result c.is_key.ensures c.if-not-is_key.false in
    ((λ w e. no_pair_is_taken x ps v w is (found_value m v ps None is c.in-None.ensures.value)), refl)
