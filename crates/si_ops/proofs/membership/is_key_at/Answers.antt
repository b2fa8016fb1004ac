use Rattle.std.proofs.Common.{true, sym, ap, ◌∙◌}
use Rattle.std.specs.Prelude.{is_some}
use Rattle.si_semantics.specs.Dicts.{key_of}
use Rattle.si_semantics.specs.Operations.{is_key}
use Rattle.si_arena.specs.Memory.{value_of, dict_at}
use Rattle.si_ops.proofs.KeysOf.{no_key_there}
use Rattle.si_ops.proofs.Holding.{looked_up}
use Rattle.si_ops.proofs.membership.is_key_at.Goals as goal

pub returns-then-not-is_key : goal.returns-then-not-is_key
returns-then-not-is_key c =
    let m = c.args.arena.now in
    let v = value_of m c.args.item in
    ap (λ k. is_key k (dict_at m c.args.address)) (no_key_there v c.is_key.result c.is_key.ensures c.if-not-is_key.true)

pub returns : goal.returns
returns c =
    let m = c.args.arena.now in
    let v = value_of m c.args.item in
    looked_up m (key_of v) (dict_at m c.args.address) c.find.result c.is_some.result (sym c.is_key.ensures ∙ c.if-not-is_key.false) c.find.ensures.value c.is_some.ensures
