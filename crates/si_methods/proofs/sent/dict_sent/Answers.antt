use Rattle.std.proofs.Common.{◌≡◌, List, Ok, length, take, ◌+◌, sym, subst, arith}
use Rattle.si_semantics.specs.Value.{Text}
use Rattle.si_semantics.specs.Parcels.{Tree}
use Rattle.si_semantics.specs.Attributes.{parcels_by_name}
use Rattle.si_arena.specs.Memory.{pairs_of, pair_of}
use Rattle.si_arena.proofs.Changed.{length-pairs}
use Rattle.si_methods.proofs.Sending.{next_sent, next_unsent, all_sent, handed_on}
use Rattle.si_methods.proofs.sent.dict_sent.Goals as goal

pub pair_sent-requires : goal.pair_sent-requires
pair_sent-requires c = c.pair.ensures.lies c.args.arena.now c.requires

pub returns-in_err-bind-clause-err : goal.returns-in_err-bind-clause-err
returns-in_err-bind-clause-err c =
    let m = c.args.arena.now in
    let ps = pairs_of m c.args.dict.now in
    let f = c.in_err-bind.field-0.0 in
    handed_on c.from_residual-in_err-bind.result f ps c.from_residual-in_err-bind.ensures.1
    (next_unsent ps c.loop-i.i (pair_of m c.pair.result) c.loop-i.pairs.items f (c.pair.ensures.pair m) c.loop-i.invariant c.in_err-bind.ensures)

pub loop-i-preserved : goal.loop-i-preserved
loop-i-preserved c =
    let m = c.args.arena.now in
    let ps = pairs_of m c.args.dict.now in
    let P : List (Text × Tree) → Type 0 = λ bs. parcels_by_name (take (c.loop-i.i + 1) ps) ≡ Ok bs in
    subst P (sym c.in-Ok.ensures.items)
    (next_sent ps c.loop-i.i (pair_of m c.pair.result) c.loop-i.pairs.items c.in_ok-bind.bind (c.pair.ensures.pair m) c.loop-i.invariant c.in_ok-bind.ensures)

pub returns-clause-ok : goal.returns-clause-ok
returns-clause-ok c =
    let m = c.args.arena.now in
    let ps = pairs_of m c.args.dict.now in
    let same : length ps ≡ length c.args.dict.now = length-pairs m c.args.dict.now in
    all_sent ps c.loop-i.i c.loop-i.pairs.items (omega arith) c.loop-i.invariant
