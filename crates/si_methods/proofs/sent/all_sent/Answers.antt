use Rattle.std.proofs.Common.{◌≡◌, ◌+◌, ◌<◌, List, [], Ok, length, take, get_or, refl, sym, subst, arith}
use Rattle.std.proofs.lemmas.List.{length-map}
use Rattle.si_semantics.specs.Value as pure
use Rattle.si_semantics.specs.Value.{Text}
use Rattle.si_semantics.specs.Parcels.{Tree}
use Rattle.si_semantics.specs.Attributes.{paired, as_pairs, parcels_by_name}
use Rattle.si_arena.specs.Memory.{value_of, all_of}
use Rattle.si_arena.proofs.Sizes.{lies_at}
use Rattle.si_methods.proofs.Sending.{next_sent, next_unsent, all_sent, handed_on, value_there, name_there, pair_there, pairs_count, one_sent, name_unsent}
use Rattle.si_methods.proofs.sent.all_sent.Goals as goal

pub sent-requires : goal.sent-requires
sent-requires c = lies_at c.args.arena.now c.args.values.now c.loop-i.i c.index-values-i.result c.index-values-i.result c.index-values-i.is c.loop-i-test.true c.requires.lie

pub returns-in_err-parcel-clause-err : goal.returns-in_err-parcel-clause-err
returns-in_err-parcel-clause-err c =
    let m = c.args.arena.now in
    let names = c.args.names.now in
    let vs = all_of m c.args.values.now in
    let ps = as_pairs (paired names vs) in
    let i = c.loop-i.i in
    let l : i < length names = omega arith in
    let v = c.index-values-i.result in
    let x = get_or names i [] in
    let f = c.in_err-parcel.field-0.0 in
    let there = pair_there names vs i x (value_of m v) (name_there names i x x [] refl refl l) (value_there m c.args.values.now i v v c.index-values-i.is c.loop-i-test.true) in
    handed_on c.from_residual-in_err-parcel.result f ps c.from_residual-in_err-parcel.ensures.1
    (next_unsent ps i (pure.Word x, value_of m v) c.loop-i.pairs.items f there c.loop-i.invariant (name_unsent x (value_of m v) f c.in_err-parcel.ensures))

pub loop-i-preserved : goal.loop-i-preserved
loop-i-preserved c =
    let m = c.args.arena.now in
    let names = c.args.names.now in
    let vs = all_of m c.args.values.now in
    let ps = as_pairs (paired names vs) in
    let i = c.loop-i.i in
    let l : i < length names = omega arith in
    let v = c.index-values-i.result in
    let x = c.in_ok-name.name in
    let p = c.in_ok-parcel.parcel in
    let there = pair_there names vs i x (value_of m v) (name_there names i c.index-names-i.result x c.index-names-i.result c.in_ok-name.ensures.cases c.index-names-i.is l) (value_there m c.args.values.now i v v c.index-values-i.is c.loop-i-test.true) in
    let P : List (Text × Tree) → Type 0 = λ bs. parcels_by_name (take (i + 1) ps) ≡ Ok bs in
    subst P (sym c.in-Ok.ensures.items)
    (next_sent ps i (pure.Word x, value_of m v) c.loop-i.pairs.items (x, p) there c.loop-i.invariant (one_sent x (value_of m v) p c.in_ok-parcel.ensures))

pub returns-clause-ok : goal.returns-clause-ok
returns-clause-ok c =
    let m = c.args.arena.now in
    let names = c.args.names.now in
    let vs = all_of m c.args.values.now in
    let same : length vs ≡ length c.args.values.now = length-map c.args.values.now (value_of m) in
    let count = pairs_count names vs (omega arith) in
    all_sent (as_pairs (paired names vs)) c.loop-i.i c.loop-i.pairs.items (omega (arith, count)) c.loop-i.invariant
