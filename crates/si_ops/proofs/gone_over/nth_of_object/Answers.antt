use Rattle.std.proofs.Common.{◌<◌, [], length, ap, subst, ◌∙◌, arith, slice_get}
use Rattle.std.specs.Prelude.{unwrap_or}
use Rattle.std.proofs.lemmas.List.{length-map}
use Rattle.si_semantics.specs.Operations.{items_of_object}
use Rattle.si_arena.specs.Memory.{value_of, pairs_of}
use Rattle.si_arena.proofs.Sizes.{lies_at}
use Rattle.si_ops.proofs.Holding.{slice_there, count_pairs, key_at}
use Rattle.si_ops.proofs.GoneOver.{keys_count}
use Rattle.si_ops.proofs.gone_over.nth_of_object.Goals as goal

pub bounds-items-index : goal.bounds-items-index
bounds-items-index c =
    let m = c.args.arena.now in
    let rs = c.in-List.items.now in
    let there = subst (λ o. c.args.index < length (unwrap_or (items_of_object o) [])) c.in-List.ensures.object c.requires.there in
    omega (arith, there, length-map rs (value_of m))

pub returns-in-List : goal.returns-in-List
returns-in-List c =
    let m = c.args.arena.now in
    let rs = c.in-List.items.now in
    let r = c.index-items-index.result in
    let there = subst (λ o. c.args.index < length (unwrap_or (items_of_object o) [])) c.in-List.ensures.object c.requires.there in
    let within : c.args.index < length rs = omega (arith, there, length-map rs (value_of m)) in
    record {
      item = ap (λ o. slice_get (unwrap_or (items_of_object o) []) c.args.index) c.in-List.ensures.object ∙ slice_there m rs c.args.index r within c.index-items-index.is;
      lies = lies_at m rs c.args.index r r c.index-items-index.is within c.in-List.ensures.lies;
    }

pub pair-requires : goal.pair-requires
pair-requires c =
    let m = c.args.arena.now in
    let es = c.in-Dict.pairs.now in
    let there = subst (λ o. c.args.index < length (unwrap_or (items_of_object o) [])) c.in-Dict.ensures.object c.requires.there in
    omega (arith, there, keys_count (pairs_of m es), count_pairs m es)

pub returns-in-Dict : goal.returns-in-Dict
returns-in-Dict c =
    let m = c.args.arena.now in
    let ps = pairs_of m c.in-Dict.pairs.now in
    let p = c.pair.result in
    let lies = c.pair.ensures.lies m c.in-Dict.ensures.lies in
    record {
      item = ap (λ o. slice_get (unwrap_or (items_of_object o) []) c.args.index) c.in-Dict.ensures.object ∙ key_at m ps c.args.index p (c.pair.ensures.pair m) lies.is_key;
      lies = lies.key;
    }
