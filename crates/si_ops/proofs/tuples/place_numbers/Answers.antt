use Rattle.std.proofs.Common.{List, refl, sym, ap, subst, arith, ◌∙◌, ◌<◌, ◌≤◌}
use Rattle.si_semantics.specs.Value.{Value}
use Rattle.si_semantics.specs.Tuples.{integers_in}
use Rattle.si_semantics.specs.Operations.{range_items, range_length}
use Rattle.si_arena.specs.Memory.{all_of, AllLie, PlacesTuple}
use Rattle.si_ops.proofs.Tupled.{atoms_large, atoms_small, large_told, integers_count, integers_deep}
use Rattle.si_ops.proofs.tuples.place_numbers.Goals as goal

pub returns-then-items_in-from-clause-tuple : goal.returns-then-items_in-from-clause-tuple
returns-then-items_in-from-clause-tuple c =
    let m = c.args.arena.now in
    let n = range_length c.args.steps.now.start c.args.steps.now.stop c.args.steps.now.step in
    let vs = integers_in (range_items c.args.steps.now.start c.args.steps.now.stop c.args.steps.now.step) in
    let large : 65536 ≤ n = omega (arith, c.items_in.ensures) in
    (atoms_large vs n (integers_count n c.args.steps.now.start c.args.steps.now.step) large, refl, refl)

pub returns-in_err-items-clause-told : goal.returns-in_err-items-clause-told
returns-in_err-items-clause-told c = λ h.
    let m = c.args.arena.now in
    let n = range_length c.args.steps.now.start c.args.steps.now.stop c.args.steps.now.step in
    let vs = integers_in (range_items c.args.steps.now.start c.args.steps.now.stop c.args.steps.now.step) in
    let few : n < 65536 = omega (arith, c.items_in.ensures) in
    large_told vs c.from_residual.result (atoms_small vs n (integers_count n c.args.steps.now.start c.args.steps.now.step) (integers_deep n c.args.steps.now.start c.args.steps.now.step) few) h

pub returns-clause-told : goal.returns-clause-told
returns-clause-told c = λ h.
    let m = c.args.arena.now in
    let n = range_length c.args.steps.now.start c.args.steps.now.stop c.args.steps.now.step in
    let vs = integers_in (range_items c.args.steps.now.start c.args.steps.now.stop c.args.steps.now.step) in
    let few : n < 65536 = omega (arith, c.items_in.ensures) in
    large_told vs c.place_tuple.result (atoms_small vs n (integers_count n c.args.steps.now.start c.args.steps.now.step) (integers_deep n c.args.steps.now.start c.args.steps.now.step) few) h

pub place_tuple-requires : goal.place_tuple-requires
place_tuple-requires c =
    let m = c.args.arena.now in
    subst (AllLie m) (sym c.as_slice.ensures.value) (c.in_ok-items.ensures.lie m)

pub returns-clause-tuple : goal.returns-clause-tuple
returns-clause-tuple c =
    let m = c.args.arena.now in
    let is = ap (all_of m) c.as_slice.ensures.value ∙ c.in_ok-items.ensures.all m in
    let P : List Value → Type 0 = λ vs. PlacesTuple vs m c.place_tuple.new.self c.place_tuple.result in
    subst P is c.place_tuple.ensures.tuple
