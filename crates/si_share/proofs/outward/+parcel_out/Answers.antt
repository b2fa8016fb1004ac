use Rattle.std.proofs.Common.{◌≡◌, Err, ◌+◌, ◌++◌, Some, [], ◌∷◌, drop, ap, refl, sym, subst, ◌∙◌, arith, append_assoc}
use Rattle.std.proofs.lemmas.List.{drop_all, length-map}
use Rattle.std.proofs.lemmas.Result.{err_from_is_err_and}
use Rattle.si_semantics.specs.Value.{values_of}
use Rattle.si_semantics.specs.Tuples.{count_of}
use Rattle.si_semantics.specs.Parcels.{NoTrees, trees_of, tuple_of, IsParcel}
use Rattle.si_semantics.specs.Shareable.{parcel_of, parcels_of}
use Rattle.si_arena.specs.Memory.{value_of, all_of}
use Rattle.si_arena.proofs.Sizes.{lies_at}
use Rattle.si_share.proofs.Parts.{left_step, less_than_all, split_parcels, grouped, listed, part_is_parcel, all_parceled, memory_refused, part_refused, complete, parcel_of_all, large_is, deep_is}
use Rattle.si_share.proofs.ReadOff.{scalar_sent}
use Rattle.si_share.proofs.outward.+parcel_out.Goals.{in-Some, in-None-scalar_out+in_ok-parcel-in-None-scalar_out}
use Rattle.si_share.proofs.outward.+parcel_out.Goals as goal

pub returns-in_err-parcels-in-Tuple : goal.returns-in_err-parcels-in-Tuple
returns-in_err-parcels-in-Tuple t c =
    let p = err_from_is_err_and c.from_residual.result c.from_residual.ensures.1 in
    rw (p.1, p.2) (memory_refused (all_of c.args.arena.now c.in-Tuple.items.now) c.in-Tuple.ensures.value c.requires.fits)

pub items-init : goal.items-init
items-init t c =
    let g = grouped (parcels_of (values_of (all_of c.args.arena.now c.in-Tuple.items.now))) c.requires.fits.0 (ap parcel_of c.in-Tuple.ensures.value ∙ c.requires.fits.1) in
    let l = listed g.trees in
    let all = g.trees_are ∙ ap (λ ts. Some ts) l.1 in
    (l.0, all, rw c.in_ok-parcels-in-Tuple.ensures.items all)

pub parcel_out-requires : goal.parcel_out-requires
parcel_out-requires t c =
    let m = c.args.arena.now in
    let xs = c.in-Tuple.items.now in
    let part = less_than_all m xs c.items.item-index c.item-item.result c.items-test.true c.item-item.is in
    let whole = ap count_of c.in-Tuple.ensures.value in
    let inv = c.items.invariant in
    let left = ap (λ vs. parcels_of (values_of vs)) (left_step m xs c.items.item-index _ _ c.item-item.is c.items-test.true) in
    let s = split_parcels (parcel_of (value_of m c.item-item.result)) (parcels_of (values_of (drop (c.items.item-index + 1) (all_of m xs)))) inv.0 (sym left ∙ inv.1) in
    let fits = all_parceled (all_of m xs) c.in-Tuple.ensures.value c.requires.fits (c.items.parcels.items ++ inv.0) inv.2 in
    let small = part_is_parcel c.items.parcels.items s.1 s.0 (subst (λ us. IsParcel (tuple_of (c.items.parcels.items ++ us))) s.2 fits) in (
      omega (arith, c.decreases, part, whole),
      (lies_at m xs c.items.item-index _ _ c.item-item.is c.items-test.true c.in-Tuple.ensures.parts, (s.0, s.3, small)),
    )

pub returns-in_err-parcel-in-None-scalar_out : goal.returns-in_err-parcel-in-None-scalar_out
returns-in_err-parcel-in-None-scalar_out t c =
    let m = c.args.arena.now in
    let xs = c.in-Tuple.items.now in
    let inv = c.items.invariant in
    let left = ap (λ vs. parcels_of (values_of vs)) (left_step m xs c.items.item-index _ _ c.item-item.is c.items-test.true) in
    let s = split_parcels (parcel_of (value_of m c.item-item.result)) (parcels_of (values_of (drop (c.items.item-index + 1) (all_of m xs)))) inv.0 (sym left ∙ inv.1) in
    let fits = all_parceled (all_of m xs) c.in-Tuple.ensures.value c.requires.fits (c.items.parcels.items ++ inv.0) inv.2 in
    let small = part_is_parcel c.items.parcels.items s.1 s.0 (subst (λ us. IsParcel (tuple_of (c.items.parcels.items ++ us))) s.2 fits) in
    let p = err_from_is_err_and c.from_residual-in_err-parcel-in-None-scalar_out.result c.from_residual-in_err-parcel-in-None-scalar_out.ensures.1 in
    rw (p.1, p.2) (part_refused (all_of m xs) (value_of m c.item-item.result) _ c.in-Tuple.ensures.value c.requires.fits (s.0, s.3, small) c.in_err-parcel-in-None-scalar_out.ensures)

pub items-preserved : goal.items-preserved
items-preserved t c =
    let m = c.args.arena.now in
    let xs = c.in-Tuple.items.now in
    let inv = c.items.invariant in
    let left = ap (λ vs. parcels_of (values_of vs)) (left_step m xs c.items.item-index _ _ c.item-item.is c.items-test.true) in
    let s = split_parcels (parcel_of (value_of m c.item-item.result)) (parcels_of (values_of (drop (c.items.item-index + 1) (all_of m xs)))) inv.0 (sym left ∙ inv.1) in
    let sent : parcel_of (value_of m c.item-item.result) ≡ Some c.match-scalar_out.parcel = elim c.match-scalar_out.branch [
      | in-Some w ↦ rw w.parcel-is (scalar_sent m c.item-item.result w.in-Some.parcel (sym w.in-Some.ensures))
      | in-None-scalar_out+in_ok-parcel-in-None-scalar_out w ↦ rw w.parcel-is w.in_ok-parcel-in-None-scalar_out.ensures.0
    ] in
    let same : Some c.match-scalar_out.parcel ≡ Some s.0 = sym sent ∙ s.3 in
    let first : s.0 ≡ c.match-scalar_out.parcel = cc in
    let all = inv.2 ∙ ap (λ us. Some (trees_of (c.items.parcels.items ++ us))) (s.2 ∙ ap (λ p. p ∷ s.1) first) in
    let next = ap (λ us. Some (trees_of us)) (sym (append_assoc c.items.parcels.items (c.match-scalar_out.parcel ∷ []) s.1)) in
    (s.1, s.4, rw (c.push.ensures.items, c.in-Ok.is) (all ∙ next))

pub returns-in-Ok-tuple : goal.returns-in-Ok-tuple
returns-in-Ok-tuple t c =
    let m = c.args.arena.now in
    let xs = c.in-Tuple.items.now in
    let inv = c.items.invariant in
    let none = drop_all c.items.item-index (all_of m xs) (omega (arith, length-map xs (value_of m), c.items-test.false)) in
    let empty : Some NoTrees ≡ Some (trees_of inv.0) = ap (λ vs. parcels_of (values_of vs)) (sym none) ∙ inv.1 in
    let whole = complete c.items.parcels.items inv.0 cc in
    let all = parcel_of_all (all_of m xs) c.in-Tuple.ensures.value (c.items.parcels.items ++ inv.0) inv.2 ∙ ap (λ us. Some (tuple_of us)) whole in
    (rw c.in-Ok-tuple.ensures.tuple all, rw c.in-Ok-tuple.ensures.tuple (c.in-Ok-tuple.ensures.small refl))

pub unreachable-requires : goal.unreachable-requires
unreachable-requires t c =
    let m = c.args.arena.now in
    let xs = c.in-Tuple.items.now in
    let inv = c.items.invariant in
    let none = drop_all c.items.item-index (all_of m xs) (omega (arith, length-map xs (value_of m), c.items-test.false)) in
    let empty : Some NoTrees ≡ Some (trees_of inv.0) = ap (λ vs. parcels_of (values_of vs)) (sym none) ∙ inv.1 in
    let whole = complete c.items.parcels.items inv.0 cc in
    let fits = subst (λ us. IsParcel (tuple_of us)) whole (all_parceled (all_of m xs) c.in-Tuple.ensures.value c.requires.fits (c.items.parcels.items ++ inv.0) inv.2) in
    let over = c.in-Err-TooLarge.ensures.large.0 (ap (λ fault. Err fault) (large_is c.in-Err-TooLarge.field-0 c.in-Err-TooLarge.field-0-0 c.items.parcels c.in-Err-TooLarge.field-0-is c.in-Err-TooLarge.ensures.back)) in
    omega (arith, over, fits.size)

pub unreachable-requires-in-Err-TooDeep : goal.unreachable-requires-in-Err-TooDeep
unreachable-requires-in-Err-TooDeep t c =
    let m = c.args.arena.now in
    let xs = c.in-Tuple.items.now in
    let inv = c.items.invariant in
    let none = drop_all c.items.item-index (all_of m xs) (omega (arith, length-map xs (value_of m), c.items-test.false)) in
    let empty : Some NoTrees ≡ Some (trees_of inv.0) = ap (λ vs. parcels_of (values_of vs)) (sym none) ∙ inv.1 in
    let whole = complete c.items.parcels.items inv.0 cc in
    let fits = subst (λ us. IsParcel (tuple_of us)) whole (all_parceled (all_of m xs) c.in-Tuple.ensures.value c.requires.fits (c.items.parcels.items ++ inv.0) inv.2) in
    let over = c.in-Err-TooDeep.ensures.deep.0 (ap (λ fault. Err fault) (deep_is c.in-Err-TooDeep.field-0 c.in-Err-TooDeep.field-0-0 c.items.parcels c.in-Err-TooDeep.field-0-is c.in-Err-TooDeep.ensures.back)) in
    omega (arith, over.1, fits.levels)
