use Rattle.std.proofs.Common.{◌≡◌, ℕ, ◌+◌, max, Some, drop, ap, sym, ◌∙◌, arith}
use Rattle.std.specs.Prelude.{option_map}
use Rattle.std.proofs.lemmas.List.{drop_all, length-map}
use Rattle.si_semantics.specs.Value.{values_of}
use Rattle.si_semantics.specs.Tuples.{count_of}
use Rattle.si_semantics.specs.Parcels.{longest_in, longest_among}
use Rattle.si_semantics.specs.Shareable.{parcel_of, parcels_of}
use Rattle.si_arena.specs.Memory.{value_of, all_of}
use Rattle.si_arena.proofs.Sizes.{lies_at}
use Rattle.si_share.proofs.Longest.{longest_begun, longest_step, longest_none, longest_tuple}
use Rattle.si_share.proofs.Parts.{left_step, less_than_all}
use Rattle.si_share.proofs.ReadOff.{scalar_longest}
use Rattle.si_share.proofs.outward.+longest.Goals.{then-not-is_scalar+in-Some, else-not-is_scalar}
use Rattle.si_share.proofs.outward.+longest.Goals as goal

pub longest-requires : goal.longest-requires
longest-requires t c =
    let m = c.args.arena.now in
    let xs = c.in-Tuple.items.now in
    let part = less_than_all m xs c.items.item-index c.item-item.result c.items-test.true c.item-item.is in
    let whole = ap count_of c.in-Tuple.ensures.value in
    (omega (arith, c.decreases, part, whole), lies_at m xs c.items.item-index _ _ c.item-item.is c.items-test.true c.in-Tuple.ensures.parts)

pub items-init : goal.items-init
items-init t c = longest_begun (parcels_of (values_of (all_of c.args.arena.now c.in-Tuple.items.now)))

pub items-preserved : goal.items-preserved
items-preserved t c =
    let m = c.args.arena.now in
    let xs = c.in-Tuple.items.now in
    let one : (n : ℕ) × (Some n ≡ option_map longest_in (parcel_of (value_of m c.item-item.result))) × (c.if-not-is_scalar.most ≡ max n c.items.most) = elim c.if-not-is_scalar.branch [
      | then-not-is_scalar+in-Some w ↦ (w.in-Some.length, w.in-Some.ensures, omega (arith, w.most-is, w.max-most.ensures))
      | else-not-is_scalar w ↦ (0, sym (scalar_longest m c.item-item.result (sym c.is_scalar.ensures ∙ w.if-not-is_scalar.false)), omega (arith, w.most-is))
    ] in
    let left = ap (λ vs. option_map (max c.items.most) (option_map longest_among (parcels_of (values_of vs)))) (left_step m xs c.items.item-index _ _ c.item-item.is c.items-test.true) in
    longest_step (parcel_of (value_of m c.item-item.result)) (parcels_of (values_of (drop (c.items.item-index + 1) (all_of m xs)))) one.0 c.items.most c.if-not-is_scalar.most one.1 one.2
    ∙ sym left ∙ c.items.invariant

pub returns-in_default : goal.returns-in_default
returns-in_default t c =
    let m = c.args.arena.now in
    let xs = c.in-Tuple.items.now in
    let left = ap (λ vs. option_map (max c.items.most) (option_map longest_among (parcels_of (values_of vs)))) (left_step m xs c.items.item-index _ _ c.item-item.is c.items-test.true) in
    let none = ap (option_map (max c.items.most)) (longest_none (parcel_of (value_of m c.item-item.result)) (parcels_of (values_of (drop (c.items.item-index + 1) (all_of m xs)))) c.in_default.ensures) in
    let whole = ap (λ v. option_map longest_in (parcel_of v)) c.in-Tuple.ensures.value in
    sym none ∙ sym left ∙ c.items.invariant ∙ sym (longest_tuple (parcels_of (values_of (all_of m xs)))) ∙ whole

pub returns-after-items : goal.returns-after-items
returns-after-items t c =
    let m = c.args.arena.now in
    let xs = c.in-Tuple.items.now in
    let none = drop_all c.items.item-index (all_of m xs) (omega (arith, length-map xs (value_of m), c.items-test.false)) in
    let left = ap (λ vs. option_map (max c.items.most) (option_map longest_among (parcels_of (values_of vs)))) none in
    let most : c.items.most ≡ max c.items.most 0 = omega arith in
    let whole = ap (λ v. option_map longest_in (parcel_of v)) c.in-Tuple.ensures.value in
    ap (λ n. Some n) most ∙ sym left ∙ c.items.invariant ∙ sym (longest_tuple (parcels_of (values_of (all_of m xs)))) ∙ whole
