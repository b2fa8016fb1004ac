use Rattle.std.proofs.Common.{◌≡◌, ◌+◌, ◌++◌, Some, Ok, [], ◌∷◌, true, false, drop, ap, refl, sym, ◌∙◌, arith, append_assoc}
use Rattle.std.specs.Prelude.{is_some, option_map}
use Rattle.std.proofs.lemmas.List.{drop_all}
use Rattle.std.proofs.lemmas.Bool.{false≢true}
use Rattle.std.proofs.lemmas.Result.{err_from_is_err_and}
use Rattle.si_semantics.specs.Value as pure
use Rattle.si_semantics.specs.Value.{NoValues, values_of}
use Rattle.si_semantics.specs.Parcels.{trees_of}
use Rattle.si_semantics.specs.Tuples.{is_too_large}
use Rattle.si_semantics.specs.Shareable.{value_of_parcel, values_of_parcels}
use Rattle.si_arena.specs.Memory.{value_of, all_of}
use Rattle.si_arena.proofs.Lying.{extends_same, extends_more, all-lasts, all_lie-extends}
use Rattle.si_share.specs.Copies.{CopiesIn}
use Rattle.si_share.proofs.Parts.{left_tree, less_than_trees, split_values, listed_values, has, grouped_values, complete_values, all_push, all_lie_push, part_left, not_too_large, raised_large}
use Rattle.si_share.proofs.ReadOff.{scalar_copied}
use Rattle.si_share.proofs.inward.+value_in.Goals.{tuple_in-in-Some, tuple_in-in-None+in_ok-value-in-None}
use Rattle.si_share.proofs.inward.+value_in.Goals as goal

pub tuple_in-items-init : goal.tuple_in-items-init
tuple_in-items-init t c =
    let v = has _ c.requires.known in
    let g = grouped_values (values_of_parcels (trees_of c.args.items.now)) v.0 v.1 in
    let l = listed_values g.values in
    let all = g.values_are ∙ ap (λ vs. Some vs) l.1 in record {
      values = (l.0, all, rw c.in_ok-values.ensures.items all);
      lie = rw c.in_ok-values.ensures.items tt;
      extends = extends_same c.args.arena.now;
      store = refl;
    }

pub tuple_in-value_in-requires : goal.tuple_in-value_in-requires
tuple_in-value_in-requires t c =
    let ts = c.args.items.now in
    let part = less_than_trees ts c.items.item-index c.item-item.result c.items-test.true c.item-item.is in
    let left = ap (λ us. values_of_parcels (trees_of us)) (left_tree ts c.items.item-index c.item-item.result c.item-item.is c.items-test.true) in
    let s = split_values (value_of_parcel c.item-item.result) (values_of_parcels (trees_of (drop (c.items.item-index + 1) ts))) c.items.invariant.values.0 (sym left ∙ c.items.invariant.values.1) in
    (omega (arith, c.decreases, part), ap is_some s.3)

pub tuple_in-returns-in_err-value-in-None : goal.tuple_in-returns-in_err-value-in-None
tuple_in-returns-in_err-value-in-None t c =
    let ts = c.args.items.now in
    let left = ap (λ us. values_of_parcels (trees_of us)) (left_tree ts c.items.item-index c.item-item.result c.item-item.is c.items-test.true) in
    let s = split_values (value_of_parcel c.item-item.result) (values_of_parcels (trees_of (drop (c.items.item-index + 1) ts))) c.items.invariant.values.0 (sym left ∙ c.items.invariant.values.1) in
    let p = err_from_is_err_and c.from_residual-in_err-value-in-None.result c.from_residual-in_err-value-in-None.ensures.1 in
    rw p.1 (part_left c.item-item.result ts _ c.args.arena.now c.items.arena c.value_in.new.arena s.0 s.3 c.items.invariant.extends c.items.invariant.store c.in_err-value-in-None.ensures.copied)

pub tuple_in-returns-in-Err : goal.tuple_in-returns-in-Err
tuple_in-returns-in-Err t c =
    let copied : CopiesIn c.item-item.result c.items.arena c.match-scalar_in.arena (Ok c.match-scalar_in.value) = elim c.match-scalar_in.branch [
      | tuple_in-in-Some w ↦ rw (w.arena-is, w.value-is) (scalar_copied c.items.arena c.item-item.result w.in-Some.value (sym w.in-Some.ensures))
      | tuple_in-in-None+in_ok-value-in-None w ↦ rw (w.arena-is, w.value-is) w.in_ok-value-in-None.ensures.copied
    ] in
    (tt, (extends_more c.items.invariant.extends copied.2.extends, copied.2.store ∙ c.items.invariant.store))

pub tuple_in-items-preserved : goal.tuple_in-items-preserved
tuple_in-items-preserved t c =
    let ts = c.args.items.now in
    let inv = c.items.invariant in
    let left = ap (λ us. values_of_parcels (trees_of us)) (left_tree ts c.items.item-index c.item-item.result c.item-item.is c.items-test.true) in
    let s = split_values (value_of_parcel c.item-item.result) (values_of_parcels (trees_of (drop (c.items.item-index + 1) ts))) inv.values.0 (sym left ∙ inv.values.1) in
    let copied : CopiesIn c.item-item.result c.items.arena c.match-scalar_in.arena (Ok c.match-scalar_in.value) = elim c.match-scalar_in.branch [
      | tuple_in-in-Some w ↦ rw (w.arena-is, w.value-is) (scalar_copied c.items.arena c.item-item.result w.in-Some.value (sym w.in-Some.ensures))
      | tuple_in-in-None+in_ok-value-in-None w ↦ rw (w.arena-is, w.value-is) w.in_ok-value-in-None.ensures.copied
    ] in
    let next = c.match-scalar_in.arena in
    let one = c.match-scalar_in.value in
    let same : Some s.0 ≡ Some copied.0 = sym s.3 ∙ copied.1 in
    let first : s.0 ≡ value_of next one = (let v : s.0 ≡ copied.0 = cc in v ∙ sym copied.2.denotes) in
    let kept = all-lasts c.items.values.items copied.2.extends.lasts inv.lie in
    let there = all_lie_push next c.items.values.items one (all_lie-extends c.items.values.items copied.2.extends inv.lie) copied.2.lies in
    let here =
    inv.values.2 ∙ ap (λ us. Some (values_of (all_of c.items.arena c.items.values.items ++ us))) (s.2 ∙ ap (λ v. v ∷ s.1) first)
    ∙ ap (λ us. Some (values_of (us ++ value_of next one ∷ s.1))) (sym kept)
    ∙ ap (λ us. Some (values_of us)) (sym (append_assoc (all_of next c.items.values.items) (value_of next one ∷ []) s.1))
    ∙ ap (λ us. Some (values_of (us ++ s.1))) (sym (all_push next c.items.values.items one)) in record {
      values = (s.1, s.4, rw (c.push.ensures.items, c.in-Ok.is) here);
      lie = rw (c.push.ensures.items, c.in-Ok.is) there;
      extends = extends_more inv.extends copied.2.extends;
      store = copied.2.store ∙ inv.store;
    }

pub tuple_in-returns-in-Ok-place_tuple : goal.tuple_in-returns-in-Ok-place_tuple
tuple_in-returns-in-Ok-place_tuple t c =
    let ts = c.args.items.now in
    let inv = c.items.invariant in
    let none = drop_all c.items.item-index ts (omega (arith, c.items-test.false)) in
    let empty : Some NoValues ≡ Some (values_of inv.values.0) = ap (λ us. values_of_parcels (trees_of us)) (sym none) ∙ inv.values.1 in
    let whole = complete_values (all_of c.items.arena c.items.values.items) inv.values.0 cc in
    let all = inv.values.2 ∙ ap (λ us. Some (values_of us)) whole in
    let p = (rw c.as_slice.ensures.value at c.in-Ok-place_tuple.ensures.tuple).1 in (
      pure.tuple_of (all_of c.items.arena c.items.values.items),
      ap (option_map pure.Tuple) all,
      record { denotes = p.denotes; lies = p.lies; extends = extends_more inv.extends p.extends; store = p.store ∙ inv.store },
    )

pub tuple_in-unreachable-requires : goal.tuple_in-unreachable-requires
tuple_in-unreachable-requires t c =
    let ts = c.args.items.now in
    let inv = c.items.invariant in
    let none = drop_all c.items.item-index ts (omega (arith, c.items-test.false)) in
    let empty : Some NoValues ≡ Some (values_of inv.values.0) = ap (λ us. values_of_parcels (trees_of us)) (sym none) ∙ inv.values.1 in
    let whole = complete_values (all_of c.items.arena c.items.values.items) inv.values.0 cc in
    let all = inv.values.2 ∙ ap (λ us. Some (values_of us)) whole in
    let small = not_too_large ts (all_of c.items.arena c.items.values.items) c.requires.fits all in
    let large = raised_large (all_of c.items.arena c.as_slice.result.now) c.items.arena c.place_tuple.new.self c.in-Err-Raises.field-0 c.in-Err-Raises.field-0-0 c.in-Err-Raises.field-0-is c.in-Err-Raises.ensures.tuple in
    let both : false ≡ true = sym small ∙ ap (λ rs. is_too_large (pure.tuple_of (all_of c.items.arena rs))) (sym c.as_slice.ensures.value) ∙ large in
    absurd (false≢true both)
